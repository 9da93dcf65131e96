use Rattle.std.proofs.Common.{◌≡◌, ap, sym, subst, ◌∙◌, All}
use mathlib.Core.List.{IsPrefix}
use Rattle.qplain.specs.Journal.{tally_of}
use Rattle.qshare.specs.Locked.{Locked}
use Rattle.qshare.proofs.Ending.{end_balances}
use Rattle.qshare_history.specs.Shares.{tally_of_shares}
use Rattle.qshare.proofs.locked_store.LockedStore.close.Goals as goal

pub returns-clause-end : goal.returns-clause-end
returns-clause-end g c =
    let locked = c.self.invariant.0 in
    let tally : tally_of_shares c.args.shares.items ≡ tally_of c.self.inside.store.journal =
    sym (ap (λ a. a.tally) c.together-all.ensures.all) ∙ sym c.reconcile.ensures.same ∙ locked.tally_is in
    record {
      played = locked.of.played;
      tally = tally;
      balanced = end_balances c.self.inside.store (tally_of_shares c.args.shares.items) locked.of.played tally;
      seen = subst (λ (v : Locked). All (λ s. IsPrefix s.seen v.journal) c.args.shares.items) (sym c.self.view_is)
          (subst (All (λ s. IsPrefix s.seen c.args.self.journal)) c.deref.ensures.value c.await_all.ensures);
      moments = locked.moments;
    }
