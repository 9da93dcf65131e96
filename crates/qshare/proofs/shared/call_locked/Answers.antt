use Rattle.std.proofs.Common.{◌≡◌, ap, rules, subst, ◌∙◌}
use mathlib.Core.List.{IsPrefix}
use Rattle.qshare_history.proofs.Prefixes.{prefix_trans}
use Rattle.qshare.proofs.Growing.{goes_on, seen_of}
use Rattle.qshare.proofs.shared.call_locked.Goals as goal

pub returns-clause-seen : goal.returns-clause-seen
returns-clause-seen g c =
    let begins : IsPrefix c.args.seat.now.seen c.args.store.now.journal =
    seen_of c.prefix.ensures.prefix c.await_seen.ensures.published c.await_seen.ensures.journal in
    let grown : IsPrefix c.args.store.now.journal c.apply-answer.new.self.journal =
    goes_on g.A.ReceiptForm.form _ _ _ _ _ _ c.apply-answer.result _ _ _ _ c.apply-answer.ensures.ok c.apply-answer.ensures.err in
    let all : c.apply-answer.new.self.journal ≡ c.catch_up.new.self.seen = search rules in
    record {
      worker = ap (λ s. s.worker) c.catch_up.ensures.seat ∙ ap (λ s. s.worker) c.seat.view_is;
      begins = subst (IsPrefix c.args.seat.now.seen) all (prefix_trans _ _ _ begins grown);
      legal = search rules;
    }
