use Rattle.std.proofs.Common.{◌≡◌, ◌∷◌, [], All, ap, subst, sym, ◌∙◌}
use Rattle.std.proofs.lemmas.List.Elements.{All-append, All-cons, All-nil}
use Rattle.qplain.specs.declared.entry.Entry.{Entry}
use Rattle.qplain.specs.Setups.{Setting}
use Rattle.qstore_journaled.specs.Journaled.{Journaled}
use Rattle.qsession.specs.declared.recorder.TheConstants.{WORKER}
use Rattle.qsession.proofs.recorder.Recorder.commit.Goals as goal

pub invariant_of-self : goal.invariant_of-self
invariant_of-self c =
    let Own : Entry → Type 0 = λ e. e.worker ≡ WORKER in
    let old = c.self.inside.store.journal in
    let e = c.requires.entry in
    let done = c.commit-place.ensures in
    let entries = done.journal e (ap (λ (j : Journaled). j.next) c.self.view_is ∙ c.requires.next.is) in
    record {
      newest = ap (λ (s : Setting). s.edition) done.setting ∙ c.self.invariant.newest;
      own = subst (All Own) (sym entries)
          (All-append Own old (e ∷ []) c.self.invariant.own (All-cons Own e [] c.requires.own (All-nil Own)));
    }
