use Rattle.std.proofs.Common.{◌∷◌, ◌++◌, [], refl, sym, ap, subst, ◌∙◌, arith}
use Rattle.std.proofs.lemmas.Option.{slice_get_within}
use Rattle.qplain.specs.Journal.{CanCount, counted, tally_of}
use Rattle.qplain_laws.proofs.Tallying.{tally-one_more}
use Rattle.qstore_journaled.specs.KeptJournaled.{journaled_of}
use Rattle.qstore_journaled.proofs.Journaling.{next-counts, next-played, one_more, told-next}
use Rattle.qstore_journaled.proofs.journaled_store.JournaledStore.commit.Goals as goal

pub with_call-self-inside-requires : goal.with_call-self-inside-requires
with_call-self-inside-requires c =
    let a = c.self.inside in
    let j = journaled_of a in
    let e = c.next-entry.result.now in
    let next = told-next j _ e c.requires c.self.view_is c.next-entry.ensures in
    record {
      room = subst (λ t. CanCount t c.change-change.result) (sym c.self.invariant.tallies)
          (subst (CanCount (tally_of j.journal)) (sym c.change-change.ensures) (next-counts j e c.self.invariant.played next));
    }

pub invariant_of-self : goal.invariant_of-self
invariant_of-self c =
    let a = c.self.inside in
    let j = journaled_of a in
    let e = c.next-entry.result.now in
    let next = told-next j _ e c.requires c.self.view_is c.next-entry.ensures in
    let entries = one_more a.entries.items a.len e next.is in
    record {
      played = next-played j _ e c.self.invariant.played c.call_is_typed.ensures next refl refl entries
          c.commit.ensures;
      len = omega (arith, slice_get_within a.entries.items a.len e next.is);
      tallies = c.with_call-self-inside.ensures ∙ (λ i. counted (c.self.invariant.tallies i) (c.change-change.ensures i))
          ∙ sym (tally-one_more j.journal e) ∙ ap tally_of (sym entries);
    }

pub returns-clause-journal : goal.returns-clause-journal
returns-clause-journal c = λ e is.
    let a = c.self.inside in
    one_more a.entries.items a.len e (ap (λ j. j.next) c.self.view_is ∙ is) ∙ ap (λ j. j.journal ++ e ∷ []) c.self.view_is

pub returns-clause-played : goal.returns-clause-played
returns-clause-played c =
    let a = c.self.inside in
    let j = journaled_of a in
    let e = c.next-entry.result.now in
    let next = told-next j _ e c.requires c.self.view_is c.next-entry.ensures in
    next-played j _ e c.self.invariant.played c.call_is_typed.ensures next refl refl
    (one_more a.entries.items a.len e next.is) c.commit.ensures
