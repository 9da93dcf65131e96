use Rattle.std.proofs.Common.{Option, Some, IfSome, set, sym, subst}
use Rattle.std.proofs.lemmas.List.Elements.{All-set}
use Rattle.qplain.specs.Caller.{Caller}
use Rattle.qstore_accounts.specs.declared.known_callers.KnownCaller.{KnownCaller}
use Rattle.qstore_accounts.specs.Callers.{AreKnown, IsKnownAt}
use Rattle.qstore_accounts.proofs.known_callers.KnownCallers.keep.Goals.{in-Some+in-Member-1, in-Some+in-Alone-1, in-None-1}
use Rattle.qstore_accounts.proofs.known_callers.KnownCallers.keep.Goals as goal

-- all are known that were, and so is the one that is kept
pub returns-then-place-len : goal.returns-then-place-len
returns-then-place-len c b all known =
    let x = c.args in
    let items = c.self.inside.places.items in
    let own : IsKnownAt b c.in-Ok.cred x.slots = subst (λ (k : Caller). IsKnownAt b k x.slots) (sym c.in-Ok.ensures) known in
    let kept : AreKnown b (set items c.place_of-place.result (Some (record { cred = c.in-Ok.cred; slots = x.slots }))) =
    All-set (λ (k : Option KnownCaller). IfSome k (λ k. IsKnownAt b k.cred k.slots)) items c.place_of-place.result
    (Some (record { cred = c.in-Ok.cred; slots = x.slots })) own
    (subst (AreKnown b) (sym c.self.view_is) all) in
    subst (AreKnown b) (sym (elim c.match-index_mut.branch [
      | in-Some+in-Member-1 w ↦ w.self-is
      | in-Some+in-Alone-1 w ↦ w.self-is
      | in-None-1 w ↦ w.self-is
    ])) kept
