use Rattle.std.proofs.Common.{rules}
use Rattle.std.proofs.lemmas.List.Sorted.{answers_always}
use Rattle.qstore_accounts.proofs.Search.{searched-declared, searched-slot}
use Rattle.qstore_accounts.proofs.ledger.Ledger.slot.Goals as goal

-- the closure gives a kept holder's id, and the slice is the ledger's kept holders
pub returns : goal.returns
returns c =
    let holders = c.deref.result.now in
    let facts = c.binary_search_by_key.ensures in
    let by_key = facts.position (λ o. o.id) (answers_always _ _ _ (λ f a r g called. search rules)) in
    record {
      declared = rw (c.ok.ensures.value, ← c.self.view_is, ← c.deref.ensures.value)
          (searched-declared holders c.args.id c.binary_search_by_key.result (rw c.deref.ensures.value c.self.invariant) facts.bound by_key);
      slot = rw (c.ok.ensures.value, ← c.self.view_is, ← c.deref.ensures.value)
          (searched-slot holders c.args.id c.binary_search_by_key.result facts.bound by_key);
      by_id = rw (← c.self.view_is) c.self.invariant;
    }
