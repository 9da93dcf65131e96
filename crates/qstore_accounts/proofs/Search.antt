-- What a binary search answers among kept holders in the order of their ids.
use Rattle.std.proofs.Common.{◌≡◌, ℕ, ◌<◌, ◌≤◌, ◌==◌, ⊎_elim, true, false, List, [], ◌∷◌, length, get_or, map, Some, option_map, is_some, IfSome, Result, Ok, Err, sym, ap, ◌∙◌, tests, arith}
use Rattle.std.specs.Result.{result_ok}
use Rattle.std.specs.declared.cmp.Ordering.TheVariants.{Less, Equal, Greater}
use Rattle.std.specs.Ordering.{nat_cmp, ordering_index}
use Rattle.std.specs.List.{list_any, HoldsAt, AllWithin}
use Rattle.std.specs.List.Sorted.{IsBinarySearchResult, IsNonDecreasingBy, IsSearchInRange}
use Rattle.std.proofs.lemmas.Bool.{cases_lt, cases_eq}
use Rattle.std.proofs.lemmas.Bool.Decides.{nat_tests}
use Rattle.std.proofs.lemmas.Cmp.{ranked}
use Rattle.std.proofs.lemmas.List.{get_or-map, length-map}
use Rattle.std.proofs.lemmas.List.Folds.{list_any_at, list_any_none}
use Rattle.std.proofs.lemmas.List.Kept.{AllPairs-from_increasing}
use Rattle.std.proofs.lemmas.Option.{slice_get-get_or}
use Rattle.qstore_accounts.specs.declared.kept_holder.KeptHolder.{KeptHolder}
use Rattle.qstore_accounts.specs.KeptHolders.{AreById, IsSlotOf}

-- a kept holder's id beside the sought one
abbrev beside : ℕ → KeptHolder → ℕ
beside id o = ordering_index (nat_cmp o.id id)

-- later kept holders have greater ids
ids-rise : (os : List KeptHolder) → AreById os → (i j : ℕ) (d : KeptHolder) → i < j → j < length os → (get_or os i d).id < (get_or os j d).id
ids-rise os by_id i j d earlier within =
    let long : length (map (λ o. o.id) os) ≡ length os = length-map os (λ o. o.id) in
    let apart : get_or (map (λ o. o.id) os) i 0 < get_or (map (λ o. o.id) os) j 0 =
    AllPairs-from_increasing (map (λ o. o.id) os) by_id i j 0 earlier (omega arith) in
    let first : get_or (map (λ o. o.id) os) i 0 ≡ (get_or os i d).id = get_or-map (λ o. o.id) os i d 0 (omega arith) in
    let second : get_or (map (λ o. o.id) os) j 0 ≡ (get_or os j d).id = get_or-map (λ o. o.id) os j d 0 within in
    omega arith

-- the comparisons with an id rise along the kept holders, as a binary search asks
comparisons-rise : (os : List KeptHolder) (id : ℕ) → AreById os → IsNonDecreasingBy (beside id) os
comparisons-rise os id by_id i j d le within =
    ⊎_elim
    (λ (same : i ≡ j). let e : beside id (get_or os i d) ≡ beside id (get_or os j d) = ap (λ k. beside id (get_or os k d)) same in omega arith)
    (λ apart. let less : (get_or os i d).id < (get_or os j d).id = ids-rise os by_id i j d (omega arith) within in grind (arith, nat_tests))
    (cases_eq i j)

-- the kept holder that a search has found
found : (os : List KeptHolder) (id slot : ℕ) → slot < length os → HoldsAt (λ o. nat_cmp o.id id ≡ Equal) os slot → IsSlotOf os slot id
found [] id slot within equal = absurd (omega arith)
found (o ∷ os) id slot within equal =
    let same : (get_or (o ∷ os) slot o).id ≡ id = ranked _ id _ (sym (equal o)) in
    ap (option_map (λ p. p.id)) (slice_get-get_or (o ∷ os) slot o within) ∙ ap Some same

-- and so some kept holder has the id
found-any : (os : List KeptHolder) (id slot : ℕ) → slot < length os → HoldsAt (λ o. nat_cmp o.id id ≡ Equal) os slot → list_any (λ o. id == o.id) os ≡ true
found-any [] id slot within equal = absurd (omega arith)
found-any (o ∷ os) id slot within equal =
    let same : (get_or (o ∷ os) slot o).id ≡ id = ranked _ id _ (sym (equal o)) in
    list_any_at (λ p. id == p.id) (o ∷ os) slot o within (grind (arith, tests))

-- no kept holder has an id for which a search has found a gap
absent : (os : List KeptHolder) (id slot : ℕ)
    → AllWithin (λ o. nat_cmp o.id id ≡ Less) os 0 slot → AllWithin (λ o. nat_cmp o.id id ≡ Greater) os slot (length os)
    → list_any (λ o. id == o.id) os ≡ false
absent os id slot less greater =
    list_any_none (λ o. id == o.id) os (λ k d within.
    ⊎_elim
    (λ (before : k < slot). let below : (get_or os k d).id < id = ranked _ id _ (sym (less k d (omega arith) before)) in grind (arith, tests))
    (λ (behind : slot ≤ k). let above : id < (get_or os k d).id = ranked _ id _ (sym (greater k d behind within)) in grind (arith, tests))
    (cases_lt k slot))

-- whether a search has found a slot tells whether some kept holder has the id
pub searched-declared : (os : List KeptHolder) (id : ℕ) (r : Result ℕ ℕ) → AreById os
    → IsSearchInRange r (length os) → IsBinarySearchResult (λ o. nat_cmp o.id id) os r
    → is_some (result_ok r) ≡ list_any (λ o. id == o.id) os
searched-declared os id (Ok slot) by_id within equal = sym (found-any os id slot within equal)
searched-declared os id (Err slot) by_id within parted =
    let parts = parted (comparisons-rise os id by_id) in sym (absent os id slot parts.0 parts.1)

-- a slot that a search has found is that of the id
pub searched-slot : (os : List KeptHolder) (id : ℕ) (r : Result ℕ ℕ) → IsSearchInRange r (length os) → IsBinarySearchResult (λ o. nat_cmp o.id id) os r
    → IfSome (result_ok r) (λ slot. IsSlotOf os slot id)
searched-slot os id (Ok slot) within equal = found os id slot within equal
searched-slot os id (Err slot) within parted = tt
