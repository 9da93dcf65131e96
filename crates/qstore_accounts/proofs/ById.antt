-- The slots of kept holders in the order of their ids: each id stands once.
use Rattle.std.proofs.Common.{◌≡◌, ℕ, zero, suc, ◌+◌, ◌<◌, ◌==◌, Bool, true, false, cond, if◌then◌else◌, List, [], ◌∷◌, length, get_or, set, map, All, Option, Some, None, option_map, slice_get, refl, sym, ap, subst, ◌∙◌, tests, arith}
use Rattle.std.specs.List.{AllByRecursion}
use Rattle.std.specs.List.Sorted.{IsStrictlyIncreasing}
use Rattle.std.proofs.lemmas.Bool.{cond-false, cond-true}
use Rattle.std.proofs.lemmas.List.Elements.{All-head, All-tail}
use Rattle.std.proofs.lemmas.List.Kept.{AllPairs-from_increasing}
use Rattle.qrules.specs.declared.graces.Graces.{Graces}
use Rattle.qplain.specs.declared.principal.Principal.{Principal}
use Rattle.qstore_accounts.specs.declared.kept_holder.KeptHolder.{KeptHolder}
use Rattle.qstore_accounts.specs.KeptHolders.{AreById, IsSlotOf}
use Rattle.qstore_accounts.specs.Ledgers.{new_holder}
use Rattle.qstore_accounts.specs.declared.bill.Posting.{Posting}
use Rattle.qstore_accounts.specs.declared.bill.Postings.{Postings}
use Rattle.qstore_accounts.specs.Bills.{IsPlaced, account_after, post, posted}

-- all these kept holders have greater ids
abbrev pub AreAbove : ℕ → List KeptHolder → Type 0
AreAbove id holders = AllByRecursion (λ o. id < o.id) holders

-- what is below all numbers of a list is below all ids that they are
above-from : (id : ℕ) (os : List KeptHolder) → All (λ other. id < other) (map (λ o. o.id) os) → AreAbove id os
above-from id [] all = tt
above-from id (o ∷ os) all =
    (All-head (λ other. id < other) o.id (map (λ p. p.id) os) all, above-from id os (All-tail (λ other. id < other) o.id (map (λ p. p.id) os) all))

-- the first kept holder's id is below all others
pub above-first : (o : KeptHolder) (os : List KeptHolder) → AreById (o ∷ os) → AreAbove o.id os
above-first o os by_id =
    above-from o.id os (λ k d within. AllPairs-from_increasing (map (λ p. p.id) (o ∷ os)) by_id zero (suc k) d (omega arith) (omega arith))

-- the kept holders after the first are in order too
pub by_id-rest : (o : KeptHolder) (os : List KeptHolder) → AreById (o ∷ os) → AreById os
by_id-rest o os by_id k within =
    let next : suc k + 1 ≡ suc (k + 1) = omega arith in
    subst (λ n. get_or (map (λ p. p.id) os) k 0 < get_or (o.id ∷ map (λ p. p.id) os) n 0) next (by_id (suc k) (omega arith))

-- an id that stands among kept holders with greater ids is greater
pub above-slot : (n id : ℕ) (os : List KeptHolder) (slot : ℕ) → AreAbove n os → IsSlotOf os slot id → n < id
above-slot n id [] slot above there = cc
above-slot n id (o ∷ os) zero above there = let same : o.id ≡ id = cc in subst (λ m. n < m) same above.0
above-slot n id (o ∷ os) (suc slot) above there = above-slot n id os slot above.1 there

-- kept holders with greater ids are not the one of this id
pub above-others : (id : ℕ) (os : List KeptHolder) → AreAbove id os → AllByRecursion (λ o. (id == o.id) ≡ false) os
above-others id [] above = tt
above-others id (o ∷ os) above = (grind (arith, tests, above.0), above-others id os above.1)

-- the kept holders after the one of an id are not the one of this id
pub above-others-of : (id : ℕ) (o : KeptHolder) (os : List KeptHolder) → AreById (o ∷ os) → o.id ≡ id → AllByRecursion (λ p. (id == p.id) ≡ false) os
above-others-of id o os by_id same = above-others id os (subst (λ n. AreAbove n os) same (above-first o os by_id))

-- the kept holder at the slot of an id has that id
pub slot-first : (id : ℕ) (o : KeptHolder) (os : List KeptHolder) → IsSlotOf (o ∷ os) zero id → (id == o.id) ≡ true
slot-first id o os there = let same : o.id ≡ id = cc in grind (arith, tests)

-- the first kept holder is not the one whose slot is further on
pub slot-later : (id : ℕ) (o : KeptHolder) (os : List KeptHolder) (slot : ℕ) → AreById (o ∷ os) → IsSlotOf os slot id → (id == o.id) ≡ false
slot-later id o os slot by_id there =
    let below : o.id < id = above-slot o.id id os slot (above-first o os by_id) there in grind (arith, tests)

-- a slot is below the length
pub slot-below : (os : List KeptHolder) (slot id : ℕ) → IsSlotOf os slot id → slot < length os
slot-below [] slot id there = cc
slot-below (o ∷ os) zero id there = omega arith
slot-below (o ∷ os) (suc slot) id there = let below = slot-below os slot id there in omega arith

-- the slot of a kept holder's id, where the kept holder stands
pub slot-of : (os : List KeptHolder) (slot id : ℕ) (o : KeptHolder) → slice_get os slot ≡ Some o → o.id ≡ id → IsSlotOf os slot id
slot-of os slot id o there same = ap (option_map (λ p. p.id)) there ∙ ap Some same

-- ---- a write at a slot

-- the change of the kept holder of one id
abbrev pub changed : ℕ → (KeptHolder → KeptHolder) → KeptHolder → KeptHolder
changed id f o = if id == o.id then f o else o

-- a write that keeps a kept holder's id keeps all ids
pub ids-set : (os : List KeptHolder) (slot : ℕ) (old new : KeptHolder) → old ≡ get_or os slot old → new.id ≡ old.id
    → map (λ o. o.id) (set os slot new) ≡ map (λ o. o.id) os
ids-set [] slot old new there same = refl
ids-set (o ∷ os) zero old new there same = let kept : new.id ≡ o.id = same ∙ ap (λ p. p.id) there in λ i. kept i ∷ map (λ p. p.id) os
ids-set (o ∷ os) (suc slot) old new there same = λ i. o.id ∷ ids-set os slot old new there same i

-- and their order
pub by_id-set : (os : List KeptHolder) (slot : ℕ) (old new : KeptHolder) → old ≡ get_or os slot old → new.id ≡ old.id → AreById os → AreById (set os slot new)
by_id-set os slot old new there same by_id =
    subst (λ ids. (k : ℕ) → k + 1 < length ids → get_or ids k 0 < get_or ids (k + 1) 0) (sym (ids-set os slot old new there same)) by_id

-- a change of the kept holder of one id leaves all others
pub changed-others : (id : ℕ) (f : KeptHolder → KeptHolder) (os : List KeptHolder) → AllByRecursion (λ o. (id == o.id) ≡ false) os → map (changed id f) os ≡ os
changed-others id f [] others = refl
changed-others id f (o ∷ os) others = λ i. cond-false (id == o.id) (f o) o others.0 i ∷ changed-others id f os others.1 i

-- a write at the slot of an id is the change of its kept holder, wherever it stands
pub set-changed : (id : ℕ) (f : KeptHolder → KeptHolder) (os : List KeptHolder) (slot : ℕ) (old new : KeptHolder) → AreById os → IsSlotOf os slot id
    → old ≡ get_or os slot old → new ≡ f old → set os slot new ≡ map (changed id f) os
set-changed id f [] slot old new by_id there read written = refl
set-changed id f (o ∷ os) zero old new by_id there read written =
    let same : o.id ≡ id = cc in
    let here : new ≡ changed id f o = written ∙ ap f read ∙ sym (cond-true (id == o.id) (f o) o (slot-first id o os there)) in
    let rest : os ≡ map (changed id f) os = sym (changed-others id f os (above-others-of id o os by_id same)) in
    λ i. here i ∷ rest i
set-changed id f (o ∷ os) (suc slot) old new by_id there read written =
    let here : o ≡ changed id f o = sym (cond-false (id == o.id) (f o) o (slot-later id o os slot by_id there)) in
    let rest : set os slot new ≡ map (changed id f) os = set-changed id f os slot old new (by_id-rest o os by_id) there read written in
    λ i. here i ∷ rest i

-- a change of kept holders that keeps their ids keeps their order
by_id-changed : (id : ℕ) (f : KeptHolder → KeptHolder) → ((o : KeptHolder) → (f o).id ≡ o.id) → (os : List KeptHolder) → AreById os → AreById
    (map (changed id f) os)
by_id-changed id f keeps os by_id = subst (λ ids. (k : ℕ) → k + 1 < length ids → get_or ids k 0 < get_or ids (k + 1) 0) (sym (ids os)) by_id
  where
    kept : (b : Bool) (o : KeptHolder) → (cond b (f o) o).id ≡ o.id
    kept true o = keeps o
    kept false o = refl

    ids : (ps : List KeptHolder) → map (λ o. o.id) (map (changed id f) ps) ≡ map (λ o. o.id) ps
    ids [] = refl
    ids (p ∷ ps) = λ i. kept (id == p.id) p i ∷ ids ps i

module _ (graces : Graces) (moment : ℕ) where
  -- no posting changes none
  pub post-none : (os : List KeptHolder) → map (post graces moment None) os ≡ os
  post-none [] = refl
  post-none (o ∷ os) = λ i. o ∷ post-none os i

  -- both postings of a kind are one after the other
  pub posted-both : (p : Postings) (os : List KeptHolder)
      → map (posted graces moment p) os ≡ map (post graces moment p.to) (map (post graces moment p.from) os)
  posted-both p [] = refl
  posted-both p (o ∷ os) = λ i. posted graces moment p o ∷ posted-both p os i

  -- what a posting makes of the kept holder of its id
  abbrev pub changed_by : Posting → KeptHolder → KeptHolder
  changed_by p o = record o { account = account_after p.change o.account graces moment }

  -- a posting keeps ids
  pub post-id : (posting : Option Posting) (o : KeptHolder) → (post graces moment posting o).id ≡ o.id
  post-id None o = refl
  post-id (Some p) o = by (p.id == o.id)
    where
      by : (b : Bool) → (cond b (changed_by p o) o).id ≡ o.id
      by true = refl
      by false = refl

  -- so what stood at the slot of an id does so still
  pub placed-after : (posting : Option Posting) (os : List KeptHolder) (slot id : ℕ) → IsSlotOf os slot id
      → IsSlotOf (map (post graces moment posting) os) slot id
  placed-after posting [] slot id there = cc
  placed-after posting (o ∷ os) zero id there = ap Some (post-id posting o) ∙ there
  placed-after posting (o ∷ os) (suc slot) id there = placed-after posting os slot id there

  -- and so does another posting
  pub placed-then : (os : List KeptHolder) (first second : Option Posting) → IsPlaced os second
      → IsPlaced (map (post graces moment first) os) second
  placed-then os first None placed = placed
  placed-then os first (Some q) placed = record { slot = placed-after first os q.slot q.id placed.slot; countable = placed.countable }

  -- a posting is a change of the kept holder of its id
  pub by_id-post : (posting : Option Posting) (os : List KeptHolder) → AreById os → AreById (map (post graces moment posting) os)
  by_id-post None os by_id = subst AreById (sym (post-none os)) by_id
  by_id-post (Some p) os by_id = by_id-changed p.id (changed_by p) (λ o. refl) os by_id

  -- both postings keep the order
  pub by_id-posted : (p : Postings) (os : List KeptHolder) → AreById os → AreById (map (posted graces moment p) os)
  by_id-posted p os by_id =
      subst AreById (sym (posted-both p os)) (by_id-post p.to (map (post graces moment p.from) os) (by_id-post p.from os by_id))

-- ---- new kept holders

-- new kept holders have the ids of their principals
ids-new : (graces : Graces) (ps : List Principal) → map (λ o. o.id) (map (new_holder graces) ps) ≡ map (λ p. p.id) ps
ids-new graces [] = refl
ids-new graces (p ∷ ps) = λ i. p.id ∷ ids-new graces ps i

-- so they are in order where the principals are
pub by_id-new : (graces : Graces) (ps : List Principal) → IsStrictlyIncreasing (map (λ p. p.id) ps) → AreById (map (new_holder graces) ps)
by_id-new graces ps rise = subst (λ ids. (k : ℕ) → k + 1 < length ids → get_or ids k 0 < get_or ids (k + 1) 0) (sym (ids-new graces ps)) rise
