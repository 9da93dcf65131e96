-- What the shares of a claim take of each record.
use Rattle.std.proofs.Common.{◌≡◌, ℕ, zero, suc, ◌+◌, ◌-◌, ◌<◌, ◌≤◌, ◌==◌, Bool, true, false, cond, List, [], ◌∷◌, All, Option, Some, None, IfSome, length, option_map, slice_get, refl, sym, ap, subst, ◌∙◌, tests, arith}
use Rattle.std.proofs.lemmas.Option.{get_or_from_slice_get, slice_get_within, same_Some}
use Rattle.std.proofs.lemmas.List.Elements.{All-get_or}
use Rattle.qrules.specs.declared.kind.Kind.{Kind}
use Rattle.qrules.specs.declared.record.TheConstants.{MAX_USE}
use Rattle.qrules.specs.Sort.{Sort, Inodes, Blocks}
use Rattle.qrules.specs.Kinds.{is_id}
use Rattle.qplain.specs.State.{Inode, State}
use Rattle.qplain.specs.Use.{belongs_to, owner, use_of, weight}
use Rattle.qplain_laws.specs.Replaces.{charge_of, weight_of}
use Rattle.qplain_laws.proofs.Replacing.{use-le-total}
use Rattle.qstore_accounts.specs.declared.claim.OwnerClaim.{OwnerClaim}
use Rattle.qstore_accounts.specs.declared.claim.Weight.{Weight}
use Rattle.qstore_accounts.specs.declared.kept_holder.KeptHolder.{KeptHolder}
use Rattle.qstore_accounts.specs.Claims.{IsShareOf, nothing, weight_at}
use Rattle.qstore_accounts.specs.KeptHolders.{AreById, IsCountedIn, IsSlotFor, IsSlotOf}
use Rattle.qstore_accounts.specs.Ledgers.{IsLedgerReplacement, apart}
use Rattle.qstore_accounts.proofs.ById.{above-first, above-slot, by_id-rest, slot-below}

-- an id stands at one slot alone
pub slot-once : (os : List KeptHolder) (i j id : ℕ) → AreById os → IsSlotOf os i id → IsSlotOf os j id → i ≡ j
slot-once [] i j id by_id first second = cc
slot-once (o ∷ os) zero zero id by_id first second = refl
slot-once (o ∷ os) zero (suc j) id by_id first second =
    let same : o.id ≡ id = cc in
    let below : o.id < id = above-slot o.id id os j (above-first o os by_id) second in absurd (omega arith)
slot-once (o ∷ os) (suc i) zero id by_id first second =
    let same : o.id ≡ id = cc in
    let below : o.id < id = above-slot o.id id os i (above-first o os by_id) first in absurd (omega arith)
slot-once (o ∷ os) (suc i) (suc j) id by_id first second = ap suc (slot-once os i j id (by_id-rest o os by_id) first second)

-- the id of the kept holder at the slot of an id
pub id-there : (os : List KeptHolder) (slot id : ℕ) (o : KeptHolder) → IsSlotOf os slot id → slice_get os slot ≡ Some o → o.id ≡ id
id-there os slot id o slot_is there = same_Some o.id id (sym (ap (option_map (λ p. p.id)) there) ∙ slot_is)

-- the kept holder there is counted
pub counted-there : (S : State) (kind : Kind) (os : List KeptHolder) (slot : ℕ) (o : KeptHolder) → All (IsCountedIn S kind) os
    → slice_get os slot ≡ Some o → IsCountedIn S kind o
counted-there S kind os slot o counted there = subst (IsCountedIn S kind) (get_or_from_slice_get os slot o o there)
    (All-get_or (IsCountedIn S kind) os slot o (slice_get_within os slot o there) counted)

-- what is counted of each sort
abbrev pub part : Sort → Weight → ℕ
part Inodes w = w.inodes
part Blocks w = w.blocks

-- what the share takes of the record at a slot is what the inode takes of that principal's quota
pub taken-at : (os : List KeptHolder) (kind : Kind) (share : Option OwnerClaim) (inode : Option Inode) (slot : ℕ) (o : KeptHolder) (sort : Sort)
    → AreById os → IsShareOf os kind share inode → slice_get os slot ≡ Some o → part sort (weight_at share slot) ≡ charge_of kind o.id sort inode
taken-at os kind None None slot o Inodes by_id is there = refl
taken-at os kind None None slot o Blocks by_id is there = refl
taken-at os kind None (Some inode) slot o sort by_id is there = by (owner kind inode.owners) is
  where
    none : (s : Sort) → part s nothing ≡ 0
    none Inodes = refl
    none Blocks = refl

    by : (w : Option ℕ) → IsSlotFor os None w → part sort nothing ≡ cond (is_id o.id w) (weight sort inode) 0
    by None is = none sort
    by (Some id) is = cc
taken-at os kind (Some share) None slot o sort by_id is there = cc
taken-at os kind (Some share) (Some inode) slot o sort by_id is there = owned (owner kind inode.owners) is.slot
  where
    weighs : (s : Sort) → part s share.weight ≡ weight s inode
    weighs Inodes = is.weight.inodes
    weighs Blocks = is.weight.blocks

    none : (s : Sort) → part s nothing ≡ 0
    none Inodes = refl
    none Blocks = refl

    own : IsSlotOf os slot o.id
    own = ap (option_map (λ p. p.id)) there

    by : (id : ℕ) → IsSlotOf os share.slot id → (b c : Bool) → (share.slot == slot) ≡ b → (id == o.id) ≡ c
        → part sort (cond b share.weight nothing) ≡ cond c (weight sort inode) 0
    by id placed true true e f = weighs sort
    by id placed false false e f = none sort
    by id placed true false e f =
        let same : share.slot ≡ slot = grind (arith, tests) in
        let is_id : o.id ≡ id = id-there os slot id o (subst (λ n. IsSlotOf os n id) same placed) there in
        absurd (grind (arith, tests))
    by id placed false true e f =
        let is_id : id ≡ o.id = grind (arith, tests) in
        let same : share.slot ≡ slot = slot-once os share.slot slot o.id by_id (subst (λ n. IsSlotOf os share.slot n) is_id placed) own in
        absurd (grind (arith, tests))

    owned : (w : Option ℕ) → IsSlotFor os (Some share.slot) w
        → part sort (cond (share.slot == slot) share.weight nothing) ≡ cond (is_id o.id w) (weight sort inode) 0
    owned None placed = cc
    owned (Some id) placed = by id placed (share.slot == slot) (id == o.id) refl refl

-- a principal is charged no more than the inode weighs
charge-le : (kind : Kind) (id : ℕ) (sort : Sort) (inode : Option Inode) → charge_of kind id sort inode ≤ weight_of sort inode
charge-le kind id sort None = omega arith
charge-le kind id sort (Some inode) = by (belongs_to kind id inode)
  where
    by : (b : Bool) → cond b (weight sort inode) 0 ≤ weight sort inode
    by true = omega arith
    by false = omega arith

module _ (os : List KeptHolder) (kind : Kind) (from to : Option OwnerClaim) (S S1 : State) (f t : Option Inode) (by_id : AreById os)
    (r : IsLedgerReplacement os kind from to S S1 f t) (slot : ℕ) (o : KeptHolder) (there : slice_get os slot ≡ Some o) where
  -- what the record counts of a sort
  abbrev pub counts : Sort → ℕ
  counts Inodes = o.account.inodes
  counts Blocks = o.account.blocks

  counts-use : (sort : Sort) → counts sort ≡ use_of S kind o.id sort
  counts-use Inodes = (counted-there S kind os slot o r.counted there).inodes
  counts-use Blocks = (counted-there S kind os slot o r.counted there).blocks

  -- the use then is that of the record, and what is gained, less what is lost
  pub use-then : (sort : Sort) → use_of S1 kind o.id sort ≡ counts sort + part sort (weight_at to slot) - part sort (weight_at from slot)
  use-then sort =
      let sum = r.replaces.uses kind o.id sort in
      let old = counts-use sort in
      let gained = taken-at os kind to t slot o sort by_id r.gained there in
      let lost = taken-at os kind from f slot o sort by_id r.lost there in
      omega (arith, sum, old, gained, lost)

  -- no more is lost than is there
  pub lost-le : (sort : Sort) → part sort (weight_at from slot) ≤ counts sort + part sort (weight_at to slot)
  lost-le sort =
      let sum = r.replaces.uses kind o.id sort in
      let old = counts-use sort in
      let gained = taken-at os kind to t slot o sort by_id r.gained there in
      let lost = taken-at os kind from f slot o sort by_id r.lost there in
      omega (arith, sum, old, gained, lost)

  -- and the use stays within what a record may count
  pub gained-le : (sort : Sort) → counts sort + part sort (weight_at to slot) ≤ MAX_USE
  gained-le sort =
      let sum = r.replaces.uses kind o.id sort in
      let old = counts-use sort in
      let gained = taken-at os kind to t slot o sort by_id r.gained there in
      let few = r.few sort in
      let lost = charge-le kind o.id sort f in
      let most = use-le-total S1 kind o.id sort in
      omega (arith, sum, old, gained, few, lost, most)

-- a share's slot is among the records
pub share-below : (os : List KeptHolder) (kind : Kind) (share : Option OwnerClaim) (inode : Option Inode) → IsShareOf os kind share inode
    → IfSome share (λ s. s.slot < length os)
share-below os kind None inode is = tt
share-below os kind (Some share) None is = cc
share-below os kind (Some share) (Some inode) is = by (owner kind inode.owners) is.slot
  where
    by : (w : Option ℕ) → IsSlotFor os (Some share.slot) w → share.slot < length os
    by None placed = cc
    by (Some id) placed = slot-below os share.slot id placed

-- and so is the slot of the one that is given up, where it has another record
pub apart-below : (os : List KeptHolder) (from to : Option OwnerClaim) → IfSome from (λ s. s.slot < length os)
    → IfSome (apart from to) (λ s. s.slot < length os)
apart-below os None to below = tt
apart-below os (Some lost) None below = below
apart-below os (Some lost) (Some gained) below = by (lost.slot == gained.slot)
  where
    by : (b : Bool) → IfSome (cond b None (Some lost)) (λ s. s.slot < length os)
    by true = tt
    by false = below
