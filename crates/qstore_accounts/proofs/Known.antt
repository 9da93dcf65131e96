-- Who is known to the books of a state, and stays so.
use Rattle.std.proofs.Common.{◌≡◌, ℕ, ◌==◌, ◌&&◌, ◌||◌, List, [], ◌∷◌, map, Option, None, Some, IfSome, refl, sym, ap, subst, ◌∙◌}
use Rattle.std.specs.List.{list_all, list_any}
use Rattle.std.proofs.lemmas.List.Elements.{All-weaker}
use Rattle.qrules.specs.declared.graces.Graces.{Graces}
use Rattle.qrules.specs.declared.kind.Kind.{Kind}
use Rattle.qrules.specs.declared.kind.Kind.TheVariants.{User, Group}
use Rattle.qplain.specs.Known.{is_declared, is_holder, is_known}
use Rattle.qplain.specs.Caller.{Caller}
use Rattle.qplain.specs.State.{State}
use Rattle.qplain.specs.Use.{owner}
use Rattle.qstore_accounts.specs.declared.bill.Bill.{Bill}
use Rattle.qstore_accounts.specs.declared.bill.Postings.{Postings}
use Rattle.qstore_accounts.specs.declared.claim.Slots.{Slots}
use Rattle.qstore_accounts.specs.declared.kept_holder.KeptHolder.{KeptHolder}
use Rattle.qstore_accounts.specs.declared.known_callers.KnownCaller.{KnownCaller}
use Rattle.qstore_accounts.specs.Bills.{post, posted, postings_in, settled}
use Rattle.qstore_accounts.specs.Books.{AreBooksOf, Books, ledger_in}
use Rattle.qstore_accounts.specs.Callers.{AreKnown, IsKnownAt, callers_own, has_id, is_known_in}
use Rattle.qstore_accounts.specs.Claims.{slot_in}
use Rattle.qstore_accounts.specs.KeptHolders.{IsSlotFor, IsSlotOf}
use Rattle.qstore_accounts.proofs.Booked.{settled-in}
use Rattle.qstore_accounts.proofs.ById.{placed-after, post-id, posted-both}
use Rattle.qstore_accounts.proofs.Holders.{declared-kept}

-- ---- whoever is known to the books is declared in their state

module _ (S : State) (b : Books) (books : AreBooksOf S b) where
  declared-in : (kind : Kind) (id : ℕ) → has_id (ledger_in kind b) id ≡ is_declared S kind id
  declared-in kind id = sym (ap (list_any (is_holder kind id)) books.holders ∙ declared-kept kind id (λ k. ledger_in k b))

  all-declared : (ids : List ℕ) → list_all (has_id b.groups) ids ≡ list_all (is_declared S Group) ids
  all-declared [] = refl
  all-declared (id ∷ ids) = λ i. declared-in Group id i && all-declared ids i

  pub known-books : (cred : Caller) → is_known_in b cred ≡ is_known S cred
  known-books cred = λ i. declared-in User cred.uid i && all-declared (cred.gid ∷ cred.more) i

-- ---- a bill leaves all ids where they are

module _ (graces : Graces) (moment : ℕ) (p : Postings) where
  posted-id : (o : KeptHolder) → (posted graces moment p o).id ≡ o.id
  posted-id o = post-id graces moment p.to (post graces moment p.from o) ∙ post-id graces moment p.from o

  ids-posted : (id : ℕ) (os : List KeptHolder) → has_id (map (posted graces moment p) os) id ≡ has_id os id
  ids-posted id [] = refl
  ids-posted id (o ∷ os) = λ i. (id == posted-id o i) || ids-posted id os i

  slot-posted : (os : List KeptHolder) (slot id : ℕ) → IsSlotOf os slot id → IsSlotOf (map (posted graces moment p) os) slot id
  slot-posted os slot id there = subst (λ (l : List KeptHolder). IsSlotOf l slot id) (sym (posted-both graces moment p os))
      (placed-after graces moment p.to (map (post graces moment p.from) os) slot id (placed-after graces moment p.from os slot id there))

  slot-for-posted : (os : List KeptHolder) (slot id : Option ℕ) → IsSlotFor os slot id → IsSlotFor (map (posted graces moment p) os) slot id
  slot-for-posted os None None there = tt
  slot-for-posted os None (Some id) there = cc
  slot-for-posted os (Some slot) None there = cc
  slot-for-posted os (Some slot) (Some id) there = slot-posted os slot id there

module _ (bill : Bill) (b : Books) where
  has_id-settled : (kind : Kind) (id : ℕ) → has_id (ledger_in kind (settled bill b)) id ≡ has_id (ledger_in kind b) id
  has_id-settled kind id =
      ap (λ os. has_id os id) (settled-in bill b kind) ∙ ids-posted b.graces bill.moment (postings_in kind bill) id (ledger_in kind b)

  all-settled : (ids : List ℕ) → list_all (has_id (settled bill b).groups) ids ≡ list_all (has_id b.groups) ids
  all-settled [] = refl
  all-settled (id ∷ ids) = λ i. has_id-settled Group id i && all-settled ids i

  at-settled : (cred : Caller) (slots : Slots) → IsKnownAt b cred slots → IsKnownAt (settled bill b) cred slots
  at-settled cred slots k = record {
    known = (λ i. has_id-settled User cred.uid i && all-settled (cred.gid ∷ cred.more) i) ∙ k.known;
    own = λ kind. subst (λ (os : List KeptHolder). IsSlotFor os (slot_in kind slots) (owner kind (callers_own cred))) (sym (settled-in bill b kind))
        (slot-for-posted b.graces bill.moment (postings_in kind bill) (ledger_in kind b) (slot_in kind slots) (owner kind (callers_own cred)) (k.own kind));
  }

  kept-settled : (kept : Option KnownCaller) → IfSome kept (λ k. IsKnownAt b k.cred k.slots)
      → IfSome kept (λ k. IsKnownAt (settled bill b) k.cred k.slots)
  kept-settled None k = tt
  kept-settled (Some c) k = at-settled c.cred c.slots k

  -- so whoever is known stays so
  pub known-settled : (callers : List (Option KnownCaller)) → AreKnown b callers → AreKnown (settled bill b) callers
  known-settled callers all =
      All-weaker (λ kept. IfSome kept (λ k. IsKnownAt b k.cred k.slots)) (λ kept. IfSome kept (λ k. IsKnownAt (settled bill b) k.cred k.slots))
      kept-settled callers all
