-- The refusal of a bill is that of the plain machine.
use Rattle.std.proofs.Common.{◌≡◌, ℕ, ◌+◌, ◌||◌, ◌&&◌, Bool, true, false, nat_lt, cond, List, [], ◌∷◌, Option, None, Some, IfSome, option_map, slice_get, find, sym, ap, subst, ◌∙◌, refl}
use Rattle.std.specs.Option.{option_and_then, option_or}
use Rattle.std.proofs.lemmas.Option.{same_Some}
use Rattle.qrules.specs.declared.kind.Kind.{Kind}
use Rattle.qrules.specs.declared.kind.Kind.TheVariants.{User, Group, Project}
use Rattle.qrules.specs.Kinds.{is_same_kind}
use Rattle.qplain.specs.declared.bounds.TheConstants.{MAX_NUMBER}
use Rattle.qplain.specs.declared.refusal.Refusal.{Refusal}
use Rattle.qplain.specs.declared.refusal.Refusal.TheVariants.{EDQUOT, ENOSPC}
use Rattle.qplain.specs.Caller.{Caller, is_superuser}
use Rattle.qplain.specs.State.{Holder, Inode, State}
use Rattle.qplain.specs.Use.{owner}
use Rattle.qplain.specs.Known.{is_holder}
use Rattle.qplain.specs.Decision.{fault_of_holder, first_refusal, refusal_between}
use Rattle.qplain_laws.proofs.Balance.{is_held}
use Rattle.qplain_laws.proofs.Refusing.{first_refusal-after, refusal_at}
use Rattle.qplain_laws.proofs.Replacing.{first_refusal-none}
use Rattle.qstore_accounts.specs.declared.bill.Bill.{Bill}
use Rattle.qstore_accounts.specs.declared.bill.Posting.{Posting}
use Rattle.qstore_accounts.specs.declared.claim.Claim.{Claim}
use Rattle.qstore_accounts.specs.declared.claim.OwnerClaim.{OwnerClaim}
use Rattle.qstore_accounts.specs.declared.kept_holder.KeptHolder.{KeptHolder}
use Rattle.qstore_accounts.specs.Books.{AreBooksOf, AreInRange, Books, ledger_in}
use Rattle.qstore_accounts.specs.Claims.{IsShareOf, share_in}
use Rattle.qstore_accounts.specs.KeptHolders.{AreById, IsSlotFor, IsSlotOf, holder_in}
use Rattle.qstore_accounts.specs.Bills.{postings_in}
use Rattle.qstore_accounts.specs.Replacements.{IsReplacement}
use Rattle.qstore_accounts.specs.Ledgers.{IsFinal, fault_of_change, posting_refusal}
use Rattle.qstore_accounts.specs.Decisions.{bill_refusal, IsBillOf}
use Rattle.qstore_accounts.proofs.Booked.{by_id-in}
use Rattle.qstore_accounts.proofs.Counted.{account_of-counted}
use Rattle.qstore_accounts.proofs.Holders.{find-kept, find-slot}
use Rattle.qstore_accounts.proofs.Shares.{counted-there, id-there}

-- nobody is the principal of no id
find-unheld : (kind : Kind) (hs : List Holder) → find (is_held kind None) hs ≡ None
find-unheld kind [] = refl
find-unheld kind (h ∷ hs) = ap (λ b. cond b (Some h) (find (is_held kind None) hs)) (never (is_same_kind kind h.kind)) ∙ find-unheld kind hs
  where
    never : (b : Bool) → (b && false) ≡ false
    never true = refl
    never false = refl

module _ (S S1 : State) (b : Books) (books : AreBooksOf S b) (moment : ℕ) (kind : Kind) (by_id : AreById (ledger_in kind b)) where
  -- the refusal of a final posting is that of its owner's holder
  posting-refused : (share : OwnerClaim) (w : Option ℕ) (q : Posting) → IsSlotFor (ledger_in kind b) (Some share.slot) w
      → q.slot ≡ share.slot → IsFinal (ledger_in kind b) kind S1 q
      → posting_refusal (ledger_in kind b) kind moment (Some q) ≡ refusal_at (fault_of_holder S S1 moment) (find (is_held kind w) S.holders)
  posting-refused share None q is slot final = cc
  posting-refused share (Some id) q is slot final = by (slice_get (ledger_in kind b) q.slot) refl
    where
      own : IsSlotOf (ledger_in kind b) q.slot id
      own = subst (λ n. IsSlotOf (ledger_in kind b) n id) (sym slot) is

      by : (x : Option KeptHolder) → slice_get (ledger_in kind b) q.slot ≡ x
          → option_and_then (λ o. option_map (λ over. EDQUOT kind over) (fault_of_change o.account moment q.change)) x
          ≡ refusal_at (fault_of_holder S S1 moment) (find (is_holder kind id) S.holders)
      by None none = let missing = sym (ap (option_map (λ p. p.id)) none) ∙ own in cc
      by (Some o) there =
          let same : o.id ≡ id = id-there (ledger_in kind b) q.slot id o own there in
          let found : find (is_holder kind id) S.holders ≡ Some (holder_in kind o) =
          ap (find (is_holder kind id)) books.holders ∙ find-kept kind id (λ k. ledger_in k b)
          ∙ ap (option_map (holder_in kind)) (find-slot id (ledger_in kind b) q.slot o by_id there same) in
          let uses = final.uses o there in
          let counted = account_of-counted S kind o (counted-there S kind (ledger_in kind b) q.slot o (books.counted kind) there) in
          (λ i. option_map (λ over. EDQUOT kind over) (fault_of_change (sym counted i) moment (uses i)))
          ∙ sym (ap (refusal_at (fault_of_holder S S1 moment)) found)

  -- the same where there may be none
  pub kind-refused : (share : Option OwnerClaim) (inode : Inode) (q : Option Posting) → IsShareOf (ledger_in kind b) kind share (Some inode)
      → option_map (λ p. p.slot) q ≡ option_map (λ s. s.slot) share → IfSome q (IsFinal (ledger_in kind b) kind S1)
      → posting_refusal (ledger_in kind b) kind moment q
      ≡ refusal_at (fault_of_holder S S1 moment) (find (is_held kind (owner kind inode.owners)) S.holders)
  kind-refused None inode None is slots final = by (owner kind inode.owners) is
    where
      by : (w : Option ℕ) → IsSlotFor (ledger_in kind b) None w → None ≡ refusal_at (fault_of_holder S S1 moment) (find (is_held kind w) S.holders)
      by None is = sym (ap (refusal_at (fault_of_holder S S1 moment)) (find-unheld kind S.holders))
      by (Some id) is = cc
  kind-refused None inode (Some q) is slots final = cc
  kind-refused (Some share) inode None is slots final = cc
  kind-refused (Some share) inode (Some q) is slots final =
      posting-refused share (owner kind inode.owners) q is.slot (same_Some q.slot share.slot slots) final

  -- where no inode comes to stand, no posting is refused
  pub none-refused : (share : Option OwnerClaim) (q : Option Posting) → IsShareOf (ledger_in kind b) kind share None
      → option_map (λ p. p.slot) q ≡ option_map (λ s. s.slot) share → posting_refusal (ledger_in kind b) kind moment q ≡ None
  none-refused None None is slots = refl
  none-refused None (Some q) is slots = cc
  none-refused (Some share) q is slots = cc

or-none : (o : Option Refusal) → option_or o None ≡ o
or-none None = refl
or-none (Some r) = refl

module _ (b : Books) (from to : Option Claim) (S S1 : State) (f : Option Inode) (in_range : AreInRange b) (cred : Caller) (moment : ℕ) (bill : Bill)
    (is : IsBillOf b from to S S1 moment bill) where
  -- the first limit in the way of the bill is that of the holders
  pub first-refused : (t : Option Inode) → IsReplacement b from to S S1 f t
      → option_or (posting_refusal b.users User moment bill.users.to)
      (option_or (posting_refusal b.groups Group moment bill.groups.to) (posting_refusal b.projects Project moment bill.projects.to))
      ≡ first_refusal (fault_of_holder S S1 moment) S.holders
  first-refused None r =
      (λ i. option_or (none User i) (option_or (none Group i) (none Project i)))
      ∙ sym (first_refusal-none S S1 f moment r.replaces S.holders)
    where
      none : (kind : Kind) → posting_refusal (ledger_in kind b) kind moment (postings_in kind bill).to ≡ None
      none kind =
          none-refused S S1 b r.books moment kind (by_id-in b in_range kind) (option_and_then (share_in kind) to) (postings_in kind bill).to
          (r.gained kind) (is.posted kind).to_there
  first-refused (Some inode) r =
      (λ i. option_or (own User i) (option_or (own Group i) ((own Project ∙ sym (or-none (at Project))) i)))
      ∙ sym (first_refusal-after S S1 f inode moment r.replaces r.lawful.parts.holders)
    where
      at : Kind → Option Refusal
      at kind = refusal_at (fault_of_holder S S1 moment) (find (is_held kind (owner kind inode.owners)) S.holders)

      own : (kind : Kind) → posting_refusal (ledger_in kind b) kind moment (postings_in kind bill).to ≡ at kind
      own kind =
          kind-refused S S1 b r.books moment kind (by_id-in b in_range kind) (option_and_then (share_in kind) to) inode (postings_in kind bill).to
          (r.gained kind) (is.posted kind).to_there (is.posted kind).to_final

  -- so the bill is refused as the plain machine refuses
  pub bill-refused : (t : Option Inode) → IsReplacement b from to S S1 f t → (next : ℕ) → S1.next ≡ next
      → bill_refusal b cred moment next bill ≡ refusal_between S S1 cred moment
  bill-refused t r next same =
      let size : b.size ≡ S1.size = r.books.size ∙ sym r.replaces.size in
      let most : b.most_inodes ≡ S1.most_inodes = r.books.most_inodes ∙ sym r.replaces.most_inodes in
      λ i. cond (nat_lt (size i) (is.blocks i) || nat_lt (most i) (is.inodes i) || nat_lt (MAX_NUMBER + 1) (sym same i)) (Some ENOSPC)
      (cond (is_superuser cred) None (first-refused t r i))
