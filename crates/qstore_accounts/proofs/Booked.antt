-- The books after a bill are those of the new state, with the ends that then stand.
use Rattle.std.proofs.Common.{◌≡◌, ◌≢◌, ℕ, ◌+◌, ◌-◌, ◌≤◌, ◌==◌, Bool, true, false, cond, List, map, All, Option, None, Some, IfSome, option_map, sym, ap, subst, ◌∙◌, refl, tests, arith}
use Rattle.std.proofs.lemmas.List.{length-map}
use Rattle.std.proofs.lemmas.Option.{same_Some}
use Rattle.qrules.specs.declared.kind.Kind.{Kind}
use Rattle.qrules.specs.declared.kind.Kind.TheVariants.{User, Group, Project}
use Rattle.qrules.proofs.Ranks.{each_kind}
use Rattle.qrules.specs.declared.graces.TheConstants.{MAX_MOMENT}
use Rattle.qrules.specs.declared.record.TheConstants.{MAX_USE}
use Rattle.qrules.specs.Sort.{Sort, Inodes, Blocks}
use Rattle.qrules.specs.Account.{HasEnds}
use Rattle.qplain.specs.declared.principal.TheConstants.{MAX_PRINCIPALS}
use Rattle.qplain.specs.State.{Inode, State}
use Rattle.qplain.specs.Use.{account_of, total_of}
use Rattle.qplain.specs.Decision.{ends_after, with_ends_of}
use Rattle.qplain_laws.specs.Laws.{IsLawful}
use Rattle.qplain_laws.specs.Replaces.{weight_of}
use Rattle.qstore_accounts.specs.declared.bill.Bill.{Bill}
use Rattle.qstore_accounts.specs.declared.bill.Posting.{Posting}
use Rattle.qstore_accounts.specs.declared.bill.Postings.{Postings}
use Rattle.qstore_accounts.specs.declared.claim.Claim.{Claim}
use Rattle.qstore_accounts.specs.declared.claim.OwnerClaim.{OwnerClaim}
use Rattle.qstore_accounts.specs.declared.kept_holder.KeptHolder.{KeptHolder}
use Rattle.qstore_accounts.specs.Bills.{ArePlaced, IsBillFor, IsPlaced, posted, postings_in, settled}
use Rattle.qstore_accounts.specs.Books.{AreBooksOf, AreInRange, Books, holders_of, ledger_in}
use Rattle.qstore_accounts.specs.Claims.{IsShareOf, share_in, weight_in}
use Rattle.qstore_accounts.specs.KeptHolders.{AreById, IsCountedIn, holder_in}
use Rattle.qstore_accounts.specs.Replacements.{IsReplacement}
use Rattle.qstore_accounts.specs.Ledgers.{ArePosted, IsFinal, IsLedgerReplacement, apart}
use Rattle.qstore_accounts.specs.Decisions.{IsBillOf}
use Rattle.std.specs.Option.{option_and_then}
use Rattle.qstore_accounts.proofs.Across.{All-across, across-same, map-across}
use Rattle.qstore_accounts.proofs.ById.{by_id-posted}
use Rattle.qstore_accounts.proofs.Counted.{ends-of-counted}
use Rattle.qstore_accounts.proofs.Shares.{part}
use Rattle.qstore_accounts.proofs.Posted.{counted-after, holder_after, holders-after, posted-all}

module _ (S : State) (b : Books) (books : AreBooksOf S b) where
  -- the ends of a kind's records are where they should be
  pub ledger-ends : IsLawful S → (kind : Kind) → All (λ o. HasEnds o.account) (ledger_in kind b)
  ledger-ends lawful kind =
      ends-of-counted S kind (ledger_in kind b) (books.counted kind)
      (All-across (λ h. HasEnds (account_of S h)) (λ k. map (holder_in k) (ledger_in k b))
      (subst (All (λ h. HasEnds (account_of S h))) books.holders lawful.ends_stand) kind)

-- the records of each kind stand by id
pub by_id-in : (b : Books) → AreInRange b → (kind : Kind) → AreById (ledger_in kind b)
by_id-in b is = each_kind (λ kind. AreById (ledger_in kind b)) is.users is.groups is.projects

-- the records of a kind after a bill
pub settled-in : (bill : Bill) (b : Books) (kind : Kind)
    → ledger_in kind (settled bill b) ≡ map (posted b.graces bill.moment (postings_in kind bill)) (ledger_in kind b)
settled-in bill b =
    each_kind (λ kind. ledger_in kind (settled bill b) ≡ map (posted b.graces bill.moment (postings_in kind bill)) (ledger_in kind b)) refl refl refl

-- an inode counts as one at most
one-inode : (o : Option Inode) → weight_of Inodes o ≤ 1
one-inode None = omega arith
one-inode (Some inode) = omega arith

module _ (b : Books) (from to : Option Claim) (S S1 : State) (f t : Option Inode) (in_range : AreInRange b)
    (r : IsReplacement b from to S S1 f t) where
  -- no count comes past what a record may have
  pub few-then : (sort : Sort) → total_of S1 sort + weight_of sort f ≤ MAX_USE
  few-then Inodes =
      let sum = r.replaces.totals Inodes in
      let fits = r.lawful.inodes_fit in
      let same = r.books.most_inodes in
      let bound = in_range.most_inodes in
      let one = one-inode t in
      omega (arith, sum, fits, same, bound, one)
  few-then Blocks =
      let sum = r.replaces.totals Blocks in
      let fits = r.lawful.blocks_fit in
      let same = r.books.size in
      let bound = in_range.size in
      let few = r.few in
      omega (arith, sum, fits, same, bound, few)

  -- the replacement for the records of a kind
  pub replaced : (kind : Kind)
      → IsLedgerReplacement (ledger_in kind b) kind (option_and_then (share_in kind) from) (option_and_then (share_in kind) to) S S1 f t
  replaced kind = record {
    counted = r.books.counted kind;
    ends = ledger-ends S b r.books r.lawful kind;
    replaces = r.replaces;
    lost = r.lost kind;
    gained = r.gained kind;
    few = few-then;
  }

  module _ (moment : ℕ) (bill : Bill) (is : IsBillOf b from to S S1 moment bill) where
    -- the graces of the bill are those of the new state
    graces-then : b.graces ≡ S1.graces
    graces-then = r.books.graces ∙ sym r.replaces.graces

    kind-posted : (kind : Kind)
        → map (posted b.graces bill.moment (postings_in kind bill)) (ledger_in kind b) ≡ map (holder_after S1 moment kind) (ledger_in kind b)
    kind-posted kind =
        (λ i. map (posted (graces-then i) (is.time i) (postings_in kind bill)) (ledger_in kind b))
        ∙ posted-all (ledger_in kind b) kind (option_and_then (share_in kind) from) (option_and_then (share_in kind) to) S S1 f t
        (by_id-in b in_range kind) (replaced kind) moment (postings_in kind bill) (is.posted kind)

    -- the holders of the posted records are those of the new state
    holders-then : map (with_ends_of S1 moment) S1.holders ≡ holders_of (settled bill b)
    holders-then =
        ap (map (with_ends_of S1 moment)) (r.replaces.holders ∙ r.books.holders)
        ∙ map-across (with_ends_of S1 moment) (λ kind. map (holder_in kind) (ledger_in kind b))
        ∙ across-same (λ kind. map (with_ends_of S1 moment) (map (holder_in kind) (ledger_in kind b)))
        (λ kind. map (holder_in kind) (ledger_in kind (settled bill b)))
        (λ kind. sym (holders-after S1 moment kind (ledger_in kind b))
        ∙ ap (map (holder_in kind)) (sym (kind-posted kind) ∙ sym (settled-in bill b kind)))

    -- so the books after the bill are those of the new state
    pub books-settled : AreBooksOf (ends_after S1 moment) (settled bill b)
    books-settled = record {
      size = r.books.size ∙ sym r.replaces.size;
      most_inodes = r.books.most_inodes ∙ sym r.replaces.most_inodes;
      graces = graces-then;
      holders = holders-then;
      counted = λ kind. subst (All (IsCountedIn (ends_after S1 moment) kind)) (sym (kind-posted kind) ∙ sym (settled-in bill b kind))
          (counted-after S1 moment kind (ledger_in kind b));
      blocks = is.blocks;
      inodes = is.inodes;
    }

-- final postings stand where they should
placed-final : (os : List KeptHolder) (kind : Kind) (S1 : State) (q : Option Posting) → IfSome q (IsFinal os kind S1) → IsPlaced os q
placed-final os kind S1 None final = tt
placed-final os kind S1 (Some q) final = final.placed

-- and so do both of a kind, at two slots
slots-apart : (from to : Option OwnerClaim) (p q : Option Posting) → option_map (λ r. r.slot) p ≡ option_map (λ s. s.slot) (apart from to)
    → option_map (λ r. r.slot) q ≡ option_map (λ s. s.slot) to → IfSome p (λ f. IfSome q (λ t. f.slot ≢ t.slot))
slots-apart from to None q first second = tt
slots-apart from to (Some f) None first second = tt
slots-apart None to (Some f) (Some t) first second = λ same. cc
slots-apart (Some lost) None (Some f) (Some t) first second = λ same. cc
slots-apart (Some lost) (Some gained) (Some f) (Some t) first second = by (lost.slot == gained.slot) refl first
  where
    by : (b : Bool) → (lost.slot == gained.slot) ≡ b → Some f.slot ≡ option_map (λ s. s.slot) (cond b None (Some lost)) → f.slot ≢ t.slot
    by true e there = λ same. cc
    by false e there = λ same.
        let lost_is : f.slot ≡ lost.slot = same_Some f.slot lost.slot there in
        let gained_is : t.slot ≡ gained.slot = same_Some t.slot gained.slot second in
        grind (arith, tests, e, lost_is, gained_is, same)

placed-both : (os : List KeptHolder) (kind : Kind) (S1 : State) (from to : Option OwnerClaim) (p : Postings)
    → ArePosted os kind S1 from to p → ArePlaced os p
placed-both os kind S1 from to p done = record {
  from = placed-final os kind S1 p.from done.from_final;
  to = placed-final os kind S1 p.to done.to_final;
  apart = slots-apart from to p.from p.to done.from_there done.to_there;
}

-- so a bill is for its books
pub bill-placed : (b : Books) (from to : Option Claim) (S S1 : State) (moment : ℕ) (bill : Bill) → moment ≤ MAX_MOMENT
    → IsBillOf b from to S S1 moment bill → IsBillFor b bill
bill-placed b from to S S1 moment bill time is =
    record { users = kind User; groups = kind Group; projects = kind Project; moment = subst (λ n. n ≤ MAX_MOMENT) (sym is.time) time }
  where
    kind : (k : Kind) → ArePlaced (ledger_in k b) (postings_in k bill)
    kind k = placed-both (ledger_in k b) k S1 (option_and_then (share_in k) from) (option_and_then (share_in k) to) (postings_in k bill) (is.posted k)

-- what is counted of a claim is what its inode weighs
pub claim-weight : (us : List KeptHolder) (claim : Option Claim) (inode : Option Inode) (sort : Sort)
    → IsShareOf us User (option_and_then (share_in User) claim) inode → part sort (weight_in claim) ≡ weight_of sort inode
claim-weight us None None Inodes is = refl
claim-weight us None None Blocks is = refl
claim-weight us None (Some inode) sort is = cc
claim-weight us (Some claim) None sort is = cc
claim-weight us (Some claim) (Some inode) Inodes is = is.weight.inodes
claim-weight us (Some claim) (Some inode) Blocks is = is.weight.blocks

-- so the total after the bill is that of the new state
pub total-then : (b : Books) (from to : Option Claim) (S S1 : State) (f t : Option Inode) → IsReplacement b from to S S1 f t → (sort : Sort)
    → total_of S sort + part sort (weight_in to) - part sort (weight_in from) ≡ total_of S1 sort
total-then b from to S S1 f t r sort =
    let sum = r.replaces.totals sort in
    let gained = claim-weight b.users to t sort (r.gained User) in
    let lost = claim-weight b.users from f sort (r.lost User) in
    omega (arith, sum, gained, lost)

-- and no more is taken from the total than is there
pub lost-total : (b : Books) (from to : Option Claim) (S S1 : State) (f t : Option Inode) → IsReplacement b from to S S1 f t → (sort : Sort)
    → part sort (weight_in from) ≤ total_of S sort + part sort (weight_in to)
lost-total b from to S S1 f t r sort =
    let sum = r.replaces.totals sort in
    let gained = claim-weight b.users to t sort (r.gained User) in
    let lost = claim-weight b.users from f sort (r.lost User) in
    omega (arith, sum, gained, lost)

-- the books stay in their ranges after a bill
pub in_range-settled : (b : Books) (bill : Bill) → AreInRange b → AreInRange (settled bill b)
in_range-settled b bill is = record {
  size = is.size;
  most_inodes = is.most_inodes;
  graces = is.graces;
  users = by_id-posted b.graces bill.moment bill.users b.users is.users;
  groups = by_id-posted b.graces bill.moment bill.groups b.groups is.groups;
  projects = by_id-posted b.graces bill.moment bill.projects b.projects is.projects;
  few_users = subst (λ n. n ≤ MAX_PRINCIPALS) (sym (length-map b.users (posted b.graces bill.moment bill.users))) is.few_users;
  few_groups = subst (λ n. n ≤ MAX_PRINCIPALS) (sym (length-map b.groups (posted b.graces bill.moment bill.groups))) is.few_groups;
  few_projects = subst (λ n. n ≤ MAX_PRINCIPALS) (sym (length-map b.projects (posted b.graces bill.moment bill.projects))) is.few_projects;
}
