-- The books after a bill of new limits are those of the state with these limits.
use Rattle.std.proofs.Common.{◌≡◌, ◌≤◌, ℕ, Bool, true, false, cond, List, map, All, Option, None, Some, IfSome, option_map, slice_get, sym, ap, subst, ◌∙◌, refl}
use Rattle.qrules.specs.declared.kind.Kind.{Kind}
use Rattle.qrules.specs.Kinds.{is_same_kind}
use Rattle.qrules.proofs.Ranks.{same_kind}
use Rattle.qrules.specs.declared.kind.Kind.TheVariants.{User, Group, Project}
use Rattle.qrules.specs.declared.limits.Limits.{Limits}
use Rattle.qrules.specs.declared.graces.Graces.{Graces}
use Rattle.qrules.specs.declared.graces.TheConstants.{MAX_MOMENT}
use Rattle.qplain.specs.State.{State}
use Rattle.qplain.specs.Quotas.{with_limits_of}
use Rattle.qplain.specs.Decision.{ends_after, with_ends_of}
use Rattle.qplain_laws.specs.Laws.{IsLawful}
use Rattle.qstore_accounts.specs.declared.bill.Bill.{Bill}
use Rattle.qstore_accounts.specs.declared.bill.Posting.{Posting}
use Rattle.qstore_accounts.specs.declared.record_change.RecordChange.TheVariants.{Limits as SetLimits}
use Rattle.qstore_accounts.specs.declared.kept_holder.KeptHolder.{KeptHolder}
use Rattle.qstore_accounts.specs.Bills.{ArePlaced, IsBillFor, IsPlaced, IsPostingFor, only_in, posted, postings_in, settled}
use Rattle.qstore_accounts.specs.Books.{AreBooksOf, Books, ledger_in}
use Rattle.qstore_accounts.specs.KeptHolders.{IsCountedIn, IsSlotOf, holder_in}
use Rattle.qstore_accounts.proofs.Booked.{ledger-ends, settled-in}
use Rattle.qstore_accounts.proofs.Across.{across-same, map-across}
use Rattle.qstore_accounts.proofs.ById.{post-none}
use Rattle.qstore_accounts.proofs.Counted.{counted-same}
use Rattle.qstore_accounts.proofs.Relimits.{counted-relimited-ends, holders-relimited, other-holders-relimited, relimited_holder, relimited_kept}
use Rattle.qstore_accounts.proofs.Shares.{id-there}

-- the posting gives the record at its slot new limits
abbrev pub HasLimits : List KeptHolder → ℕ → Limits → Posting → Type 0
HasLimits os slot limits q = IfSome (slice_get os slot) (λ o. q ≡ record { slot = slot; id = o.id; change = SetLimits limits })

-- so it is the one of the principal whose slot that is
posting-limits : (os : List KeptHolder) (slot id : ℕ) (limits : Limits) (q : Posting) → IsSlotOf os slot id → HasLimits os slot limits q
    → q ≡ record { slot = slot; id = id; change = SetLimits limits }
posting-limits os slot id limits q there has = by (slice_get os slot) refl has
  where
    by : (x : Option KeptHolder) → slice_get os slot ≡ x → IfSome x (λ o. q ≡ record { slot = slot; id = o.id; change = SetLimits limits })
        → q ≡ record { slot = slot; id = id; change = SetLimits limits }
    by None none is = let missing = sym (ap (option_map (λ p. p.id)) none) ∙ there in cc
    by (Some x) found is = is ∙ (λ i. record { slot = slot; id = id-there os slot id x there found i; change = SetLimits limits })

-- such a posting gives its principal the new limits
pub posted-limits : (os : List KeptHolder) (slot id : ℕ) (limits : Limits) (graces : Graces) (moment : ℕ) (q : Posting)
    → IsSlotOf os slot id → HasLimits os slot limits q
    → map (posted graces moment (record { from = None; to = Some q })) os ≡ map (relimited_kept id limits graces moment) os
posted-limits os slot id limits graces moment q there has =
    λ i. map (posted graces moment (record { from = None; to = Some (posting-limits os slot id limits q there has i) })) os

-- and stands where its principal does
pub placed-limits : (os : List KeptHolder) (slot id : ℕ) (limits : Limits) (q : Posting) → IsSlotOf os slot id → HasLimits os slot limits q
    → IsPostingFor os q
placed-limits os slot id limits q there has =
    subst (IsPostingFor os) (sym (posting-limits os slot id limits q there has)) (record { slot = there; countable = tt })

-- a bill with one posting is for its books, where that stands in its place
pub placed-only : (b : Books) (kind : Kind) (q : Posting) (bill : Bill) → ((other : Kind) → postings_in other bill ≡ only_in kind q other)
    → IsPostingFor (ledger_in kind b) q → bill.moment ≤ MAX_MOMENT → IsBillFor b bill
placed-only b kind q bill only there time = record { users = placed User; groups = placed Group; projects = placed Project; moment = time }
  where
    to : (other : Kind) (same : Bool) → is_same_kind kind other ≡ same → IsPlaced (ledger_in other b) (cond same (Some q) None)
    to other true e = subst (λ k. IsPostingFor (ledger_in k b) q) (same_kind kind other e) there
    to other false e = tt

    placed : (other : Kind) → ArePlaced (ledger_in other b) (postings_in other bill)
    placed other = subst (ArePlaced (ledger_in other b)) (sym (only other)) (record { from = tt; to = to other (is_same_kind kind other) refl; apart = tt })

-- no posting of a kind changes none of it
none-posted : (graces : Graces) (moment : ℕ) (os : List KeptHolder) → map (posted graces moment (record { from = None; to = None })) os ≡ os
none-posted graces moment os = post-none graces moment os

-- the records of one kind under new limits for one id, and those of any other as they are
abbrev relimited_in : State → Kind → ℕ → Limits → ℕ → Kind → List KeptHolder → List KeptHolder
relimited_in S kind id limits moment other os = cond (is_same_kind kind other) (map (relimited_kept id limits S.graces moment) os) os

module _ (S : State) (b : Books) (books : AreBooksOf S b) (lawful : IsLawful S) (kind : Kind) (slot id : ℕ) (limits : Limits)
    (moment : ℕ) (q : Posting) (bill : Bill) (only : (other : Kind) → postings_in other bill ≡ only_in kind q other) (when : bill.moment ≡ moment)
    (there : IsSlotOf (ledger_in kind b) slot id) (has : HasLimits (ledger_in kind b) slot limits q) where
  -- the state after the call
  abbrev after : State
  after = ends_after (with_limits_of S kind id limits) moment

  -- what the bill makes of the records of a kind
  posted-kind : (other : Kind)
      → map (posted b.graces bill.moment (postings_in other bill)) (ledger_in other b) ≡ relimited_in S kind id limits moment other (ledger_in other b)
  posted-kind other =
      (λ i. map (posted (books.graces i) (when i) (only other i)) (ledger_in other b)) ∙ by (is_same_kind kind other) refl
    where
      by : (same : Bool) → is_same_kind kind other ≡ same
          → map (posted S.graces moment (record { from = None; to = cond same (Some q) None })) (ledger_in other b)
          ≡ cond same (map (relimited_kept id limits S.graces moment) (ledger_in other b)) (ledger_in other b)
      by true e =
          let one : kind ≡ other = same_kind kind other e in
          posted-limits (ledger_in other b) slot id limits S.graces moment q
          (subst (λ k. IsSlotOf (ledger_in k b) slot id) one there) (subst (λ k. HasLimits (ledger_in k b) slot limits q) one has)
      by false e = none-posted S.graces moment (ledger_in other b)

  -- they are those of the holders under the new limits, with the ends that then stand
  holders-kind : (other : Kind) → map (holder_in other) (relimited_in S kind id limits moment other (ledger_in other b))
      ≡ map (with_ends_of (with_limits_of S kind id limits) moment) (map (relimited_holder kind id limits) (map (holder_in other) (ledger_in other b)))
  holders-kind other = by (is_same_kind kind other) refl
    where
      by : (same : Bool) → is_same_kind kind other ≡ same
          → map (holder_in other) (cond same (map (relimited_kept id limits S.graces moment) (ledger_in other b)) (ledger_in other b))
          ≡ map (with_ends_of (with_limits_of S kind id limits) moment) (map (relimited_holder kind id limits) (map (holder_in other) (ledger_in other b)))
      by true e =
          subst (λ k. map (holder_in k) (map (relimited_kept id limits S.graces moment) (ledger_in k b))
          ≡ map (with_ends_of (with_limits_of S kind id limits) moment) (map (relimited_holder kind id limits) (map (holder_in k) (ledger_in k b))))
          (same_kind kind other e)
          (holders-relimited S kind id limits moment (ledger_in kind b) (books.counted kind) (ledger-ends S b books lawful kind))
      by false e =
          sym (other-holders-relimited S kind id limits moment other e (ledger_in other b) (books.counted other) (ledger-ends S b books lawful other))

  -- and they are counted
  counted-kind : (other : Kind) → All (IsCountedIn after other) (relimited_in S kind id limits moment other (ledger_in other b))
  counted-kind other = by (is_same_kind kind other) refl
    where
      by : (same : Bool) → is_same_kind kind other ≡ same
          → All (IsCountedIn after other) (cond same (map (relimited_kept id limits S.graces moment) (ledger_in other b)) (ledger_in other b))
      by true e =
          subst (λ k. All (IsCountedIn after k) (map (relimited_kept id limits S.graces moment) (ledger_in k b))) (same_kind kind other e)
          (counted-relimited-ends S kind id limits moment S.graces (ledger_in kind b) (books.counted kind))
      by false e = counted-same S after other (ledger_in other b) refl (books.counted other)

  -- so the books after the bill are those of the state after the call
  pub limits-settled : bill.blocks ≡ b.blocks → bill.inodes ≡ b.inodes → AreBooksOf after (settled bill b)
  limits-settled blocks inodes = record {
    size = books.size;
    most_inodes = books.most_inodes;
    graces = books.graces;
    holders = ap (λ hs. map (with_ends_of (with_limits_of S kind id limits) moment) (map (relimited_holder kind id limits) hs)) books.holders
        ∙ ap (map (with_ends_of (with_limits_of S kind id limits) moment))
        (map-across (relimited_holder kind id limits) (λ other. map (holder_in other) (ledger_in other b)))
        ∙ map-across (with_ends_of (with_limits_of S kind id limits) moment)
        (λ other. map (relimited_holder kind id limits) (map (holder_in other) (ledger_in other b)))
        ∙ across-same
        (λ other. map (with_ends_of (with_limits_of S kind id limits) moment)
        (map (relimited_holder kind id limits) (map (holder_in other) (ledger_in other b))))
        (λ other. map (holder_in other) (ledger_in other (settled bill b)))
        (λ other. sym (holders-kind other) ∙ ap (map (holder_in other)) (sym (posted-kind other) ∙ sym (settled-in bill b other)));
    counted = λ other. subst (All (IsCountedIn after other)) (sym (posted-kind other) ∙ sym (settled-in bill b other)) (counted-kind other);
    blocks = blocks ∙ books.blocks;
    inodes = inodes ∙ books.inodes;
  }
