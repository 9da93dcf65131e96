-- Lemmas on the first block from an index on.
use Rattle.std.proofs.Common.{◌≡◌, ℕ, ◌+◌, ◌-◌, ◌*◌, ◌/◌, ◌%◌, ◌<◌, ◌≤◌, suc, false, cond, max, is_some}
use Rattle.std.proofs.Common.{List, [], ◌∷◌, Option, Some, None, refl, sym, ap, ◌∙◌, arith, ⊎_elim}
use Rattle.std.proofs.lemmas.Bool.{cases_lt, cases_order, both_ways, le-leb, lt-leb}
use Rattle.qblocks.specs.File.{next_from}
use Rattle.std.specs.BTreeMap as tree
use Rattle.std.specs.Ordering.{nat_cmp}
use Rattle.qblocks.specs.declared.row.TheConstants.{ROW_BLOCKS}
use Rattle.qblocks.specs.Row.{IsFirstFrom, row_filled}
use Rattle.qblocks.specs.Rows.{Table, row_of, has_row, filled, allocated_of}
use Rattle.qblocks.proofs.Indexes.{has, has_first, has_later, has_below, Rises}
use Rattle.qblocks.proofs.Past.{absent_slot}
use Rattle.qblocks.proofs.Table.{slot_in-row}
use Rattle.qblocks.proofs.Used.{Below}
use Rattle.qblocks.proofs.View.{has-allocated_of, Rises-allocated_of}

-- an index before all that are asked for is passed over
next_later : (from x : ℕ) (xs : List ℕ) → x < from → next_from from (x ∷ xs) ≡ next_from from xs
next_later from x xs l = ap (λ t. cond t (Some x) (next_from from xs)) (lt-leb from x l)

-- the first index that is listed
pub next_is : (b from : ℕ) (xs : List ℕ) (next : Option ℕ) → Rises b xs
    → IsFirstFrom (has xs) from next → next ≡ next_from from xs
next_is b from [] None rises none = refl
next_is b from [] (Some k) rises first = absurd (both_ways _ refl first.1)
next_is b from (x ∷ xs) next rises first =
    ⊎_elim
    (λ before.
    next_is (suc x) from xs next rises.1 (later next before first) ∙ sym (next_later from x xs before))
    (λ here. at_first next here first ∙ sym (ap (λ t. cond t (Some x) (next_from from xs)) (le-leb from x here)))
    (cases_lt x from)
  where
    -- what the list says from there on, the rest says
    later : (o : Option ℕ) → x < from → IsFirstFrom (has (x ∷ xs)) from o → IsFirstFrom (has xs) from o
    later None before none = λ q l. sym (has_later x q xs (λ e. absurd (omega (arith, e)))) ∙ none q l
    later (Some k) before found = (
      found.0,
      sym (has_later x k xs (λ e. absurd (omega (arith, e, found.0)))) ∙ found.1,
      λ q l h. sym (has_later x q xs (λ e. absurd (omega (arith, e)))) ∙ found.2 q l h,
    )

    -- the first of the list is the first from there on
    at_first : (o : Option ℕ) → from ≤ x → IsFirstFrom (has (x ∷ xs)) from o → o ≡ Some x
    at_first None here none = absurd (both_ways _ (none x here) (has_first x xs))
    at_first (Some k) here found =
        ⊎_elim
        (λ same. ap Some same)
        (⊎_elim
        (λ l. absurd (both_ways _ (has_below x (x ∷ xs) k (omega arith, rises.1) l) found.1))
        (λ l. absurd (both_ways _ (found.2 x here l) (has_first x xs))))
        (cases_order k x)

-- it is the first of the allocated indexes
pub next_allocated_is : {Z : Type 0} (m : Table Z) (size from : ℕ) (next : Option ℕ) → Below (filled m) size
    → IsFirstFrom (filled m) from next → next ≡ next_from from (allocated_of m size)
next_allocated_is m size from next below first =
    next_is 0 from (allocated_of m size) next (Rises-allocated_of m size) (listed next first)
  where
    -- an index is listed where it has a block
    listed : (o : Option ℕ) → IsFirstFrom (filled m) from o → IsFirstFrom (has (allocated_of m size)) from o
    listed None none = λ q l. has-allocated_of m size below q ∙ none q l
    listed (Some k) found = (
      found.0,
      has-allocated_of m size below k ∙ found.1,
      λ q l h. has-allocated_of m size below q ∙ found.2 q l h,
    )

-- the first block of the next row that is there, where no row before it has one
pub next_in_row : {Z : Type 0} (m : Table Z) (from at r first slot : ℕ)
    → from ≤ at → at / ROW_BLOCKS ≤ r → slot < ROW_BLOCKS
    → ((q : ℕ) → from ≤ q → q < at → filled m q ≡ false)
    → ((q : ℕ) → at / ROW_BLOCKS ≤ q → q < r → has_row m q ≡ false)
    → first ≡ max at (r * ROW_BLOCKS) - r * ROW_BLOCKS → IsFirstFrom (row_filled (row_of m r)) first (Some slot)
    → IsFirstFrom (filled m) from (Some (r * ROW_BLOCKS + slot))
next_in_row m from at r first slot order row within before absent start found = (
  omega (arith, order, row, found.0, start),
  own slot within ∙ found.1,
  λ q l h. ⊎_elim
      (λ early. before q l early)
      (λ late. ⊎_elim
      (λ low.
      let gone = absent (q / ROW_BLOCKS) (omega (arith, late)) (omega (arith, low)) in
      absent_slot (tree.get nat_cmp m (q / ROW_BLOCKS)) (q % ROW_BLOCKS) gone)
      (λ here.
      let whole : q ≡ r * ROW_BLOCKS + (q - r * ROW_BLOCKS) = omega (arith, here) in
      ap (filled m) whole ∙ own (q - r * ROW_BLOCKS) (omega (arith, h, within, here))
      ∙ found.2 (q - r * ROW_BLOCKS) (omega (arith, late, here, start)) (omega (arith, h, here)))
      (cases_lt q (r * ROW_BLOCKS)))
      (cases_lt q at),
)
  where
    -- a block of the row, by its slot
    own : (j : ℕ) → j < ROW_BLOCKS → filled m (r * ROW_BLOCKS + j) ≡ row_filled (row_of m r) j
    own j l = ap is_some (slot_in-row m r j l)
