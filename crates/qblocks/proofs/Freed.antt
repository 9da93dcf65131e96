-- Lemmas on the rows that are taken out and on how many blocks go with them.
use Rattle.std.proofs.Common.{◌≡◌, ℕ, ◌+◌, ◌-◌, ◌*◌, ◌/◌, ◌%◌, ◌<◌, ◌≤◌, Bool, true, false, nat_lt, List, [], is_some, Option, Some, None, Box, refl, sym, ap, ◌∙◌, arith, ⊎_elim}
use Rattle.std.proofs.lemmas.Bool.{cases_lt, cases_eq, cases_Bool, ne_eqb, lt-ltb, le-ltb, both_ways}
use Rattle.std.specs.BTreeMap as tree
use Rattle.std.specs.Ordering.{nat_cmp}
use Rattle.std.specs.Cmp.{unsigned_tied}
use Rattle.qblocks.specs.declared.row.TheConstants.{ROW_BLOCKS}
use Rattle.qblocks.specs.Row.{Slot, slot_at, row_filled, gaps}
use Rattle.qblocks.specs.Rows.{Table, slots_of, row_of, has_row, filled, is_used, SameBlocks, Frees}
use Rattle.qblocks.proofs.Spans.{gaps-same, gaps-split, gaps-all, gaps_le, gap_at}
use Rattle.qblocks.proofs.Table.{gaps-row}

-- a row is used as its slots are filled
pub is_used-same : (p q : ℕ → Bool) (r : ℕ) → ((k : ℕ) → q k ≡ p k) → is_used q r ≡ is_used p r
is_used-same p q r same =
    ap (λ (x : ℕ). nat_lt x ROW_BLOCKS) (gaps-same p q (r * ROW_BLOCKS) ROW_BLOCKS (λ k _ _. same k))

-- a slot that is not filled is empty
no_block : (slot : Slot) → is_some slot ≡ false → slot ≡ None
no_block None e = refl
no_block (Some block) e = absurd (both_ways _ e refl)

module _ {Z : Type 0} where
  -- a change of the row r leaves the other rows
  pub other_rows : (m n : Table Z) (r : ℕ) (row : Option (Box (List Slot) Z))
      → tree.Updates nat_cmp m n r row → (q : ℕ) → (q ≡ r → ⊥)
      → tree.get nat_cmp n q ≡ tree.get nat_cmp m q
  other_rows m n r row u q ne = u.2 q (unsigned_tied r q ∙ ne_eqb r q (λ e. ne (sym e)))

  -- the slots of a row, by their indexes and by their numbers in the row
  pub gaps_in_own_row : (m : Table Z) (r : ℕ)
      → gaps (filled m) (r * ROW_BLOCKS) ROW_BLOCKS ≡ gaps (row_filled (row_of m r)) 0 ROW_BLOCKS
  gaps_in_own_row m r =
      let at : r * ROW_BLOCKS ≡ r * ROW_BLOCKS + 0 = omega arith in
      ap (λ (x : ℕ). gaps (filled m) x ROW_BLOCKS) at ∙ gaps-row m r 0 ROW_BLOCKS (omega arith)

  -- a row that is not there holds no block
  pub gaps_absent : (row : Option (Box (List Slot) Z)) → is_some row ≡ false
      → gaps (row_filled (slots_of row)) 0 ROW_BLOCKS ≡ ROW_BLOCKS
  gaps_absent None e = gaps-all (row_filled []) 0 ROW_BLOCKS (λ k _ _. refl)
  gaps_absent (Some row) e = absurd (both_ways _ e refl)

  -- a row that is not there is not used
  pub absent_is_unused : (m : Table Z) (r : ℕ) → has_row m r ≡ false → is_used (filled m) r ≡ false
  absent_is_unused m r absent =
      le-ltb (gaps (filled m) (r * ROW_BLOCKS) ROW_BLOCKS) ROW_BLOCKS (omega (arith, gaps_in_own_row m r, gaps_absent (tree.get nat_cmp m r) absent))

  -- a row that is used is there
  pub there_if_used : (m : Table Z) (r : ℕ) → is_used (filled m) r ≡ true → has_row m r ≡ true
  there_if_used m r used =
      ⊎_elim (λ there. there) (λ absent. absurd (both_ways _ (absent_is_unused m r absent) used)) (cases_Bool (has_row m r))

  -- the same row in two tables
  pub is_used-row : (m n : Table Z) (r : ℕ) → row_of n r ≡ row_of m r
      → is_used (filled n) r ≡ is_used (filled m) r
  is_used-row m n r same =
      ap (λ (x : ℕ). nat_lt x ROW_BLOCKS) (gaps_in_own_row n r ∙ ap (λ row. gaps (row_filled row) 0 ROW_BLOCKS) same ∙ sym (gaps_in_own_row m r))

  -- a row with a block is there
  pub used_is_there : (m : Table Z) (r : ℕ)
      → (gaps (row_filled (row_of m r)) 0 ROW_BLOCKS ≡ ROW_BLOCKS → ⊥)
      → has_row m r ≡ is_used (filled m) r
  used_is_there m r used =
      let yes = lt-ltb (gaps (filled m) (r * ROW_BLOCKS) ROW_BLOCKS) ROW_BLOCKS
      (omega (arith, gaps_in_own_row m r, gaps_le (row_filled (row_of m r)) 0 ROW_BLOCKS, used)) in
      ⊎_elim (λ there. there ∙ sym yes) (λ absent. absurd (used (gaps_absent (tree.get nat_cmp m r) absent))) (cases_Bool (has_row m r))

  -- a row that holds no block may go
  module _ (m n : Table Z) (r : ℕ) (unused : gaps (row_filled (row_of m r)) 0 ROW_BLOCKS ≡ ROW_BLOCKS) (update : tree.Updates nat_cmp m n r None) where
    -- without it, the blocks are the same
    pub same_without : SameBlocks m n
    same_without = record {
      slots = λ k.
          ⊎_elim
          (λ e.
          let row : k / ROW_BLOCKS ≡ r = e in
          let none : slot_at (row_of m r) (k % ROW_BLOCKS) ≡ None =
          no_block (slot_at (row_of m r) (k % ROW_BLOCKS))
          (gap_at (row_filled (row_of m r)) 0 ROW_BLOCKS (k % ROW_BLOCKS) unused (omega arith)
          (omega arith)) in
          ap (λ (q : ℕ). slot_at (row_of n q) (k % ROW_BLOCKS)) row ∙ ap (λ o. slot_at (slots_of o) (k % ROW_BLOCKS)) update.1
          ∙ sym (ap (λ (q : ℕ). slot_at (row_of m q) (k % ROW_BLOCKS)) row ∙ none))
          (λ ne. ap (λ o. slot_at (slots_of o) (k % ROW_BLOCKS)) (other_rows m n r None update (k / ROW_BLOCKS) ne))
          (cases_eq (k / ROW_BLOCKS) r);
    }

    -- and it is neither there nor used
    pub unused_is_out : has_row n r ≡ is_used (filled n) r
    unused_is_out =
        let all = gaps_absent (tree.get nat_cmp n r) (ap is_some update.1) in
        ap is_some update.1 ∙ sym (le-ltb (gaps (filled n) (r * ROW_BLOCKS) ROW_BLOCKS) ROW_BLOCKS (omega (arith, gaps_in_own_row n r, all)))

  -- of a change of one row
  module _ (m n : Table Z) (r freed : ℕ) (others : (q : ℕ) → (q ≡ r → ⊥)
      → row_of n q ≡ row_of m q) (count : gaps (row_filled (row_of n r)) 0 ROW_BLOCKS
      ≡ gaps (row_filled (row_of m r)) 0 ROW_BLOCKS + freed) where
    -- the slots of other rows stay as they are
    other_filled : (k : ℕ) → (k / ROW_BLOCKS ≡ r → ⊥) → filled n k ≡ filled m k
    other_filled k ne = ap (λ row. is_some (slot_at row (k % ROW_BLOCKS))) (others (k / ROW_BLOCKS) ne)

    -- the rows below, the row itself, and the rows after
    three : (t : Table Z) (rest : ℕ)
        → gaps (filled t) 0 (r * ROW_BLOCKS + (ROW_BLOCKS + rest))
        ≡ gaps (filled t) 0 (r * ROW_BLOCKS) + gaps (row_filled (row_of t r)) 0 ROW_BLOCKS + gaps
        (filled t) (r * ROW_BLOCKS + ROW_BLOCKS) rest
    three t rest =
        let at : 0 + r * ROW_BLOCKS ≡ r * ROW_BLOCKS = omega arith in
        omega (
          arith,
          gaps-split (filled t) 0 (r * ROW_BLOCKS) (ROW_BLOCKS + rest),
          ap (λ (x : ℕ). gaps (filled t) x (ROW_BLOCKS + rest)) at,
          gaps-split (filled t) (r * ROW_BLOCKS) ROW_BLOCKS rest,
          gaps_in_own_row t r,
        )

    -- below a bound that the row lies under
    in_reach : (bound : ℕ) → r < bound
        → gaps (filled n) 0 (bound * ROW_BLOCKS) ≡ gaps (filled m) 0 (bound * ROW_BLOCKS) + freed
    in_reach bound l =
        let rest = (bound - r - 1) * ROW_BLOCKS in
        let whole : bound * ROW_BLOCKS ≡ r * ROW_BLOCKS + (ROW_BLOCKS + (bound - r - 1) * ROW_BLOCKS) = omega arith in
        let below = gaps-same (filled m) (filled n) 0 (r * ROW_BLOCKS) (λ k _ h. other_filled k (λ e. absurd (omega arith))) in
        let behind = gaps-same (filled m) (filled n) (r * ROW_BLOCKS + ROW_BLOCKS) rest (λ k h _. other_filled k (λ e. absurd (omega arith))) in
        omega (arith, ap (gaps (filled n) 0) whole, ap (gaps (filled m) 0) whole, three m rest, three n rest, below, behind, count)

    -- the blocks that one row loses
    pub Frees-row : ((q : ℕ) → has_row n q ≡ true → has_row m q ≡ true) → Frees m n freed
    Frees-row fewer = record {
      fewer = fewer;
      count = λ bound within.
          ⊎_elim
          (in_reach bound)
          (λ out.
          ⊎_elim
          (λ there. absurd (omega (arith, within r there)))
          (λ absent.
          let none = gaps_absent (tree.get nat_cmp m r) absent in
          let same = gaps-same (filled m) (filled n) 0 (bound * ROW_BLOCKS) (λ k _ h. other_filled k (λ e. absurd (omega arith))) in
          omega (arith, same, none, count, gaps_le (row_filled (row_of n r)) 0 ROW_BLOCKS))
          (cases_Bool (has_row m r)))
          (cases_lt r bound);
    }

  -- no block goes
  pub Frees-none : (m n : Table Z) → ((k : ℕ) → filled n k ≡ filled m k)
      → ((q : ℕ) → has_row n q ≡ true → has_row m q ≡ true) → Frees m n 0
  Frees-none m n same fewer = record {
    fewer = fewer;
    count = λ bound within. omega (arith, gaps-same (filled m) (filled n) 0 (bound * ROW_BLOCKS) (λ k _ _. same k));
  }

  -- some go, and then more
  pub Frees-more : (a b c : Table Z) (n m : ℕ) → Frees a b n → Frees b c m → Frees a c (n + m)
  Frees-more a b c n m first then' = record {
    fewer = λ r there. first.fewer r (then'.fewer r there);
    count = λ bound within. omega (arith, first.count bound within, then'.count bound (λ r there. within r (first.fewer r there)));
  }

  -- at most all blocks below the bound go
  pub freed_le : (m n : Table Z) (freed bound : ℕ) → Frees m n freed
      → ((r : ℕ) → has_row m r ≡ true → r < bound) → freed ≤ bound * ROW_BLOCKS
  freed_le m n freed bound frees within =
      omega (arith, frees.count bound within, gaps_le (filled n) 0 (bound * ROW_BLOCKS))
