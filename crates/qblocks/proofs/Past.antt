-- Lemmas on how many blocks have an index from a first one on, row by row.
use Rattle.std.proofs.Common.{◌≡◌, ℕ, ◌+◌, ◌-◌, ◌*◌, ◌/◌, ◌%◌, ◌<◌, ◌≤◌, ◌^◌, Bool, true, false, ◌&&◌, nat_lt, nat_le, cond, List, length, filter, max, is_some, Option, Some, None, Box, refl, sym, ap, ◌∙◌, arith, ⊎_elim}
use Rattle.std.proofs.lemmas.Bool.{cases_lt, cases_Bool, both_ways, and_parts, le-leb, lt-leb, lt-ltb, ltb-true}
use Rattle.std.specs.BTreeMap as tree
use Rattle.std.specs.List.{range_with_len}
use Rattle.std.specs.Ordering.{nat_cmp}
use Rattle.qblocks.specs.declared.block.TheConstants.{BLOCK_SIZE}
use Rattle.qblocks.specs.declared.row.TheConstants.{ROW_BLOCKS, ROW_SIZE}
use Rattle.qblocks.specs.File.{after_truncate, begins_below}
use Rattle.qblocks.specs.Row.{Slot, slot_at, row_filled, gaps, span_end}
use Rattle.qblocks.specs.Rows.{Table, slots_of, row_of, has_row, filled, is_used, in_room, HasFrom, FieldsFit, bytes_of, allocated_of, file_of}
use Rattle.qblocks.specs.WriteRoom.{WriteRoom}
use Rattle.qblocks.proofs.Indexes.{same_indexes, has-filter, Rises-filter, Rises-range, length-filter_range}
use Rattle.qblocks.proofs.Spans.{gaps-same, gaps-split, gaps-all, gaps_le, or_rest, span_end_none, span_end_some}
use Rattle.qblocks.proofs.Table.{gaps-row}
use Rattle.qblocks.proofs.Used.{Below, has-passing, used_below}
use Rattle.qblocks.proofs.View.{has-allocated_of, Rises-allocated_of, length-allocated_of, length-bytes_of}

and_true : (a : Bool) → (a && true) ≡ a
and_true true = refl
and_true false = refl

-- a row that is not there has no block
pub absent_slot : {Z : Type 0} (row : Option (Box (List Slot) Z)) (j : ℕ) → is_some row ≡ false → is_some (slot_at (slots_of row) j) ≡ false
absent_slot None j e = refl
absent_slot (Some row) j e = absurd (both_ways _ e refl)

module _ {Z : Type 0} (m : Table Z) where
  -- no block has an index of rows that are not there
  pub gaps_past : (at n : ℕ) → ((k : ℕ) → at ≤ k → k < at + n → has_row m (k / ROW_BLOCKS) ≡ false) → gaps (filled m) at n ≡ n
  gaps_past at n absent = gaps-all (filled m) at n (λ k l h. absent_slot (tree.get nat_cmp m (k / ROW_BLOCKS)) (k % ROW_BLOCKS) (absent k l h))

  -- one row more, from the index `from` in it
  row_counted : (first at r from freed missing : ℕ) → first ≤ at → at ≤ r * ROW_BLOCKS + from → from ≤ ROW_BLOCKS
      → ((k : ℕ) → at ≤ k → k < r * ROW_BLOCKS + from → has_row m (k / ROW_BLOCKS) ≡ false)
      → missing ≡ gaps (row_filled (row_of m r)) from (ROW_BLOCKS - from)
      → freed + gaps (filled m) first (at - first) ≡ at - first
      → freed + (ROW_BLOCKS - from - missing) + gaps (filled m) first ((r + 1) * ROW_BLOCKS - first) ≡ (r + 1) * ROW_BLOCKS - first
  row_counted first at r from freed missing order behind within absent is so_far =
      let a = at - first in
      let b = r * ROW_BLOCKS + from - at in
      let c = ROW_BLOCKS - from in
      let start : first + (at - first) ≡ at = omega arith in
      let end : at + (r * ROW_BLOCKS + from - at) ≡ r * ROW_BLOCKS + from = omega arith in
      let whole : (r + 1) * ROW_BLOCKS - first ≡ a + (b + c) = omega arith in
      let outer : gaps (filled m) first (a + (b + c)) ≡ gaps (filled m) first a + gaps (filled m) at (b + c) =
      gaps-split (filled m) first a (b + c) ∙ ap (λ (x : ℕ). gaps (filled m) first a + gaps (filled m) x (b + c)) start in
      let inner : gaps (filled m) at (b + c) ≡ gaps (filled m) at b + gaps (filled m) (r * ROW_BLOCKS + from) c =
      gaps-split (filled m) at b c ∙ ap (λ (x : ℕ). gaps (filled m) at b + gaps (filled m) x c) end in
      let none : gaps (filled m) at b ≡ b = gaps_past at b (λ k l h. absent k l (omega (arith, h, end))) in
      let own : gaps (filled m) (r * ROW_BLOCKS + from) c ≡ missing = gaps-row m r from c (omega arith) ∙ sym is in
      let few = gaps_le (row_filled (row_of m r)) from c in
      omega (arith, ap (gaps (filled m) first) whole, outer, inner, none, own, few, is, so_far)

  -- nothing is left
  pub all_counted : (first at freed : ℕ) → first ≤ at → at ≤ 2 ^ 32
      → ((q : ℕ) → at / ROW_BLOCKS ≤ q → has_row m q ≡ false)
      → freed + gaps (filled m) first (at - first) ≡ at - first → HasFrom m first freed
  all_counted first at freed order bound absent so_far = λ end large.
      let start : first + (at - first) ≡ at = omega arith in
      let whole : end - first ≡ (at - first) + (end - at) = omega arith in
      let both : gaps (filled m) first ((at - first) + (end - at)) ≡ gaps (filled m) first (at - first) + gaps (filled m) at (end - at) =
      gaps-split (filled m) first (at - first) (end - at)
      ∙ ap (λ (x : ℕ). gaps (filled m) first (at - first) + gaps (filled m) x (end - at)) start in
      let none = gaps_past at (end - at) (λ k l h. absent (k / ROW_BLOCKS) (omega arith)) in
      omega (arith, ap (gaps (filled m) first) whole, both, none, so_far)

  -- the next row that is there, from the row of `at` on
  pub next_counted : (first at r freed missing : ℕ) → first ≤ at → at / ROW_BLOCKS ≤ r
      → ((q : ℕ) → at / ROW_BLOCKS ≤ q → q < r → has_row m q ≡ false)
      → missing ≡ gaps (row_filled (row_of m r)) (max at (r * ROW_BLOCKS) - r * ROW_BLOCKS) (ROW_BLOCKS - (max at (r * ROW_BLOCKS) - r * ROW_BLOCKS))
      → freed + gaps (filled m) first (at - first) ≡ at - first
      → freed + (ROW_BLOCKS - (max at (r * ROW_BLOCKS) - r * ROW_BLOCKS) - missing) + gaps (filled m) first ((r + 1) * ROW_BLOCKS - first)
      ≡ (r + 1) * ROW_BLOCKS - first
  next_counted first at r freed missing order next absent is so_far =
      row_counted first at r (max at (r * ROW_BLOCKS) - r * ROW_BLOCKS) freed missing order (omega arith) (omega arith)
      (λ k l h. absent (k / ROW_BLOCKS) (omega arith) (omega arith)) is so_far

  -- no block begins at the size or after
  unfilled : (size first n : ℕ) → Below (filled m) size → size ≤ first * BLOCK_SIZE → gaps (filled m) first n ≡ n
  unfilled size first n below past = gaps-all (filled m) first n (λ k l h.
      ⊎_elim (λ yes. absurd (omega (arith, below k yes))) (λ no. no) (cases_Bool (filled m k)))

  -- a row's number is small, whether a block or the room needs it
  pub row_small : (size count : ℕ) (room : WriteRoom) → FieldsFit m size count room → (r : ℕ) → has_row m r ≡ true → r < 2 ^ 28
  row_small size count room whole r there =
      ⊎_elim
      (λ used. omega (arith, used_below (filled m) size r whole.below used, whole.bounded))
      (λ unused.
      let in' : in_room room r ≡ true = sym (or_rest (is_used (filled m) r) (in_room room r) unused) ∙ sym (whole.rows r) ∙ there in
      let l = ltb-true r (span_end ROW_SIZE room.off room.len) (and_parts (nat_le (room.off / ROW_SIZE) r) _ in').1 in
      ⊎_elim
      (λ none. omega (arith, l, span_end_none ROW_SIZE room.off room.len (omega (arith, none)), whole.room_bounded))
      (λ some. omega (arith, l, span_end_some ROW_SIZE room.off room.len (omega (arith, some)), whole.room_bounded))
      (cases_lt room.len 1))
      (cases_Bool (is_used (filled m) r))

  -- N blocks at most
  pub freed_small : (size to freed : ℕ) → size ≤ 2 ^ 40 → to ≤ 2 ^ 40 → Below (filled m) size
      → HasFrom m ((to + BLOCK_SIZE - 1) / BLOCK_SIZE) freed → freed ≤ 2 ^ 28
  freed_small size to freed bound small below counts =
      let first = (to + BLOCK_SIZE - 1) / BLOCK_SIZE in
      let count = counts (2 ^ 32) (omega arith) in
      let whole : 2 ^ 32 - first ≡ (2 ^ 28 - first) + (2 ^ 32 - 2 ^ 28) = omega arith in
      let start : first + (2 ^ 28 - first) ≡ 2 ^ 28 = omega arith in
      let both : gaps (filled m) first ((2 ^ 28 - first) + (2 ^ 32 - 2 ^ 28))
      ≡ gaps (filled m) first (2 ^ 28 - first) + gaps (filled m) (2 ^ 28) (2 ^ 32 - 2 ^ 28) =
      gaps-split (filled m) first (2 ^ 28 - first) (2 ^ 32 - 2 ^ 28)
      ∙ ap (λ (x : ℕ). gaps (filled m) first (2 ^ 28 - first) + gaps (filled m) x (2 ^ 32 - 2 ^ 28)) start in
      omega (arith, count, ap (gaps (filled m) first) whole, both, unfilled size (2 ^ 28) (2 ^ 32 - 2 ^ 28) below (omega arith))

  -- how many of the blocks begin below a size
  kept_counted : (size to end : ℕ) → Below (filled m) size → size ≤ end → to ≤ end
      → let first = (to + BLOCK_SIZE - 1) / BLOCK_SIZE in
      length (filter (begins_below to) (allocated_of m size)) + gaps (filled m) 0 first ≡ first
  kept_counted size to end below l h =
      let first = (to + BLOCK_SIZE - 1) / BLOCK_SIZE in
      let a = allocated_of m size in
      let p : ℕ → Bool = λ k. filled m k && nat_lt (k * BLOCK_SIZE) to in
      let low : (k : ℕ) → p k ≡ true → k < first = λ k yes.
      let begins = ltb-true (k * BLOCK_SIZE) to (and_parts (filled m k) _ yes).1 in omega (arith, begins) in
      let same : filter (begins_below to) a ≡ filter p (range_with_len 0 first) =
      same_indexes 0 (filter (begins_below to) a) (filter p (range_with_len 0 first))
      (Rises-filter 0 (begins_below to) a (Rises-allocated_of m size))
      (Rises-filter 0 p (range_with_len 0 first) (Rises-range 0 first)) (λ q.
      has-filter (begins_below to) a q ∙ ap (λ t. t && begins_below to q) (has-allocated_of m size below q)
      ∙ sym (has-passing p first low q)) in
      let all = gaps-same (filled m) p 0 first (λ k _ below'.
      ap (λ t. filled m k && t) (lt-ltb (k * BLOCK_SIZE) to (omega (arith, below'))) ∙ and_true (filled m k)) in
      omega (arith, ap length same, length-filter_range p 0 first, all)

  -- what a truncate frees
  pub freed_counted : (size to freed : ℕ) → size ≤ 2 ^ 40 → to ≤ 2 ^ 40 → Below (filled m) size
      → HasFrom m ((to + BLOCK_SIZE - 1) / BLOCK_SIZE) freed
      → freed + length (after_truncate (file_of m size) to).allocated ≡ length (allocated_of m size)
  unfolding after_truncate
  freed_counted size to freed bound small below counts =
      let first = (to + BLOCK_SIZE - 1) / BLOCK_SIZE in
      let end = 2 ^ 40 + 2 ^ 32 in
      let count = counts (2 ^ 40 + 2 ^ 32) (omega arith) in
      let a = allocated_of m size in
      ⊎_elim
      (λ less.
      let cut = ap (λ t. length (cond t a (filter (begins_below to) a)))
      (lt-leb (length (bytes_of m size)) to (omega (arith, length-bytes_of m size, less))) in
      let whole : end ≡ first + (end - first) = omega arith in
      let start : 0 + first ≡ first = omega arith in
      omega (
        arith,
        cut,
        ap (λ (x : ℕ). gaps (filled m) x (end - first)) start,
        count,
        kept_counted size to end below (omega arith) (omega arith),
        length-allocated_of m size end below (omega arith),
        ap (gaps (filled m) 0) whole,
        gaps-split (filled m) 0 first (end - first),
      ))
      (λ more.
      let kept = ap (λ t. length (cond t a (filter (begins_below to) a)))
      (le-leb (length (bytes_of m size)) to (omega (arith, length-bytes_of m size, more))) in
      omega (arith, kept, count, unfilled size first (end - first) below (omega (arith, more))))
      (cases_lt to size)
