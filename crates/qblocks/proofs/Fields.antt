-- Lemmas on what is always true of a file's fields.
use Rattle.std.proofs.Common.{◌≡◌, ℕ, ◌+◌, ◌-◌, ◌*◌, ◌/◌, ◌%◌, ◌<◌, ◌≤◌, ◌^◌, true, false, ◌&&◌, ◌||◌, nat_lt, nat_le, List, [], length, max, is_some, None, refl, sym, ap, ◌∙◌, arith, ⊎_elim, subst}
use Rattle.std.proofs.lemmas.Bool.{cases_Bool, both_ways, ltb-true, and_parts}
use Rattle.qblocks.specs.declared.block.TheConstants.{BLOCK_SIZE}
use Rattle.qblocks.specs.declared.row.TheConstants.{ROW_BLOCKS, ROW_SIZE}
use Rattle.std.specs.BTreeMap as tree
use Rattle.std.specs.Ordering.{nat_cmp}
use Rattle.qblocks.specs.File.{after_write, with_touched}
use Rattle.qblocks.specs.WriteRoom.{WriteRoom, RoomyFile, IsReadyToPut, no_room}
use Rattle.qblocks.specs.Row.{Puts, in_span, in_pieces, span_end, gaps_in, byte_of, slot_at}
use Rattle.qblocks.specs.Rows.{Table, slot_in, filled, byte_at, has_row, slots_of, is_used, in_room, SameBlocks, Frees, file_of, FieldsFit}
use Rattle.qblocks.proofs.Spans.{or_no, or_yes, or_rest, span_end_some}
use Rattle.qblocks.proofs.Freed.{is_used-same, absent_is_unused}
use Rattle.qblocks.proofs.Touched.{length-after_write}
use Rattle.qblocks.proofs.Used.{Below, used_below, in_no_room, used-written}
use Rattle.qblocks.proofs.View.{length-allocated_of, allocated_le, file_of-same, missing_blocks, file_of-written, allocated_of-grown, file_of-empty}

module _ {Z : Type 0} where
  -- the fields still fit where the blocks do, with other rows and another room
  pub FieldsFit-same : (m n : Table Z) (size count : ℕ) (old new : WriteRoom) → SameBlocks m n
      → ((r : ℕ) → has_row n r ≡ (is_used (filled n) r || in_room new r))
      → new.off + new.len ≤ 2 ^ 40 → FieldsFit m size count old → FieldsFit n size count new
  FieldsFit-same m n size count old new same rows bound whole = record {
    counted = whole.counted ∙ sym (ap (λ file. length file.allocated) (file_of-same m n size same));
    bounded = whole.bounded;
    room_bounded = bound;
    below = λ k yes. whole.below k (sym (ap is_some (same.slots k)) ∙ yes);
    tail = λ o l. ap (λ slot. byte_of slot (o % BLOCK_SIZE)) (same.slots (o / BLOCK_SIZE)) ∙ whole.tail o l;
    rows = rows;
  }

  -- the fields of a file that is made longer
  pub FieldsFit-grown : (m : Table Z) (size count to : ℕ) (room : WriteRoom) → size ≤ to → to ≤ 2 ^ 40
      → FieldsFit m size count room → FieldsFit m to count room
  FieldsFit-grown m size count to room more bound whole = record {
    counted = whole.counted ∙ sym (ap length (allocated_of-grown m size to more whole.below));
    bounded = bound;
    room_bounded = whole.room_bounded;
    below = λ k yes. omega (arith, whole.below k yes);
    tail = λ o l. whole.tail o (omega arith);
    rows = whole.rows;
  }

  -- a row begins below the size
  pub row_below : (m : Table Z) (size count : ℕ) (room : WriteRoom) → room ≡ no_room
      → FieldsFit m size count room → (r : ℕ) → has_row m r ≡ true → r * ROW_SIZE < size
  row_below m size count room none whole r there =
      used_below (filled m) size r whole.below (or_no (is_used (filled m) r) _ (ap (λ x. in_room x r) none ∙ in_no_room r) ∙ sym (whole.rows r) ∙ there)

  -- the fields of a file that is cut off
  pub FieldsFit-cut : (m n : Table Z) (size count to freed : ℕ) (room : WriteRoom) → room ≡ no_room
      → FieldsFit m size count room → to < size → ((o : ℕ) → to ≤ o → byte_at n o ≡ 0)
      → ((k : ℕ) → filled n k ≡ (filled m k && nat_lt (k * BLOCK_SIZE) to))
      → ((r : ℕ) → has_row n r ≡ is_used (filled n) r) → Frees m n freed
      → (freed ≤ count) × FieldsFit n to (count - freed) room
  FieldsFit-cut m n size count to freed room none whole less tail kept used frees =
      let below' : Below (filled n) to = λ k yes. ltb-true (k * BLOCK_SIZE) to (and_parts (filled m k) _ (sym (kept k) ∙ yes)).1 in
      let bound = size * ROW_BLOCKS in
      let before = length-allocated_of m size bound whole.below (omega arith) in
      let after = length-allocated_of n to bound below' (omega arith) in
      let count' = frees.count size (λ r there. omega (arith, row_below m size count room none whole r there)) in (
        omega (arith, before, after, count', whole.counted),
        record {
          counted = omega (arith, before, after, count', whole.counted);
          bounded = omega (arith, whole.bounded);
          room_bounded = whole.room_bounded;
          below = below';
          tail = tail;
          rows = λ r. used r ∙ or_no (is_used (filled n) r) _ (ap (λ x. in_room x r) none ∙ in_no_room r);
        },
      )

  -- the fields after a write, and the file that they stand for
  pub FieldsFit-written : (m n : Table Z) (size count a b off : ℕ) (input : List ℕ) (to : ℕ)
      → FieldsFit m size count (record { off = off; len = length input })
      → Puts (byte_at m) (byte_at n) (filled m) (filled n) a b off input → 0 < length input
      → to ≡ max size (off + length input) → ((r : ℕ) → has_row n r ≡ has_row m r)
      → FieldsFit n to (count + gaps_in (filled m) off (length input)) no_room × (file_of n to ≡ after_write (file_of m size) off input)
  FieldsFit-written m n size count a b off input to whole puts some ends rows =
      let in_reach : (k : ℕ) → in_pieces BLOCK_SIZE off (length input) k ≡ true → k * BLOCK_SIZE < to = λ k in'.
      let end = span_end_some BLOCK_SIZE off (length input) some in
      let parts = and_parts (nat_le (off / BLOCK_SIZE) k) (nat_lt k (span_end BLOCK_SIZE off (length input))) in' in
      omega (arith, ltb-true k (span_end BLOCK_SIZE off (length input)) parts.1) in
      let below' : Below (filled n) to =
      λ k yes. ⊎_elim (λ was. omega (arith, whole.below k was))
      (λ fails. in_reach k (sym (or_rest (filled m k) _ fails) ∙ sym (puts.fills k) ∙ yes))
      (cases_Bool (filled m k)) in
      let file = file_of-written m n size a b off input to puts some ends whole.below whole.tail below' in
      let counted = ap (λ f. length f.allocated) file in (
        record {
          counted = omega (arith, whole.counted, missing_blocks m size off (length input) whole.below, length-after_write (file_of m size) off input, counted);
          bounded = omega (arith, whole.bounded, whole.room_bounded);
          room_bounded = omega arith;
          below = below';
          tail = λ o l. puts.writes.behind o (omega arith) ∙ whole.tail o (omega arith);
          rows = λ r.
              rows r ∙ whole.rows r ∙ sym (used-written (filled m) (filled n) off (length input) r puts.fills)
              ∙ or_no (is_used (filled n) r) _ (in_no_room r);
        },
        file,
      )

  -- an empty table has no row
  no_row : (m : Table Z) (r : ℕ) → m.entries ≡ [] → tree.get nat_cmp m r ≡ None
  no_row m r e = rw e refl

  -- the fields of an empty file
  pub FieldsFit-empty : (m : Table Z) → m.entries ≡ [] → FieldsFit m 0 0 no_room
  FieldsFit-empty m e =
      let slot_none : (k : ℕ) → slot_in m k ≡ None = λ k. ap (λ row. slot_at (slots_of row) (k % ROW_BLOCKS)) (no_row m (k / ROW_BLOCKS) e) in
      record {
        counted = sym (ap (λ file. length file.allocated) (file_of-empty m));
        bounded = omega arith;
        room_bounded = omega arith;
        below = λ k yes. absurd (both_ways _ (ap is_some (slot_none k)) yes);
        tail = λ o _. ap (λ slot. byte_of slot (o % BLOCK_SIZE)) (slot_none (o / BLOCK_SIZE));
        rows = λ r.
            let absent = ap is_some (no_row m r e) in
            absent ∙ sym (absent_is_unused m r absent) ∙ or_no (is_used (filled m) r) _ (in_no_room r);
      }

  -- where there is no room, the rows are those with a block
  pub rows_used : (m : Table Z) (size count : ℕ) (room : WriteRoom) → room ≡ no_room
      → FieldsFit m size count room → (r : ℕ) → has_row m r ≡ is_used (filled m) r
  rows_used m size count room none whole r =
      whole.rows r ∙ sym (or_no (is_used (filled m) r) _ (ap (λ x. in_room x r) none ∙ in_no_room r))

  -- of two tables with the same blocks
  module _ (m n : Table Z) (same : SameBlocks m n) where
    -- a row is used as before
    pub used-same : (r : ℕ) → is_used (filled n) r ≡ is_used (filled m) r
    used-same r = is_used-same (filled m) (filled n) r (λ k. ap is_some (same.slots k))

    -- the rows are those with a block again
    pub rows_forgotten : (first end : ℕ)
        → ((r : ℕ) → in_span first end r ≡ true → has_row n r ≡ is_used (filled n) r)
        → ((r : ℕ) → in_span first end r ≡ false → has_row n r ≡ has_row m r)
        → ((r : ℕ) → in_span first end r ≡ false → has_row m r ≡ is_used (filled m) r) → (r : ℕ)
        → has_row n r ≡ is_used (filled n) r
    rows_forgotten first end used others was r =
        ⊎_elim (used r) (λ out. others r out ∙ was r out ∙ sym (used-same r)) (cases_Bool (in_span first end r))

    -- the rows are those with a block, and those of the room
    pub rows_made : (room : WriteRoom) (first end : ℕ)
        → ((r : ℕ) → (is_used (filled m) r || in_span first end r) ≡ (is_used (filled m) r || in_room room r))
        → ((r : ℕ) → in_span first end r ≡ true → has_row n r ≡ true)
        → ((r : ℕ) → in_span first end r ≡ false → has_row n r ≡ has_row m r)
        → ((r : ℕ) → has_row m r ≡ is_used (filled m) r) → (r : ℕ)
        → has_row n r ≡ (is_used (filled n) r || in_room room r)
    rows_made room first end covers made others was r =
        ⊎_elim
        (λ in'. made r in' ∙ sym (or_yes (is_used (filled m) r) _ in'))
        (λ out. others r out ∙ was r ∙ or_no (is_used (filled m) r) _ out)
        (cases_Bool (in_span first end r))
        ∙ covers r ∙ ap (λ t. t || in_room room r) (sym (used-same r))

  -- the fields of a file that is ready for a write, and how many blocks are at hand
  pub ready_whole : (m : Table Z) (size count : ℕ) (room : WriteRoom) (f : RoomyFile) (off n spare : ℕ)
      → record { file = file_of m size; room = room } ≡ f → IsReadyToPut f off n spare
      → FieldsFit m size count room
      → FieldsFit m size count (record { off = off; len = n }) × (spare ≡ gaps_in (filled m) off n)
  ready_whole m size count room f off n spare view ready whole =
      let before = ap (λ x. length x.file.allocated) view in
      let after = ap (λ x. length (with_touched x.file.allocated off n)) view in (
        subst (FieldsFit m size count) (ap (λ x. x.room) view ∙ ready.room) whole,
        omega (arith, before, after, ready.blocks, missing_blocks m size off n whole.below),
      )

  -- the fields after a write that the file was ready for, and the file that they stand for
  pub put_whole : (m n : Table Z) (size count : ℕ) (room : WriteRoom) (f : RoomyFile) (off : ℕ) (input : List ℕ) (spare a b to : ℕ)
      → record { file = file_of m size; room = room } ≡ f → IsReadyToPut f off (length input) spare
      → FieldsFit m size count room → Puts (byte_at m) (byte_at n) (filled m) (filled n) a b off input
      → 0 < length input → to ≡ max size (off + length input)
      → ((r : ℕ) → has_row n r ≡ has_row m r)
      → (count + spare ≤ to) × FieldsFit n to (count + spare) no_room × (file_of n to ≡ after_write f.file off input)
  put_whole m n size count room f off input spare a b to view ready whole puts some ends rows =
      let is = ready_whole m size count room f off (length input) spare view ready whole in
      let after = FieldsFit-written m n size count a b off input to is.0 puts some ends rows in
      let sum : count + gaps_in (filled m) off (length input) ≡ count + spare = omega (arith, is.1) in
      let Whole : ℕ → Type 0 = λ x. FieldsFit n to x no_room in
      let whole' = subst Whole sum after.0 in
      (omega (arith, whole'.counted, allocated_le n to whole'.below), whole', after.1 ∙ ap (λ x. after_write x.file off input) view)
