-- How a file keeps its blocks: a map from numbers to rows of 16 slots. No public clause cites this module.
--     slot_in m k    the slot of the index k
--     filled m k     its block is allocated
--     byte_at m o    the byte at the offset o, or 0
--     FieldsFit ..   what is always true of a file's fields
use Rattle.std.specs.Prelude.{◌≡◌, ◌≢◌, ℕ, ◌+◌, ◌-◌, ◌*◌, ◌/◌, ◌%◌, ◌<◌, ◌≤◌, ◌^◌, Bool, true, ◌||◌, nat_lt}
use Rattle.std.specs.Prelude.{List, [], length, map, filter, is_some, Option, Some, None, Box}
use Rattle.std.specs.Ordering.{nat_cmp}
use Rattle.std.specs.BTreeMap as tree
use Rattle.std.specs.BTreeMap.{BTreeMap}
use Rattle.std.specs.List.{range_with_len}
use Rattle.qblocks.specs.declared.block.TheConstants.{BLOCK_SIZE}
use Rattle.qblocks.specs.declared.row.TheConstants.{ROW_BLOCKS, ROW_SIZE}
use Rattle.qblocks.specs.File.{File}
use Rattle.qblocks.specs.WriteRoom.{WriteRoom}
use Rattle.qblocks.specs.Row.{IsFirstFrom, Slot, slot_at, byte_of, gaps, in_pieces, Puts}

-- some slot of the row r is filled
abbrev pub is_used : (ℕ → Bool) → ℕ → Bool
is_used filled r = nat_lt (gaps filled (r * ROW_BLOCKS) ROW_BLOCKS) ROW_BLOCKS

-- the row r is one of those that the room is for
abbrev pub in_room : WriteRoom → ℕ → Bool
in_room room r = in_pieces ROW_SIZE room.off room.len r

-- the numbered rows
abbrev pub Table : Type 0 → Type 0
Table Z = BTreeMap ℕ (Box (List Slot) Z)

module _ {Z : Type 0} where
  -- the slots of a row, if it is there
  abbrev pub slots_of : Option (Box (List Slot) Z) → List Slot
  slots_of None = []
  slots_of (Some row) = row.value

  -- the slots of the row r
  abbrev pub row_of : Table Z → ℕ → List Slot
  row_of m r = slots_of (tree.get nat_cmp m r)

  -- there is a row r
  abbrev pub has_row : Table Z → ℕ → Bool
  has_row m r = is_some (tree.get nat_cmp m r)

  -- the slot of the index k
  abbrev pub slot_in : Table Z → ℕ → Slot
  slot_in m k = slot_at (row_of m (k / ROW_BLOCKS)) (k % ROW_BLOCKS)

  -- the slot of the index k holds a block
  abbrev pub filled : Table Z → ℕ → Bool
  filled m k = is_some (slot_in m k)

  -- the byte at the offset o, or 0
  abbrev pub byte_at : Table Z → ℕ → ℕ
  byte_at m o = byte_of (slot_in m (o / BLOCK_SIZE)) (o % BLOCK_SIZE)

  -- the write into all rows, as `Puts` says it
  abbrev pub PutsInRows : Table Z → Table Z → ℕ → ℕ → ℕ → List ℕ → Type 0
  PutsInRows m n = Puts (byte_at m) (byte_at n) (filled m) (filled n)

  -- the row is there exactly if some of its slots is filled
  abbrev pub IsThereIfUsed : Table Z → ℕ → Type 0
  IsThereIfUsed m r = has_row m r ≡ is_used (filled m) r

  -- no row but this one is another, and none has come or gone
  pub record ChangesRow (old new : Table Z) (r : ℕ) : Type 0 where
    pub others : (q : ℕ) → q ≢ r → row_of new q ≡ row_of old q
    pub rows : (q : ℕ) → has_row new q ≡ has_row old q

  -- each row is there exactly if some of its slots is filled, and its number is below 2^28
  pub record AreRows (m : Table Z) : Type 0 where
    pub bound : (r : ℕ) → has_row m r ≡ true → r < 2 ^ 28
    pub used : (r : ℕ) → IsThereIfUsed m r

  -- the two tables hold the same blocks
  pub record SameBlocks (old new : Table Z) : Type 0 where
    pub slots : (k : ℕ) → slot_in new k ≡ slot_in old k

  -- the new table has no row that the old one had not, and N blocks fewer: so many more gaps
  -- below any bound of the rows
  pub record Frees (old new : Table Z) (freed : ℕ) : Type 0 where
    pub fewer : (r : ℕ) → has_row new r ≡ true → has_row old r ≡ true
    pub count : (n : ℕ) → ((r : ℕ) → has_row old r ≡ true → r < n)
        → gaps (filled new) 0 (n * ROW_BLOCKS) ≡ gaps (filled old) 0 (n * ROW_BLOCKS) + freed

  -- N blocks have an index from first on: so many gaps fewer than indexes, up to any end past all rows
  abbrev pub HasFrom : Table Z → ℕ → ℕ → Type 0
  HasFrom m first blocks =
      (end : ℕ) → 2 ^ 32 ≤ end → blocks + gaps (filled m) first (end - first) ≡ end - first

  -- the first row from this number on, if there is one
  abbrev pub IsNextRow : Table Z → ℕ → Option ℕ → Type 0
  IsNextRow m = IsFirstFrom (has_row m)

  -- the bytes at the offsets below the size
  unfoldable pub bytes_of : Table Z → ℕ → List ℕ
  bytes_of m size = map (byte_at m) (range_with_len 0 size)

  -- the indexes with a block: each block begins below the size, so that its index is below it too
  unfoldable pub allocated_of : Table Z → ℕ → List ℕ
  allocated_of m size = filter (filled m) (range_with_len 0 size)

  -- the file that the rows and the size stand for
  abbrev pub file_of : Table Z → ℕ → File
  file_of m size = record { bytes = bytes_of m size; allocated = allocated_of m size }

  -- what is always true of a file's fields
  pub record FieldsFit (m : Table Z) (size count : ℕ) (room : WriteRoom) : Type 0 where
    -- the count is that of the blocks, and the size and the room keep their bounds
    pub counted : count ≡ length (allocated_of m size)
    pub bounded : size ≤ 2 ^ 40
    pub room_bounded : room.off + room.len ≤ 2 ^ 40
    -- each block begins below the size, and the bytes at and past it are 0
    pub below : (k : ℕ) → filled m k ≡ true → k * BLOCK_SIZE < size
    pub tail : (o : ℕ) → size ≤ o → byte_at m o ≡ 0
    -- a row with no block is one that the room is for
    pub rows : (r : ℕ) → has_row m r ≡ (is_used (filled m) r || in_room room r)
