-- A row: 16 slots beside each other, each of which may hold a block. No public clause cites this module.
--     slot_at row j      the slot j of a row
--     row_filled row j    it holds a block
--     row_byte row o      the byte at the offset o in the row, or 0
--     Puts ..             what a write does to bytes, to slots and to the blocks that are spare
--     CutsOff ..          what a cut does to bytes
use Rattle.std.specs.Prelude.{◌≡◌, ◌≢◌, ℕ, zero, suc, ◌+◌, ◌-◌, ◌/◌, ◌%◌, ◌<◌, ◌≤◌, Bool, ◌||◌, ◌&&◌, nat_le, nat_lt}
use Rattle.std.specs.Prelude.{nat_eq, if◌then◌else◌, List, length, slice_index, slice_index_or, is_some, Option, Some}
use Rattle.std.specs.Prelude.{None, true, false}
use Rattle.qblocks.specs.declared.block.TheConstants.{BLOCK_SIZE}
use Rattle.qblocks.specs.declared.row.TheConstants.{ROW_BLOCKS}

-- the index is one of those from first up to end
abbrev pub in_span : ℕ → ℕ → ℕ → Bool
in_span first end k = nat_le first k && nat_lt k end

-- one past the last of the pieces of one size that n bytes at the offset touch
abbrev pub span_end : ℕ → ℕ → ℕ → ℕ
span_end size off n = if nat_eq n 0 then off / size else (off + n - 1) / size + 1

-- the n bytes at the offset touch the piece of this size
abbrev pub in_pieces : ℕ → ℕ → ℕ → ℕ → Bool
in_pieces size off n k = in_span (off / size) (span_end size off n) k

-- how many of the n indexes from first on fail the test
unfoldable pub gaps : (ℕ → Bool) → ℕ → ℕ → ℕ
gaps test first zero = 0
gaps test first (suc n) = gaps test first n + (if test (first + n) then 0 else 1)

-- how many of the blocks that n bytes at the offset touch fail the test
abbrev pub gaps_in : (ℕ → Bool) → ℕ → ℕ → ℕ
gaps_in test off n = gaps test (off / BLOCK_SIZE) (span_end BLOCK_SIZE off n - off / BLOCK_SIZE)

-- the first index from this one on that passes the test, if there is one
abbrev pub IsFirstFrom : (ℕ → Bool) → ℕ → Option ℕ → Type 0
IsFirstFrom test from None = (q : ℕ) → from ≤ q → test q ≡ false
IsFirstFrom test from (Some k) =
    (from ≤ k) × (test k ≡ true) × ((q : ℕ) → from ≤ q → q < k → test q ≡ false)

-- the bytes g are the bytes f, with the input in place of those from the offset on
pub record Overwrites (f g : ℕ → ℕ) (off : ℕ) (input : List ℕ) : Type 0 where
  pub inside : (i : ℕ) → i < length input → g (off + i) ≡ slice_index input i
  pub before : (o : ℕ) → o < off → g o ≡ f o
  pub behind : (o : ℕ) → off + length input ≤ o → g o ≡ f o

-- the bytes g are the bytes f up to the offset, and 0 from there on
pub record CutsOff (f g : ℕ → ℕ) (at : ℕ) : Type 0 where
  pub before : (o : ℕ) → o < at → g o ≡ f o
  pub tail : (o : ℕ) → at ≤ o → g o ≡ 0

-- a write changes the bytes f to g and the filled slots p to q, and takes a spare block for each
-- that was missing
pub record Puts (f g : ℕ → ℕ) (p q : ℕ → Bool) (old new off : ℕ) (input : List ℕ) : Type 0 where
  pub writes : Overwrites f g off input
  pub fills : (k : ℕ) → q k ≡ (p k || in_pieces BLOCK_SIZE off (length input) k)
  pub spare : new + gaps_in p off (length input) ≡ old

-- a slot, which may hold a block
abbrev pub Slot : Type 0
Slot = Option (List ℕ)

-- the byte of the block at the slot, or 0
abbrev pub byte_of : Slot → ℕ → ℕ
byte_of None i = 0
byte_of (Some block) i = slice_index block i

-- the slot j of the row
abbrev pub slot_at : List Slot → ℕ → Slot
slot_at row j = slice_index_or row j None

-- the slot j of the row holds a block
abbrev pub row_filled : List Slot → ℕ → Bool
row_filled row j = is_some (slot_at row j)

-- the byte at the offset o in the row, or 0
abbrev pub row_byte : List Slot → ℕ → ℕ
row_byte row o = byte_of (slot_at row (o / BLOCK_SIZE)) (o % BLOCK_SIZE)

-- a write into the block of a slot, which comes from the spare ones where there is none yet
pub record PutsInSlot (row new : List Slot) (j had left at : ℕ) (input : List ℕ) : Type 0 where
  pub filled : row_filled new j ≡ true
  pub writes : Overwrites (byte_of (slot_at row j)) (byte_of (slot_at new j)) at input
  pub others : (q : ℕ) → q ≢ j → slot_at new q ≡ slot_at row q
  pub spare : left + (if row_filled row j then 0 else 1) ≡ had

-- the write into a row, as `Puts` says it
abbrev pub PutsInRow : List Slot → List Slot → ℕ → ℕ → ℕ → List ℕ → Type 0
PutsInRow row new = Puts (row_byte row) (row_byte new) (row_filled row) (row_filled new)

-- the row has N blocks fewer
abbrev pub LosesBlocks : List Slot → List Slot → ℕ → Type 0
LosesBlocks row new freed =
    gaps (row_filled new) 0 ROW_BLOCKS ≡ gaps (row_filled row) 0 ROW_BLOCKS + freed
