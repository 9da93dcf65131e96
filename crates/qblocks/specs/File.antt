-- What a caller sees of a file: its bytes and its allocated blocks, and what each call makes of them.
--     File                       the bytes below the size, and the indexes of the allocated blocks
--     size_of, blocks_of         how many bytes and how many blocks it has
--     after_write f off input    the file after a write
--     after_truncate f size      the file at another size
--     read_at f off len          the bytes that a read gives
--     next_from from ks          the first of the indexes ks from this one on
--     touches off n k            the write of n bytes at off touches the block k
use Rattle.std.specs.Prelude.{◌≡◌, ℕ, zero, suc, ◌+◌, ◌-◌, ◌*◌, ◌/◌, Bool, ◌&&◌, ◌||◌, ◌==◌, nat_le, nat_lt}
use Rattle.std.specs.Prelude.{if◌then◌else◌, List, [], ◌∷◌, ◌++◌, length, take, drop, filter, replicate, Option}
use Rattle.std.specs.List.{find, list_any}
use Rattle.qblocks.specs.declared.block.TheConstants.{BLOCK_SIZE}

-- a file: the bytes below its size, and the indexes of its allocated blocks in increasing order
pub record File : Type 0 where
  pub bytes : List ℕ
  pub allocated : List ℕ

-- a file of size 0 with no block
abbrev pub empty_file : File
empty_file = record { bytes = []; allocated = [] }

-- how many bytes the file has, holes included
abbrev pub size_of : File → ℕ
size_of file = length file.bytes

-- how many blocks it has allocated
abbrev pub blocks_of : File → ℕ
blocks_of file = length file.allocated

-- the first of the indexes that is this one or behind it
abbrev pub next_from : ℕ → List ℕ → Option ℕ
next_from from ks = find (λ k. nat_le from k) ks

-- the second file has N blocks more than the first
abbrev pub MoreBlocks : File → File → ℕ → Type 0
MoreBlocks few many blocks = blocks + blocks_of few ≡ blocks_of many

-- the bytes cut off at a size, or filled up to it with zeros (truncate(2))
unfoldable pub resized : List ℕ → ℕ → List ℕ
resized bytes size = take size bytes ++ replicate (size - length bytes) 0

-- the bytes up to the offset, then the input, then the bytes after the input's end
unfoldable pub written : List ℕ → ℕ → List ℕ → List ℕ
written bytes off input = resized bytes off ++ input ++ drop (off + length input) bytes

-- the indexes with one more of them, each once and in increasing order
unfoldable pub with_index : List ℕ → ℕ → List ℕ
with_index [] k = k ∷ []
with_index (x ∷ xs) k =
    if nat_lt k x then k ∷ x ∷ xs else if x == k then x ∷ xs else x ∷ with_index xs k

-- the indexes with that of each of the n bytes from the offset on
unfoldable pub with_touched : List ℕ → ℕ → ℕ → List ℕ
with_touched allocated off zero = allocated
with_touched allocated off (suc n) = with_index (with_touched allocated off n) ((off + n) / BLOCK_SIZE)

-- a write of n bytes at the offset allocates N blocks
abbrev pub Adds : File → ℕ → ℕ → ℕ → Type 0
Adds file off n blocks =
    blocks + blocks_of file ≡ length (with_touched file.allocated off n)

-- the file after a write: a write of nothing changes nothing, not the size either (write(2))
unfoldable pub after_write : File → ℕ → List ℕ → File
after_write file off [] = file
after_write file off (byte ∷ rest) =
    let input = byte ∷ rest in
    record {
      bytes = written file.bytes off input;
      allocated = with_touched file.allocated off (length input);
    }

-- the block begins below the size
abbrev pub begins_below : ℕ → ℕ → Bool
begins_below size k = nat_lt (k * BLOCK_SIZE) size

-- the file at another size: where that is less, the blocks at and past it are freed (truncate(2))
unfoldable pub after_truncate : File → ℕ → File
after_truncate file size =
    record {
      bytes = resized file.bytes size;
      allocated =
          if nat_le (size_of file) size then file.allocated
          else filter (begins_below size) file.allocated;
    }

-- the write of n bytes touches the block, which begins below the write's end and ends past its start
abbrev pub touches : ℕ → ℕ → ℕ → Bool
touches off n k =
    nat_lt (k * BLOCK_SIZE) (off + n) && nat_lt off (k * BLOCK_SIZE + BLOCK_SIZE) && nat_lt 0 n

-- the block is allocated
abbrev pub is_allocated : File → ℕ → Bool
is_allocated file k = list_any (λ x. x == k) file.allocated

-- a write of n bytes at the offset allocates each block that it touches and no other
abbrev pub AllocatesTouched : File → File → ℕ → ℕ → Type 0
AllocatesTouched old new off n =
    (k : ℕ) → is_allocated new k ≡ (is_allocated old k || touches off n k)

-- the bytes from the offset on, as many as are asked for or as there are (read(2))
abbrev pub read_at : File → ℕ → ℕ → List ℕ
read_at file off len = take len (drop off file.bytes)
