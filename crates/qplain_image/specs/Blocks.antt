-- A sparse file in blocks, and made of them again.
use Rattle.std.specs.Prelude.{◌≡◌, ℕ, ◌+◌, ◌-◌, ◌*◌, ◌≤◌, min, true, List, [], ◌∷◌, length, map, fold, replicate, All}
use Rattle.std.specs.List.Sorted.{IsStrictlySortedBy}
use Rattle.std.specs.Ordering.{nat_cmp}
use Rattle.qblocks.specs.declared.block.TheConstants.{BLOCK_SIZE}
use Rattle.qblocks.specs.File.{File, after_write, begins_below, read_at, size_of}
use Rattle.qplain_laws.specs.Holes.{HolesAreEmpty}

-- a file whose allocated indexes stand once and in order, whose blocks all begin below its size, and whose bytes of no
-- block are 0
pub record IsSparse (file : File) : Type 0 where
  pub in_order : IsStrictlySortedBy nat_cmp file.allocated
  pub below : All (λ k. begins_below (size_of file) k ≡ true) file.allocated
  pub holes : HolesAreEmpty file

-- the bytes of the block at an index, those up to the file's size
abbrev pub block_in : File → ℕ → List ℕ
block_in file k = read_at file (k * BLOCK_SIZE) BLOCK_SIZE

-- the allocated blocks of a file, each as its index and its bytes
abbrev pub blocks_in : File → List (ℕ × List ℕ)
blocks_in file = map (λ k. (k, block_in file k)) file.allocated

-- a file of this size that has no block
abbrev pub unfilled : ℕ → File
unfilled size = record { bytes = replicate size 0; allocated = [] }

-- the file with the bytes of one block written at its place
abbrev pub with_block : File → ℕ × List ℕ → File
with_block file b = after_write file (b.0 * BLOCK_SIZE) b.1

-- a file of this size with these blocks written one after the other
abbrev pub refilled : ℕ → List (ℕ × List ℕ) → File
refilled size blocks = fold with_block (unfilled size) blocks

-- a block that a file of this size may have: it begins below the size, and is a whole one or reaches to the size
pub record IsBlockOf (size : ℕ) (b : ℕ × List ℕ) : Type 0 where
  pub begins : begins_below size b.0 ≡ true
  pub long : length b.1 ≡ min BLOCK_SIZE (size - b.0 * BLOCK_SIZE)

-- such blocks, whose indexes rise and begin at `from` or later
abbrev pub AreBlocksOf : ℕ → ℕ → List (ℕ × List ℕ) → Type 0
AreBlocksOf size from [] = Unit {0}
AreBlocksOf size from (b ∷ bs) = (from ≤ b.0) × IsBlockOf size b × AreBlocksOf size (b.0 + 1) bs

-- a sparse file is made again of its size and its blocks
abbrev pub FilesAreMadeAgain : Type 0
FilesAreMadeAgain = (file : File) → IsSparse file → refilled (size_of file) (blocks_in file) ≡ file

-- blocks that a file of this size may have, and that rise, are those of the file that is made of them, which has the
-- size
abbrev pub BlocksAreGivenBack : Type 0
BlocksAreGivenBack = (size : ℕ) (blocks : List (ℕ × List ℕ)) → AreBlocksOf size 0 blocks
    → (size_of (refilled size blocks) ≡ size) × (blocks_in (refilled size blocks) ≡ blocks)
