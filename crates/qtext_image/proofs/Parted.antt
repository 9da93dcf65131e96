-- A state in sections, and the blocks of its files.
use Rattle.std.proofs.Common.{◌≡◌, ℕ, ◌+◌, ◌-◌, ◌*◌, ◌==◌, min, append_assoc, ◌<◌, suc, Bool, true, false, List, [], ◌∷◌, ◌++◌, All, length, map, refl, ap, ◌∙◌, arith, tests}
use Rattle.std.specs.List.{flat_map, AllByRecursion}
use Rattle.std.specs.Map.{values_of}
use Rattle.std.proofs.lemmas.Bool.{eq-eqb}
use Rattle.std.proofs.lemmas.List.Elements.{All-head, All-tail, recursion_from_All}
use Rattle.qrules.specs.Sort.{Inodes, Blocks}
use Rattle.qblocks.specs.declared.block.TheConstants.{BLOCK_SIZE}
use Rattle.qblocks.specs.File.{File, begins_below, size_of}
use Rattle.qblocks.proofs.Indexes.{Rises, Rises-weaker}
use Rattle.qplain.specs.declared.owners.Owners.{Owners}
use Rattle.qplain.specs.State.{Holder, Inode, NameKey, State}
use Rattle.qplain.specs.Use.{use_of}
use Rattle.qplain_laws.proofs.Orders.{above-zero, rises-sorted}
use Rattle.qplain_image.specs.Blocks.{AreBlocksOf, IsSparse, block_in, blocks_in}
use Rattle.qplain_image.specs.Parts.{HolderPart, InodePart, Sections, part_rows, rows_in, section_rows}
use Rattle.qplain_image.specs.Rows.{Row, Bounds, Grace, Record, Block, Name, holder_row, inode_rows, rows_by, rows_of}
use Rattle.qplain_image.proofs.Refilling.{length-block}
use Rattle.qplain_image.proofs.Remaking.{HasRows}
use Rattle.qtext_image.specs.Faults.{are_blocks_long}

-- what the row of a holder tells in a state
abbrev pub holder_part : State → Holder → HolderPart
holder_part S h = record { holder = h; blocks = use_of S h.kind h.id Blocks; inodes = use_of S h.kind h.id Inodes }

-- what the rows of an inode tell
abbrev pub inode_part : ℕ × Inode → InodePart
inode_part e = record { number = e.0; dir = e.1.dir; owners = e.1.owners; size = size_of e.1.file; blocks = blocks_in e.1.file }

-- the state in sections
abbrev pub sections_of : State → Sections
sections_of S = record {
  size = S.size;
  most = S.most_inodes;
  next = S.next;
  graces = S.graces;
  records = map (holder_part S) S.holders;
  inodes = map inode_part S.inodes;
  names = S.names;
}

records-are : (S : State) (hs : List Holder) → map (λ t. Record t.holder t.blocks t.inodes) (map (holder_part S) hs) ≡ map (holder_row S) hs
records-are S [] = refl
records-are S (h ∷ hs) = ap (λ l. holder_row S h ∷ l) (records-are S hs)

inode-is : (dir : Bool) (number : ℕ) (owners : Owners) (file : File)
    → rows_in dir number owners (size_of file) (blocks_in file) ≡ rows_by dir number owners file
inode-is true number owners file = refl
inode-is false number owners file = refl

inodes-are : (es : List (ℕ × Inode)) → flat_map part_rows (map inode_part es) ≡ flat_map inode_rows es
inodes-are [] = refl
inodes-are (e ∷ es) = λ i. inode-is e.1.dir e.0 e.1.owners e.1.file i ++ inodes-are es i

-- whose rows are the state's
pub sections-are : (S : State) → section_rows (sections_of S) ≡ rows_of S
sections-are S =
    λ i. Bounds S.size S.most_inodes S.next ∷ Grace S.graces ∷ (records-are S S.holders i ++ (inodes-are S.inodes i ++ map (λ e. Name e.0 e.1) S.names))

-- ---- blocks

sparse-blocks : (file : File) (from : ℕ) (ks : List ℕ) → Rises from ks → AllByRecursion (λ k. begins_below (size_of file) k ≡ true) ks
    → AreBlocksOf (size_of file) from (map (λ k. (k, block_in file k)) ks)
sparse-blocks file from [] rises below = tt
sparse-blocks file from (k ∷ ks) rises below =
    let low : k * BLOCK_SIZE < length file.bytes = grind (arith, tests, below.0) in
    let later : Rises (k + 1) ks = Rises-weaker (k + 1) (suc k) ks (omega arith) rises.1 in
    (rises.0, record { begins = below.0; long = length-block file k low }, sparse-blocks file (k + 1) ks later below.1)

pub blocks-are : (file : File) → IsSparse file → AreBlocksOf (size_of file) 0 (blocks_in file)
blocks-are file is =
    sparse-blocks file 0 file.allocated (rises-sorted 0 file.allocated (above-zero file.allocated) is.in_order)
    (recursion_from_All (λ k. begins_below (size_of file) k ≡ true) file.allocated is.below)

-- the first of such blocks are such blocks
pub blocks-front : (size from : ℕ) (first more : List (ℕ × List ℕ)) → AreBlocksOf size from (first ++ more) → AreBlocksOf size from first
blocks-front size from [] more are = tt
blocks-front size from (b ∷ first) more are = (are.0, are.1, blocks-front size (b.0 + 1) first more are.2)

-- what is told of each inode
abbrev pub HasBlocks : InodePart → Type 0
HasBlocks p = AreBlocksOf p.size 0 p.blocks

pub parts-blocks : (es : List (ℕ × Inode)) → All HasRows (values_of es) → AllByRecursion HasBlocks (map inode_part es)
parts-blocks [] all = tt
parts-blocks (e ∷ es) all =
    (blocks-are e.1.file (All-head HasRows e.1 (values_of es) all).file, parts-blocks es (All-tail HasRows e.1 (values_of es) all))

-- ---- the lengths of blocks

names-long : (size : ℕ) (es : List (NameKey × ℕ)) → are_blocks_long size (map (λ e. Name e.0 e.1) es) ≡ true
names-long size [] = refl
names-long size (e ∷ es) = names-long 0 es

-- rows whose blocks are long, whatever is told before
abbrev AreLong : List Row → Type 0
AreLong rows = (size : ℕ) → are_blocks_long size rows ≡ true

blocks-long : (size from : ℕ) (bs : List (ℕ × List ℕ)) (rest : List Row) → AreBlocksOf size from bs → AreLong rest
    → are_blocks_long size (map (λ b. Block b) bs ++ rest) ≡ true
blocks-long size from [] rest are long = long size
blocks-long size from (b ∷ bs) rest are long =
    let whole : (length b.1 == min BLOCK_SIZE (size - b.0 * BLOCK_SIZE)) ≡ true = eq-eqb (length b.1) (min BLOCK_SIZE (size - b.0 * BLOCK_SIZE)) are.1.long in
    rw (are.1.begins, whole, blocks-long size (b.0 + 1) bs rest are.2 long) refl

inode-long : (dir : Bool) (number : ℕ) (owners : Owners) (size : ℕ) (blocks : List (ℕ × List ℕ)) (rest : List Row) → AreBlocksOf size 0 blocks → AreLong rest
    → AreLong (rows_in dir number owners size blocks ++ rest)
inode-long true number owners size blocks rest are long n = long 0
inode-long false number owners size blocks rest are long n = blocks-long size 0 blocks rest are long

inodes-long : (ps : List InodePart) (rest : List Row) → AllByRecursion HasBlocks ps → AreLong rest → AreLong (flat_map part_rows ps ++ rest)
inodes-long [] rest all long n = long n
inodes-long (p ∷ ps) rest all long n =
    ap (are_blocks_long n) (append_assoc (part_rows p) (flat_map part_rows ps) rest)
    ∙ inode-long p.dir p.number p.owners p.size p.blocks (flat_map part_rows ps ++ rest) all.0 (inodes-long ps rest all.1 long) n

records-long : (ts : List HolderPart) (rest : List Row) → AreLong rest → AreLong (map (λ t. Record t.holder t.blocks t.inodes) ts ++ rest)
records-long [] rest long n = long n
records-long (t ∷ ts) rest long n = records-long ts rest long 0

-- blocks in sections have their lengths
pub sections-long : (s : Sections) → AllByRecursion HasBlocks s.inodes → are_blocks_long 0 (section_rows s) ≡ true
sections-long s all =
    records-long s.records (flat_map part_rows s.inodes ++ map (λ e. Name e.0 e.1) s.names)
    (inodes-long s.inodes (map (λ e. Name e.0 e.1) s.names) all (λ n. names-long n s.names)) 0
