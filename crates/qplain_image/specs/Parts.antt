-- Rows in their sections, as a reader takes them in: when they are those of the state that is made of them.
use Rattle.std.specs.Prelude.{◌≡◌, ℕ, Bool, true, false, List, [], ◌∷◌, ◌++◌, map}
use Rattle.std.specs.List.{flat_map, AllByRecursion}
use Rattle.qrules.specs.declared.graces.Graces.{Graces}
use Rattle.qrules.specs.Sort.{Inodes, Blocks}
use Rattle.qplain.specs.declared.owners.Owners.{Owners}
use Rattle.qplain.specs.State.{Holder, NameKey, State}
use Rattle.qplain.specs.Use.{use_of}
use Rattle.qplain_image.specs.Blocks.{AreBlocksOf}
use Rattle.qplain_image.specs.Rows.{Row, Bounds, Grace, Record, Directory, FileHead, Block, Name, made_of, rows_of}

-- what the row of a holder tells: the holder, and its uses of blocks and of inodes
pub record HolderPart : Type 0 where
  pub holder : Holder
  pub blocks : ℕ
  pub inodes : ℕ

-- what the rows of an inode tell: its number, whether it is a directory, its owners, and of a file its size and its
-- blocks
pub record InodePart : Type 0 where
  pub number : ℕ
  pub dir : Bool
  pub owners : Owners
  pub size : ℕ
  pub blocks : List (ℕ × List ℕ)

-- what the sections of an image tell: the bounds in blocks and in inodes, the next number, the graces, the holders, the
-- inodes, and the names with the numbers that they lead to
pub record Sections : Type 0 where
  pub size : ℕ
  pub most : ℕ
  pub next : ℕ
  pub graces : Graces
  pub records : List HolderPart
  pub inodes : List InodePart
  pub names : List (NameKey × ℕ)

-- the rows that tell this of an inode, by whether it is a directory
abbrev pub rows_in : Bool → ℕ → Owners → ℕ → List (ℕ × List ℕ) → List Row
rows_in true number owners size blocks = Directory number owners ∷ []
rows_in false number owners size blocks = FileHead number owners size ∷ map (λ b. Block b) blocks

-- the rows of one inode
abbrev pub part_rows : InodePart → List Row
part_rows p = rows_in p.dir p.number p.owners p.size p.blocks

-- the rows of all sections, one section behind the other
abbrev pub section_rows : Sections → List Row
section_rows s = Bounds s.size s.most s.next ∷ Grace s.graces ∷ (map (λ t. Record t.holder t.blocks t.inodes) s.records
    ++ (flat_map part_rows s.inodes ++ map (λ e. Name e.0 e.1) s.names))

-- the uses that are told of a holder are those that it has in the state
pub record HasUses (S : State) (t : HolderPart) : Type 0 where
  pub blocks : t.blocks ≡ use_of S t.holder.kind t.holder.id Blocks
  pub inodes : t.inodes ≡ use_of S t.holder.kind t.holder.id Inodes

-- the blocks of each file rise and have their lengths, and the uses that are told are those of the state that is made
-- of the rows
pub record AreSections (limit : ℕ) (s : Sections) : Type 0 where
  pub blocks : AllByRecursion (λ p. AreBlocksOf p.size 0 p.blocks) s.inodes
  pub told : AllByRecursion (HasUses (made_of limit (section_rows s))) s.records

-- rows in such sections are those of the state that is made of them
abbrev pub RowsAreGivenBack : Type 0
RowsAreGivenBack = (limit : ℕ) (s : Sections) → AreSections limit s
    → rows_of (made_of limit (section_rows s)) ≡ section_rows s
