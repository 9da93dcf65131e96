-- What an image has of a state, row by row, and the state that is made of rows.
use Rattle.std.specs.Prelude.{◌≡◌, ℕ, Bool, true, false, List, [], ◌∷◌, ◌++◌, map, fold}
use Rattle.std.specs.List.{flat_map}
use Rattle.qrules.specs.declared.graces.Graces.{Graces}
use Rattle.qrules.specs.Sort.{Inodes, Blocks}
use Rattle.qblocks.specs.File.{File, empty_file, size_of}
use Rattle.qplain.specs.declared.owners.Owners.{Owners}
use Rattle.qplain.specs.Editions.{file_limit_of}
use Rattle.qplain.specs.Setups.{Setting}
use Rattle.qplain.specs.State.{Holder, Inode, NameKey, State}
use Rattle.qplain.specs.Use.{use_of}
use Rattle.qplain_laws.specs.Beginnings.{IsStateOf}
use Rattle.qplain_image.specs.Blocks.{blocks_in, unfilled, with_block}

-- a row: the bounds in blocks and in inodes, and the next number; the graces; a holder, and its uses of blocks and of
-- inodes; the number and the owners of a directory; those of a file, and its size; the index and the bytes of a block
-- of the file before it; a name, and the number that it leads to
pub data Row : Type 0 where
  Bounds : ℕ → ℕ → ℕ → Row
  Grace : Graces → Row
  Record : Holder → ℕ → ℕ → Row
  Directory : ℕ → Owners → Row
  FileHead : ℕ → Owners → ℕ → Row
  Block : ℕ × List ℕ → Row
  Name : NameKey → ℕ → Row

-- the row of a holder, with what it uses in the state
abbrev pub holder_row : State → Holder → Row
holder_row S h = Record h (use_of S h.kind h.id Blocks) (use_of S h.kind h.id Inodes)

-- the rows of an inode, by whether it is a directory: its own, and behind that of a file one for each of its blocks
abbrev pub rows_by : Bool → ℕ → Owners → File → List Row
rows_by true number owners file = Directory number owners ∷ []
rows_by false number owners file = FileHead number owners (size_of file) ∷ map (λ b. Block b) (blocks_in file)

-- the rows of an inode beside its number
abbrev pub inode_rows : ℕ × Inode → List Row
inode_rows e = rows_by e.1.dir e.0 e.1.owners e.1.file

-- the rows of a state: the bounds, the graces, the holders, the inodes with their blocks, and the names, each in the
-- state's order
abbrev pub rows_of : State → List Row
rows_of S = Bounds S.size S.most_inodes S.next ∷ Grace S.graces ∷ (map (holder_row S) S.holders
    ++ (flat_map inode_rows S.inodes ++ map (λ e. Name e.0 e.1) S.names))

-- a state of this file limit in which nothing stands
abbrev pub blank : ℕ → State
blank limit = record {
  size = 0;
  most_inodes = 0;
  file_limit = limit;
  graces = record { block = 0; inode = 0 };
  holders = [];
  inodes = [];
  names = [];
  next = 0;
}

-- the inodes with one block more in the last of them
abbrev pub with_last_block : ℕ × List ℕ → List (ℕ × Inode) → List (ℕ × Inode)
with_last_block b [] = []
with_last_block b (e ∷ []) = (e.0, record e.1 { file = with_block e.1.file b }) ∷ []
with_last_block b (e ∷ other ∷ rest) = e ∷ with_last_block b (other ∷ rest)

-- the state with what one row more tells, where the uses of a holder are passed over
abbrev pub with_row : State → Row → State
with_row S (Bounds size most next) = record S { size = size; most_inodes = most; next = next }
with_row S (Grace graces) = record S { graces = graces }
with_row S (Record h blocks inodes) = record S { holders = S.holders ++ h ∷ [] }
with_row S (Directory number owners) =
    record S { inodes = S.inodes ++ (number, record { dir = true; owners = owners; file = empty_file }) ∷ [] }
with_row S (FileHead number owners size) =
    record S { inodes = S.inodes ++ (number, record { dir = false; owners = owners; file = unfilled size }) ∷ [] }
with_row S (Block b) = record S { inodes = with_last_block b S.inodes }
with_row S (Name key number) = record S { names = S.names ++ (key, number) ∷ [] }

-- the state of this file limit that is made of rows, in their order
abbrev pub made_of : ℕ → List Row → State
made_of limit rows = fold with_row (blank limit) rows

-- each state that a store may begin with is made again of its rows and of the file limit of its setup's edition
abbrev pub StatesAreMadeAgain : Type 0
StatesAreMadeAgain = (setting : Setting) (S : State) → IsStateOf setting S
    → made_of (file_limit_of setting.edition) (rows_of S) ≡ S
