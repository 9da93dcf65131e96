-- What a store tells, as lines of an image. No public clause cites this module.
use Rattle.std.specs.Prelude.{ℕ, List, ◌++◌}
use Rattle.std.specs.List.{flat_map}
use Rattle.qrules.specs.declared.record_row.RecordRow.{RecordRow}
use Rattle.qblocks.specs.File.{File}
use Rattle.qplain.specs.State.{Holder, Inode, NameKey, State}
use Rattle.qplain_image.specs.Blocks.{block_in}
use Rattle.qplain_image.specs.Rows.{Block, Bounds, Grace, Name, Record, holder_row, inode_rows}
use Rattle.qtext_image.specs.Spelling.{end_line, row_text}

-- the line of a quota record
abbrev pub record_text : RecordRow → List ℕ
record_text r = row_text (Record (record {
  kind = r.kind;
  id = r.id;
  name = r.name;
  limits = r.limits;
  block_end = r.block_end;
  inode_end = r.inode_end;
}) r.blocks r.inodes)

-- the line of a holder, with what it uses in the state
abbrev pub holder_text : State → Holder → List ℕ
holder_text S h = row_text (holder_row S h)

-- the line of the block at an index of a file
abbrev pub block_text : File → ℕ → List ℕ
block_text file k = row_text (Block (k, block_in file k))

-- a line for each allocated block of a file
abbrev pub blocks_text : File → List ℕ
blocks_text file = flat_map (block_text file) file.allocated

-- the lines of an inode under its number: its own, and those of its blocks
abbrev pub inode_text : ℕ × Inode → List ℕ
inode_text e = flat_map row_text (inode_rows e)

-- the line of a name
abbrev pub name_text : NameKey × ℕ → List ℕ
name_text e = row_text (Name e.0 e.1)

-- the lines of the bounds, of the graces and of the holders
abbrev pub settings_text : State → List ℕ
settings_text S = row_text (Bounds S.size S.most_inodes S.next)
    ++ (row_text (Grace S.graces) ++ flat_map (holder_text S) S.holders)

-- the lines of the inodes and of the names, and the last line
abbrev pub tree_text : State → List ℕ
tree_text S = flat_map inode_text S.inodes ++ (flat_map name_text S.names ++ end_line)
