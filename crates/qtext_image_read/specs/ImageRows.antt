-- The row that a value tells of.
use Rattle.std.specs.Prelude.{◌≡◌, Result, Ok, Err}
use Rattle.qplain_image.specs.Rows.{Row, Grace, FileHead}
use Rattle.qplain_image.specs.Rows as rows
use Rattle.qtext.specs.declared.read_fault.ReadFault.{ReadFault}
use Rattle.qtext.specs.declared.text_fault.TextKind.{TextKind}
use Rattle.qtext.specs.Gives.{Fails}
use Rattle.qtext_image_read.specs.declared.row.ImageRow.{ImageRow}
use Rattle.qtext_image_read.specs.declared.row.ImageRow.TheVariants.{Bounds, Graces, Record, Directory, File, Block}
use Rattle.qtext_image_read.specs.declared.row.ImageRow.TheVariants.{Name}
use Rattle.qtext_image_read.specs.Digits.{bytes_of}

-- the row that a value tells of
abbrev pub row_of_image_row : ImageRow → Row
row_of_image_row (Bounds size most next) = rows.Bounds size most next
row_of_image_row (Graces graces) = Grace graces
row_of_image_row (Record r) = rows.Record (record {
  kind = r.kind;
  id = r.id;
  name = r.name.now;
  limits = r.limits;
  block_end = r.block_end;
  inode_end = r.inode_end;
}) r.blocks r.inodes
row_of_image_row (Directory ino owners) = rows.Directory ino owners
row_of_image_row (File ino owners size) = FileHead ino owners size
row_of_image_row (Block b) = rows.Block (b.index, bytes_of b.digits.now)
row_of_image_row (Name dir name ino) = rows.Name (dir, name.now) ino

-- the value tells of the row that reading gives, unless memory ran out
abbrev pub TellsRow : Result ImageRow ReadFault → Result Row TextKind → Type 0
TellsRow (Ok row) read = read ≡ Ok (row_of_image_row row)
TellsRow (Err fault) read = Fails fault read
