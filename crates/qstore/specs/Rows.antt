-- The rows of records, inodes and names, as reports and audits see a state.
use Rattle.std.specs.Prelude.{ℕ, length}
use Rattle.qrules.specs.declared.inode_row.InodeRow.{InodeRow}
use Rattle.qplain.specs.State.{Inode, State}
use Rattle.qplain.specs.Use.{links_of}
pub use Rattle.qstore_accounts.specs.Rows.{StandsBefore, record_row_of}
pub use Rattle.qstore_tree.specs.Tree.{name_row_of}

-- the row of an inode under its number, with its counted links
abbrev pub inode_row_of : State → ℕ × Inode → InodeRow
inode_row_of S e = record {
  ino = e.0;
  dir = e.1.dir;
  uid = e.1.owners.uid;
  gid = e.1.owners.gid;
  project = e.1.owners.project;
  blocks = length e.1.file.allocated;
  links = links_of S e.0 e.1.dir;
}
