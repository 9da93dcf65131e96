-- What the struct that an inode is listed in stands for.
use Rattle.std.specs.Prelude.{List, map, Option, Some, None, Result, Ok, Err}
use Rattle.qrules.specs.declared.inode_row.InodeRow.{InodeRow}
use Rattle.qstore.specs.Rows.{inode_row_of}
use Rattle.qsession.specs.declared.inodes.ListedInode.{ListedInode}
use Rattle.qsession.specs.declared.fault.Fault.{Fault}
use Rattle.qsession.specs.declared.fault.Fault.TheVariants.{Closed}
use Rattle.qsession.specs.Holdings.{Holding}
use Rattle.qsession.specs.Requests.{named}

-- the row of an inode
abbrev pub inode_in : ListedInode → InodeRow
inode_in i = record {
  ino = i.ino;
  dir = i.dir;
  uid = i.uid;
  gid = i.gid;
  project = named i.has_project i.project;
  blocks = i.blocks;
  links = i.links;
}

-- the rows of the inodes of a session, by number; a closed one has none to tell
abbrev pub inodes_in : Option Holding → Result (List InodeRow) Fault
inodes_in None = Err Closed
inodes_in (Some h) = Ok (map (inode_row_of h.state) h.state.inodes)
