-- An inode as a store keeps it: with its link count, a directory with its names.
use Rattle.std.specs.Prelude.{◌≡◌, ℕ, Bool, true, false, List, [], length, replicate, Option, Some, None}
use Rattle.qrules.specs.declared.inode_row.InodeRow.{InodeRow}
use Rattle.qblocks.specs.File.{File, empty_file}
use Rattle.qblocks.specs.WriteRoom.{RoomyFile}
use Rattle.qplain.specs.State.{Inode}
use Rattle.qplain.specs.declared.owners.Owners.{Owners}
use Rattle.qstore_tree.specs.declared.node.Content.{Content}
use Rattle.qstore_tree.specs.declared.node.Content.TheVariants.{File as AFile, Directory}
use Rattle.qstore_tree.specs.declared.node.Node.{Node}

-- it is a directory
abbrev pub is_dir_content : Content → Bool
is_dir_content (AFile f) = false
is_dir_content (Directory names) = true

-- the file that it is; a directory's is empty
abbrev pub file_in : Content → File
file_in (AFile f) = f.file
file_in (Directory names) = empty_file

-- the file with its room, where it is one
abbrev pub roomy_file_in : Content → Option RoomyFile
roomy_file_in (AFile f) = Some f
roomy_file_in (Directory names) = None

-- the names in it, by their bytes
abbrev pub names_in : Content → List (List ℕ × ℕ)
names_in (AFile f) = []
names_in (Directory names) = names.entries

-- how many more names it has room for
abbrev pub name_room_in : Content → ℕ
name_room_in (AFile f) = 0
name_room_in (Directory names) = names.room

-- the inode as the plain machine sees it
abbrev pub inode_of : Node → Inode
inode_of n = record { dir = is_dir_content n.content; owners = n.owners; file = file_in n.content }

-- a file of these owners and of this size that has no block
abbrev pub unfilled_file : Owners → ℕ → Inode
unfilled_file owners size = record {
  dir = false;
  owners = owners;
  file = record { bytes = replicate size 0; allocated = [] };
}

-- the two are one inode with one link count and the same names, whatever room there is
pub record IsSameNode (old new : Node) : Type 0 where
  pub inode : inode_of new ≡ inode_of old
  pub links : new.links ≡ old.links
  pub names : names_in new.content ≡ names_in old.content

-- the row of an inode under this number
abbrev pub node_row : ℕ → Node → InodeRow
node_row number n = record {
  ino = number;
  dir = is_dir_content n.content;
  uid = n.owners.uid;
  gid = n.owners.gid;
  project = n.owners.project;
  blocks = length (file_in n.content).allocated;
  links = n.links;
}
