-- All inodes and names, as a store keeps them, and what calls see of them.
use Rattle.std.specs.Prelude.{◌≡◌, ℕ, ◌<◌, true, List, [], ◌∷◌, ◌++◌, length, None}
use Rattle.std.specs.Borrow.{Bor}
use Rattle.std.specs.Option.{unwrap_or}
use Rattle.std.specs.Ordering.{nat_cmp}
use Rattle.std.specs.Cmp.Lexicographic.{slice_cmp}
use Rattle.std.specs.BTreeMap.{is_at}
use Rattle.std.specs.Map.{lookup}
use Rattle.qrules.specs.declared.inode_row.InodeRow.{InodeRow}
use Rattle.qrules.specs.declared.name_row.NameRow.{NameRow}
use Rattle.qplain.specs.State.{Inode, NameKey, is_dir, name_key_cmp}
use Rattle.qstore_tree.specs.declared.node.Node.{Node}
pub use Rattle.qstore_tree.specs.Room.{Room, file_room, name_room}
use Rattle.qstore_tree.specs.InOrder.{in_order, keyed_by, read_by}
use Rattle.qstore_tree.specs.Names.{RoomyNames}
use Rattle.qstore_tree.specs.Nodes.{inode_of, name_room_in, names_in, roomy_file_in}

-- the inodes by number, the names by key, the kept link counts by number, and the room
pub record RoomyTree : Type 0 where
  pub inodes : List (ℕ × Inode)
  pub names : List (NameKey × ℕ)
  pub links : List (ℕ × ℕ)
  pub room : Room

-- the names in one directory, each under its key
abbrev pub keyed : ℕ → List (List ℕ × ℕ) → List (NameKey × ℕ)
keyed dir names = keyed_by (λ name. (dir, name)) names

-- the names in all directories, each directory's by their bytes
abbrev pub all_names : List (ℕ × Node) → List (NameKey × ℕ)
all_names [] = []
all_names (e ∷ es) = keyed e.0 (in_order (slice_cmp nat_cmp) (names_in e.1.content)) ++ all_names es

-- the names in directories that are borrowed, each directory's by their bytes
abbrev pub names_in_all : List (ℕ × Bor RoomyNames) → List (NameKey × ℕ)
names_in_all [] = []
names_in_all (d ∷ ds) = keyed d.0 (in_order (slice_cmp nat_cmp) d.1.now.entries) ++ names_in_all ds

-- what is seen of nodes in a table that has room for `spare` more
abbrev pub tree_of : List (ℕ × Node) → ℕ → RoomyTree
tree_of nodes spare = record {
  inodes = read_by inode_of (in_order nat_cmp nodes);
  names = all_names (in_order nat_cmp nodes);
  links = read_by (λ n. n.links) (in_order nat_cmp nodes);
  room = record {
    inodes = spare;
    names = read_by (λ n. name_room_in n.content) (in_order nat_cmp nodes);
    files = read_by (λ n. roomy_file_in n.content) (in_order nat_cmp nodes);
  };
}

-- the two hold the same, whatever room there is
pub record IsSameTree (old new : RoomyTree) : Type 0 where
  pub inodes : new.inodes ≡ old.inodes
  pub names : new.names ≡ old.names
  pub links : new.links ≡ old.links

-- there is room for one more inode, under one more name in this directory
pub record HasRoomFor (tree : RoomyTree) (dir : ℕ) : Type 0 where
  pub inode : 0 < tree.room.inodes
  pub name : 0 < name_room tree.room dir

-- no name stands in the inode of this number, if it is a directory
abbrev pub HasNoNames : RoomyTree → ℕ → Type 0
HasNoNames tree number =
    is_dir (lookup (is_at (nat_cmp number)) tree.inodes) ≡ true
    → (name : List ℕ) → lookup (is_at (name_key_cmp (number, name))) tree.names ≡ None

-- the row of an inode under a number, with the link count that is kept for it
abbrev pub kept_row : List (ℕ × ℕ) → ℕ × Inode → InodeRow
kept_row links e = record {
  ino = e.0;
  dir = e.1.dir;
  uid = e.1.owners.uid;
  gid = e.1.owners.gid;
  project = e.1.owners.project;
  blocks = length e.1.file.allocated;
  links = unwrap_or (lookup (is_at (nat_cmp e.0)) links) 0;
}

-- the row of a name
abbrev pub name_row_of : NameKey × ℕ → NameRow
name_row_of e = record { dir = e.0.0; ino = e.1 }
