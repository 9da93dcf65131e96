-- What a change makes of a state's inodes and names, and when it may be made.
use Rattle.std.specs.Prelude.{◌≡◌, ℕ, ◌+◌, ◌<◌, ◌≤◌, ◌==◌, ◌&&◌, not, true, false, List, length, string_bytes}
use Rattle.std.specs.Prelude.{Option, Some, None}
use Rattle.qblocks.specs.declared.file.TheConstants.{MAX_SIZE}
use Rattle.qblocks.specs.File.{after_truncate, after_write}
use Rattle.qblocks.specs.WriteRoom.{IsThereToPut}
use Rattle.qplain.specs.State.{Inode, State, inode_at, is_directory, named, new_directory, new_file}
use Rattle.qplain.specs.Use.{is_empty}
use Rattle.qplain.specs.Files.{with_inode}
use Rattle.qplain.specs.Names.{created, swept, with_name, without_name}
use Rattle.qplain.specs.Renames.{passes, renamed}
use Rattle.qplain.specs.Owners.{with_owners}
use Rattle.qstore_tree.specs.Room.{Room, file_room, name_room}
use Rattle.qstore_tree.specs.TreeOf.{IsFile}
use Rattle.qstore_walk.specs.Paths.{name_in}
use Rattle.qstore_change.specs.declared.tree_change.TreeChange.{TreeChange}
use Rattle.qstore_change.specs.declared.tree_change.TreeChange.TheVariants.{Create, Mkdir, Write, Truncate, Unlink}
use Rattle.qstore_change.specs.declared.tree_change.TreeChange.TheVariants.{Rmdir, Link, Rename, Chown}

-- the state in which the inode of this number, if it is there, is changed so
abbrev pub altered_at : State → ℕ → (Inode → Inode) → Option Inode → State
altered_at S number change None = S
altered_at S number change (Some inode) = with_inode S number (change inode)

-- the same for what is at the number
abbrev pub altered : State → ℕ → (Inode → Inode) → State
altered S number change = altered_at S number change (inode_at S number)

-- what a change makes of inodes and names
abbrev pub changed : State → TreeChange → State
changed S (Create dir name owners) = created S (new_file owners) dir (string_bytes name)
changed S (Mkdir dir name owners) = created S (new_directory owners) dir (string_bytes name)
changed S (Write number off bytes spare) =
    altered S number (λ inode. record inode { file = after_write inode.file off bytes })
changed S (Truncate number size) =
    altered S number (λ inode. record inode { file = after_truncate inode.file size })
changed S (Unlink dir path number) = swept (without_name S dir (name_in path))
changed S (Rmdir dir path number) = swept (without_name S dir (name_in path))
changed S (Link dir name number) = with_name S dir (string_bytes name) number
changed S (Rename dir path to_dir to_name number) =
    renamed S dir (name_in path) to_dir (string_bytes to_name) number
changed S (Chown number owners) = altered S number (λ inode. with_owners inode owners)

-- a new file or directory may be put under this name
pub record CanCreate (S : State) (room : Room) (dir : ℕ) (name : List ℕ) : Type 0 where
  pub directory : is_directory S dir ≡ true
  pub absent : named S dir name ≡ None
  pub inode_room : 0 < room.inodes
  pub name_room : 0 < name_room room dir

-- these bytes may be written
pub record CanWrite (S : State) (room : Room) (number off spare : ℕ) (bytes : List ℕ) : Type 0 where
  pub inode : Inode
  pub there : inode_at S number ≡ Some inode
  pub bound : off + length bytes ≤ MAX_SIZE
  pub file : IsThereToPut (file_room room number) off (length bytes) spare

-- the file may be cut off or grow
pub record CanTruncate (S : State) (number size : ℕ) : Type 0 where
  pub file : IsFile S number
  pub bound : size ≤ MAX_SIZE

-- the name may go, which leads to a file
pub record CanUnlink (S : State) (dir number : ℕ) (name : List ℕ) : Type 0 where
  pub led : named S dir name ≡ Some number
  pub file : IsFile S number

-- the name may go, which leads to an empty directory
pub record CanRmdir (S : State) (dir number : ℕ) (name : List ℕ) : Type 0 where
  pub directory : is_directory S dir ≡ true
  pub led : named S dir name ≡ Some number
  pub inode : Inode
  pub there : inode_at S number ≡ Some inode
  pub is_dir : inode.dir ≡ true
  pub empty : is_empty S number ≡ true

-- the file may get this further name
pub record CanLink (S : State) (room : Room) (dir : ℕ) (name : List ℕ) (number : ℕ) : Type 0 where
  pub file : IsFile S number
  pub directory : is_directory S dir ≡ true
  pub absent : named S dir name ≡ None
  pub name_room : 0 < name_room room dir

-- what has the first name may get the second, in place of an inode of its own sort, which if it is a directory is empty
pub record CanRename (S : State) (room : Room) (dir : ℕ) (name : List ℕ) (to_dir : ℕ) (to_name : List ℕ) (number : ℕ)
    : Type 0 where
  pub led : named S dir name ≡ Some number
  pub inode : Inode
  pub there : inode_at S number ≡ Some inode
  pub directory : is_directory S to_dir ≡ true
  pub other : passes (λ n. n == number) (named S to_dir to_name) ≡ false
  pub onto_directory : (inode.dir && passes (λ n. not (is_directory S n)) (named S to_dir to_name)) ≡ false
  pub onto_file : (not inode.dir && passes (λ n. is_directory S n) (named S to_dir to_name)) ≡ false
  pub empty : passes (λ n. not (is_empty S n)) (named S to_dir to_name) ≡ false
  pub name_room : 0 < name_room room to_dir

-- the inode is there, and may get other owners
pub record CanChown (S : State) (number : ℕ) : Type 0 where
  pub inode : Inode
  pub there : inode_at S number ≡ Some inode

-- the change may be made, in this state and with this room
abbrev pub CanChange : State → Room → TreeChange → Type 0
CanChange S room (Create dir name owners) = CanCreate S room dir (string_bytes name)
CanChange S room (Mkdir dir name owners) = CanCreate S room dir (string_bytes name)
CanChange S room (Write number off bytes spare) = CanWrite S room number off spare bytes
CanChange S room (Truncate number size) = CanTruncate S number size
CanChange S room (Unlink dir path number) = CanUnlink S dir number (name_in path)
CanChange S room (Rmdir dir path number) = CanRmdir S dir number (name_in path)
CanChange S room (Link dir name number) = CanLink S room dir (string_bytes name) number
CanChange S room (Rename dir path to_dir to_name number) =
    CanRename S room dir (name_in path) to_dir (string_bytes to_name) number
CanChange S room (Chown number owners) = CanChown S number
