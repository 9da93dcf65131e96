-- What is made beforehand in a tree, so that later changes take no memory.
use Rattle.std.specs.Prelude.{◌≡◌, ℕ, ◌≤◌, List, Option, None}
use Rattle.std.specs.Option.{unwrap_or}
use Rattle.std.specs.Ordering.{nat_cmp}
use Rattle.std.specs.BTreeMap.{is_at}
use Rattle.std.specs.Map.{lookup}
use Rattle.qblocks.specs.WriteRoom.{RoomyFile}

-- what is made beforehand: room for a number of further inodes, by directory for a number of names, and each file's
pub record Room : Type 0 where
  pub inodes : ℕ
  pub names : List (ℕ × ℕ)
  pub files : List (ℕ × Option RoomyFile)

-- for how many more names there is room in this directory
abbrev pub name_room : Room → ℕ → ℕ
name_room room dir = unwrap_or (lookup (is_at (nat_cmp dir)) room.names) 0

-- the file with its room under this number, if one is there
abbrev pub file_room : Room → ℕ → Option RoomyFile
file_room room number = unwrap_or (lookup (is_at (nat_cmp number)) room.files) None

-- the room for inodes and in files stays, and that for names falls nowhere
pub record KeepsRoom (old new : Room) : Type 0 where
  pub inodes : new.inodes ≡ old.inodes
  pub names : (dir : ℕ) → name_room old dir ≤ name_room new dir
  pub files : new.files ≡ old.files
