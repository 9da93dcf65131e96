-- What a tree has of a state: its inodes and names, and beside them the link counts; and where a file stands.
use Rattle.std.specs.Prelude.{◌≡◌, ℕ, false, List, Some}
use Rattle.std.specs.Option.{option_map}
use Rattle.std.specs.Ordering.{nat_cmp}
use Rattle.std.specs.BTreeMap.{is_at}
use Rattle.std.specs.List.Sorted.{IsStrictlySortedBy}
use Rattle.std.specs.Map.{keys_of, lookup}
use Rattle.qplain.specs.State.{Inode, State, inode_at}
use Rattle.qplain.specs.Use.{links_of}
use Rattle.qstore_tree.specs.Tree.{RoomyTree}

-- the link counts are those of the inodes that are there
abbrev pub AreLinks : State → List (ℕ × ℕ) → Type 0
AreLinks S links =
    (number : ℕ) → lookup (is_at (nat_cmp number)) links
    ≡ option_map (λ inode. links_of S number inode.dir) (inode_at S number)

-- the tree has the state's inodes and names, and keeps their link counts in the order of the numbers
pub record IsTreeOf (S : State) (tree : RoomyTree) : Type 0 where
  pub inodes : tree.inodes ≡ S.inodes
  pub names : tree.names ≡ S.names
  pub links : AreLinks S tree.links
  pub in_order : IsStrictlySortedBy nat_cmp (keys_of tree.links)

-- the inode is there, and a file
pub record IsFile (S : State) (number : ℕ) : Type 0 where
  pub inode : Inode
  pub there : inode_at S number ≡ Some inode
  pub is_file : inode.dir ≡ false
