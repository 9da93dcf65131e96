-- The parts of a store, and when they belong together: of such a store may be made, and all stores keep them so.
use Rattle.std.specs.Prelude.{ℕ, List}
use Rattle.std.specs.Ordering.{nat_cmp}
use Rattle.std.specs.List.Sorted.{IsStrictlySortedBy}
use Rattle.std.specs.Map.{keys_of}
use Rattle.qplain.specs.State.{State}
use Rattle.qstore_tree.specs.Tree.{RoomyTree}
use Rattle.qstore_tree.specs.TreeOf.{AreLinks}
use Rattle.qstore_accounts.specs.Books.{AreBooksOf, AreInRange, Books, holders_of}
use Rattle.qstore.specs.Stored.{IsStorable}

-- the plain machine's state that they tell of
abbrev pub state_of_parts : ℕ → Books → RoomyTree → ℕ → State
state_of_parts file_limit b tree next = record {
  size = b.size;
  most_inodes = b.most_inodes;
  file_limit = file_limit;
  graces = b.graces;
  holders = holders_of b;
  inodes = tree.inodes;
  names = tree.names;
  next = next;
}

-- the state is storable, and what is kept beside it is what it counts to: the books, and each inode's links in order
pub record IsCounted (S : State) (b : Books) (kept : List (ℕ × ℕ)) : Type 0 where
  pub sound : IsStorable S
  pub books : AreBooksOf S b
  pub in_range : AreInRange b
  pub links : AreLinks S kept
  pub in_order : IsStrictlySortedBy nat_cmp (keys_of kept)

-- the books and the tree belong to the state that they tell of
abbrev pub AreParts : ℕ → Books → RoomyTree → ℕ → Type 0
AreParts file_limit b tree next = IsCounted (state_of_parts file_limit b tree next) b tree.links
