-- The link counts of the directories between which a directory moves. No public clause cites this module.
use Rattle.std.specs.Prelude.{◌≡◌, ℕ, ◌+◌, ◌-◌, ◌==◌, Bool, if◌then◌else◌, List}
use Rattle.std.specs.Ordering.{nat_cmp}
use Rattle.std.specs.BTreeMap.{is_at}
use Rattle.std.specs.Map.{set_value}
use Rattle.qstore_tree.specs.Tree.{RoomyTree}

-- the counts after a directory moved, by whether it took the place of another and how many links its parents had:
-- the one that it leaves has one less, and the one that it comes to one more, but for the one that it replaces
abbrev pub moved_links : List (ℕ × ℕ) → ℕ → ℕ → Bool → ℕ → ℕ → List (ℕ × ℕ)
moved_links links dir to_dir onto from to =
    if onto then set_value (is_at (nat_cmp dir)) links (from - 1)
    else if dir == to_dir then links
    else set_value (is_at (nat_cmp to_dir)) (set_value (is_at (nat_cmp dir)) links (from - 1)) (to + 1)

-- the two have the same inodes, names and room, whatever their link counts
pub record IsSameButLinks (old new : RoomyTree) : Type 0 where
  pub inodes : new.inodes ≡ old.inodes
  pub names : new.names ≡ old.names
  pub room : new.room ≡ old.room
