-- What the tests of a call come to, and of what they are made: of the inode that a path leads to, or of the last name
-- of a path in its parent (path_resolution(7), narrowed).
use Rattle.std.specs.Prelude.{ℕ, List, Option, Some, None, Result, Ok, Err}
use Rattle.qplain.specs.declared.change.Change.{Change}
use Rattle.qplain.specs.declared.refusal.Refusal.{Refusal}
use Rattle.qplain.specs.declared.refusal.Refusal.TheVariants.{ENOENT}
use Rattle.qplain.specs.declared.reply.Reply.{Reply}
use Rattle.qplain.specs.State.{Inode, State, inode_at, named}
use Rattle.qplain.specs.Walk.{components, last_name, led_to, parent, walk}

-- what the tests leave: a refusal, a reply that changes nothing, or the plain result and the number that Done names
pub data Attempt : Type 0 where
  Refuse : Refusal → Attempt
  Answer : Reply → Attempt
  Becomes : State → ℕ → Attempt

-- the totals neither rise nor fall
abbrev pub no_change : Change
no_change = record { blocks_charged = 0; blocks_released = 0; inodes_charged = 0; inodes_released = 0 }

-- ---- of the inode that a path or a name leads to

-- what is tried of an inode, if it is there
abbrev pub at_inode : (ℕ → Inode → Attempt) → ℕ → Option Inode → Attempt
at_inode try number None = Refuse ENOENT
at_inode try number (Some inode) = try number inode

-- what is tried of the inode that was reached
abbrev pub at_reached : State → (ℕ → Inode → Attempt) → Result ℕ Refusal → Attempt
at_reached S try (Err r) = Refuse r
at_reached S try (Ok number) = at_inode try number (inode_at S number)

-- what is tried of the inode that the path leads to
abbrev pub at_path : State → (ℕ → Inode → Attempt) → List ℕ → Attempt
at_path S try path = at_reached S try (walk S (components path))

-- what is tried of the inode that the name in this directory leads to
abbrev pub at_name : State → (ℕ → Inode → Attempt) → ℕ → List ℕ → Attempt
at_name S try dir name = at_reached S try (led_to (named S dir name))

-- ---- of a name in the parent of a path

-- what is tried of a name in the directory that was reached
abbrev pub in_reached : (ℕ → List ℕ → Attempt) → List ℕ → Result ℕ Refusal → Attempt
in_reached try name (Err r) = Refuse r
in_reached try name (Ok dir) = try dir name

-- what is tried of the last of the names in the parent that the others lead to; without a name, this refusal
abbrev pub under : State → Refusal → (ℕ → List ℕ → Attempt) → List (List ℕ) → Option (List ℕ) → Attempt
under S of_root try names None = Refuse of_root
under S of_root try names (Some name) = in_reached try name (parent S names)

-- what is tried of the path's last name in its parent; of the path `/`, this refusal
abbrev pub in_parent : State → Refusal → (ℕ → List ℕ → Attempt) → List ℕ → Attempt
in_parent S of_root try path = under S of_root try (components path) (last_name (components path))
