-- What is found from the root on, one step after the other.
use Rattle.std.specs.Prelude.{◌≡◌, ℕ, Bool, not, ◌==◌, ◌&&◌, ◌||◌, List, [], map, nat_eq, Option, Some, None}
use Rattle.std.specs.HashMap as hash
use Rattle.std.specs.HashSet as bag
use Rattle.std.specs.HashMap.{HashMap}
use Rattle.std.specs.List.{filter, flat_map, list_any}
use Rattle.std.specs.declared.vec.Vec.{Vec}
use Rattle.qrules.specs.declared.name_row.NameRow.{NameRow}
use Rattle.qstore_open.specs.declared.reach.Reach.{Reach}

-- the numbers that are told, if any are
abbrev pub items_of : {A : Type 0} → Option (Vec ℕ A) → List ℕ
items_of None = []
items_of (Some v) = v.items

-- the numbers under this directory
abbrev pub inos_at : {A S : Type 0} → HashMap ℕ (Vec ℕ A) S → ℕ → List ℕ
inos_at inos dir = items_of (hash.get nat_eq inos dir)

-- the numbers under these directories
abbrev pub inos_of_all : {A S : Type 0} → HashMap ℕ (Vec ℕ A) S → List ℕ → List ℕ
inos_of_all inos dirs = flat_map (inos_at inos) dirs

-- the numbers that names in this directory lead to
abbrev pub inos_in : ℕ → List NameRow → List ℕ
inos_in dir names = map (λ name. name.ino) (filter (λ name. dir == name.dir) names)

-- the number is one of them
abbrev pub is_among : ℕ → List ℕ → Bool
is_among number numbers = list_any (nat_eq number) numbers

-- the inode of this number was found
abbrev pub has : Reach → ℕ → Bool
has reach number = bag.contains nat_eq reach.found number

-- the inode of this number is in front
abbrev pub is_in_front : Reach → ℕ → Bool
is_in_front reach number = is_among number reach.front.items

-- these numbers are found, and those that were not before have come to the front
pub record Finds (numbers : List ℕ) (old new : Reach) : Type 0 where
  pub found : (number : ℕ) → has new number ≡ (has old number || is_among number numbers)
  pub front : (number : ℕ) → is_in_front new number
      ≡ (is_in_front old number || (has new number && not (has old number)))

-- what names in the directories in front lead to is found, and in front is what was not before
pub record IsStep {A S : Type 0} (inos : HashMap ℕ (Vec ℕ A) S) (old new : Reach) : Type 0 where
  pub found : (number : ℕ) → has new number
      ≡ (has old number || is_among number (inos_of_all inos old.front.items))
  pub front : (number : ℕ) → is_in_front new number ≡ (has new number && not (has old number))
