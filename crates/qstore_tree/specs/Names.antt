-- The names in one directory, as a store keeps them.
use Rattle.std.specs.Prelude.{◌≡◌, ℕ, List, String, string_bytes, if◌then◌else◌, None}
use Rattle.std.specs.Borrow.{Bor}
use Rattle.std.specs.Ordering.{nat_cmp}
use Rattle.std.specs.Cmp.Lexicographic.{slice_cmp}
use Rattle.std.specs.BTreeMap.{is_at}
use Rattle.std.specs.Map.{lookup}
use Rattle.qrules.specs.declared.name_row.NameRow.{NameRow}
use Rattle.qstore_tree.specs.InOrder.{in_order, keyed_by}

-- the names by their bytes, each with the inode that it leads to, and how many more there is room for
pub record RoomyNames : Type 0 where
  pub entries : List (List ℕ × ℕ)
  pub room : ℕ

-- a table's names by their bytes
abbrev pub names_of : {A : Type 0} → List (String A × ℕ) → List (List ℕ × ℕ)
names_of entries = in_order (slice_cmp nat_cmp) (keyed_by string_bytes entries)

-- the new names are the old ones but for this one, which leads nowhere
abbrev pub LosesName : List ℕ → List (List ℕ × ℕ) → List (List ℕ × ℕ) → Type 0
LosesName name old new =
    (n : List ℕ) → lookup (is_at (slice_cmp nat_cmp n)) new
    ≡ (if is_at (slice_cmp nat_cmp name) n then None else lookup (is_at (slice_cmp nat_cmp n)) old)

-- the row of a name in this directory
abbrev pub name_row : ℕ → List ℕ × ℕ → NameRow
name_row dir e = record { dir = dir; ino = e.1 }

-- a name that is borrowed, and its number, as contracts see them
abbrev pub borrowed_entry : {A : Type 0} → Bor (String A) × ℕ → List ℕ × ℕ
borrowed_entry name = (string_bytes name.0.now, name.1)
