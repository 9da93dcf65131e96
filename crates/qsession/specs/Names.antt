-- What the struct that a name is listed in stands for, beside a text of all names.
use Rattle.std.specs.Prelude.{◌≡◌, ℕ, ◌-◌, ◌^◌, ◌&&◌, min, nat_le, if◌then◌else◌, List, drop, flat_map, length, map, take}
use Rattle.std.specs.Prelude.{Option, Some, None}
use Rattle.qplain.specs.State.{NameKey}
use Rattle.qstore_tree.specs.declared.name.Name.{Name}
use Rattle.qsession.specs.declared.names.ListedName.{ListedName}
use Rattle.qsession.specs.declared.fault.Fault.TheVariants.{Closed, Room}
use Rattle.qsession.specs.Faults.{fault_code}
use Rattle.qsession.specs.Holdings.{Holding}

-- the bytes of a name
abbrev pub bytes_of : Name → List ℕ
bytes_of n = n.text.now

-- the row of a name whose bytes begin at a place of the text
abbrev pub row_at : ℕ → Name → ListedName
row_at at n = record { dir = n.dir; ino = n.ino; at = at; len = length n.text.now }

-- the name whose bytes stand at their place in the text, under its key, with the inode that it leads to
abbrev pub name_in : List ℕ → ListedName → NameKey × ℕ
name_in text n = ((n.dir, take n.len (drop n.at text)), n.ino)

-- how many bytes names have in all
abbrev pub bytes_in : List (NameKey × ℕ) → ℕ
bytes_in names = length (flat_map (λ name. name.0.1) names)

-- the number that is told of names: 0 where the list has room for them and the text for their bytes, or that of too
-- little room
abbrev pub names_code : List (NameKey × ℕ) → ℕ → ℕ → ℕ
names_code names rows room = if nat_le (length names) rows && nat_le (bytes_in names) room then 0 else fault_code Room

-- names are told in a list and a text: at the front of both, where there is room, and in any case how many they are,
-- and how many bytes, or the greatest number where that is more than it
pub record AreNamesPut (names : List (NameKey × ℕ)) (list : List ListedName) (text : List ℕ)
    (count len number : ℕ) : Type 0 where
  pub number_is : number ≡ names_code names (length list) (length text)
  pub count_is : count ≡ length names
  pub len_is : len ≡ min (bytes_in names) (2 ^ 64 - 1)
  pub front : number ≡ 0 → map (name_in text) (take count list) ≡ names

-- so are all names of a session, by directory and name, if it is open; else the number says that it is closed
abbrev pub AreNamesTold : Option Holding → List ListedName → List ℕ → ℕ → ℕ → ℕ → Type 0
AreNamesTold None list text count len number = number ≡ fault_code Closed
AreNamesTold (Some h) list text count len number = AreNamesPut h.state.names list text count len number
