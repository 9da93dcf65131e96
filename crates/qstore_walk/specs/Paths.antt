-- Paths as they are read, one component after another, and what is wrong with one as it is written.
use Rattle.std.specs.Prelude.{ℕ, not, if◌then◌else◌, List, [], Option, Some, None}
use Rattle.std.specs.List.{list_all, list_any, slice_split}
use Rattle.std.specs.Option.{unwrap_or}
use Rattle.qplain.specs.declared.refusal.Refusal.{Refusal}
use Rattle.qplain.specs.declared.refusal.Refusal.TheVariants.{EINVAL, ENAMETOOLONG}
use Rattle.qplain.specs.Walk.{components, is_slash, is_too_long, is_well_formed, last_name}

-- the parts between slashes, where there is anything
abbrev pub parts_in : Option (List ℕ) → List (List ℕ)
parts_in None = []
parts_in (Some bytes) = slice_split is_slash bytes

-- the last name of a path
abbrev pub name_in : List ℕ → List ℕ
name_in path = unwrap_or (last_name (components path)) []

-- what is wrong with a path as it is written
abbrev pub path_fault : List ℕ → Option Refusal
path_fault path =
    if not (is_well_formed path) then Some EINVAL
    else if is_too_long path then Some ENAMETOOLONG else None

-- what is wrong with some paths: all causes of EINVAL come before ENAMETOOLONG
abbrev pub paths_fault : List (List ℕ) → Option Refusal
paths_fault paths =
    if not (list_all is_well_formed paths) then Some EINVAL
    else if list_any is_too_long paths then Some ENAMETOOLONG else None
