-- What is wrong with the rows of an image at its end.
use Rattle.std.specs.Prelude.{ℕ, zero, suc, ◌+◌, ◌==◌, Bool, true, ◌&&◌, ◌||◌, nat_le, List, [], ◌∷◌, length, is_some}
use Rattle.std.specs.Prelude.{Option, Some, None, if◌then◌else◌}
use Rattle.std.specs.Bool.{beq}
use Rattle.std.specs.List.{list_any}
use Rattle.qrules.specs.Account.{Account, is_over_soft}
use Rattle.qrules.specs.Sort.{Inodes, Blocks}
use Rattle.qplain.specs.declared.bounds.TheConstants.{ROOT}
use Rattle.qplain.specs.State.{State, is_directory, new_directory, new_file}
use Rattle.qplain.specs.Use.{account_of, total_of}
use Rattle.qplain_laws.specs.Laws.{has_right_names}
use Rattle.qplain_image.specs.Rows.{Row, Bounds, Record, Directory, FileHead}
use Rattle.qtext_image.specs.Faults.{ImageFault, BadCount, BadOrder, is_same_row}

-- so many names or fewer lead up from an inode to the root
abbrev pub is_below_root : State → ℕ → ℕ → Bool
is_below_root S zero number = number == ROOT
is_below_root S (suc names) number =
    number == ROOT || list_any (λ e. e.1 == number && is_below_root S names e.0.0) S.names

-- names lead up from an inode to the root, no more than there are inodes
abbrev pub is_in_tree : State → ℕ → Bool
is_in_tree S number = is_below_root S (length S.inodes) number

-- a grace end stands exactly where use is over that soft limit
abbrev pub has_ends : Account → Bool
has_ends a = beq (is_some a.inode_end) (is_over_soft Inodes a) && beq (is_some a.block_end) (is_over_soft Blocks a)

-- what a row of the state tells of is as it has to be: totals within the bounds, and a root; ends of a holder; names of
-- an inode, which lead up to the root
abbrev pub is_balanced : State → Row → Bool
is_balanced S (Bounds size most next) =
    nat_le (total_of S Blocks) size && nat_le (total_of S Inodes) most && is_directory S ROOT
is_balanced S (Record h blocks inodes) = has_ends (account_of S h)
is_balanced S (Directory number owners) = has_right_names S (number, new_directory owners) && is_in_tree S number
is_balanced S (FileHead number owners size) = has_right_names S (number, new_file owners) && is_in_tree S number
is_balanced S r = true

-- the first line, from this one on, in which the told rows are not the state's, or what they tell of is not as it has
-- to be; where rows are wanting, the end of the image stands too early
abbrev pub count_fault : State → ℕ → List Row → List Row → Option ImageFault
count_fault S line [] [] = None
count_fault S line [] (r ∷ rest) = Some (record { line = line; kind = BadOrder })
count_fault S line (told ∷ rows) [] = Some (record { line = line; kind = BadOrder })
count_fault S line (told ∷ rows) (r ∷ rest) =
    if is_same_row told r && is_balanced S r then count_fault S (line + 1) rows rest
    else Some (record { line = line; kind = BadCount })
