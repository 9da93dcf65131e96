-- A name in place of another: rename (rename(2)).
use Rattle.std.specs.Prelude.{ℕ, Bool, false, not, ◌&&◌, ◌==◌, if◌then◌else◌, List, length, take, Option, Some, None}
use Rattle.std.specs.Prelude.{Result, Ok, Err}
use Rattle.std.specs.List.{list_any, range_with_len}
use Rattle.qplain.specs.declared.refusal.Refusal.{Refusal}
use Rattle.qplain.specs.declared.refusal.Refusal.TheVariants.{EBUSY, EINVAL, EISDIR, ENOTDIR, ENOTEMPTY, EPERM}
use Rattle.qplain.specs.declared.reply.Reply.TheVariants.{Done}
use Rattle.qplain.specs.Caller.{Caller}
use Rattle.qplain.specs.State.{Inode, State, is_directory, named}
use Rattle.qplain.specs.Use.{is_empty}
use Rattle.qplain.specs.Walk.{components, walk}
use Rattle.qplain.specs.Attempt.{Attempt, Refuse, Answer, at_name, in_parent, no_change}
use Rattle.qplain.specs.Rights.{may_remove}
use Rattle.qplain.specs.Names.{swept, unless_too_many_links, with_name, without_name}

-- a name leads to something that passes the test
abbrev pub passes : (ℕ → Bool) → Option ℕ → Bool
passes test None = false
passes test (Some number) = test number

-- a walk ends at the inode of this number
abbrev pub is_reached : ℕ → Result ℕ Refusal → Bool
is_reached number (Err r) = false
is_reached number (Ok n) = n == number

-- the walk to the parent of these names comes past the inode of this number, or ends there: some walk along the first
-- of them, all but the last at most, ends there
abbrev pub meets : State → List (List ℕ) → ℕ → Bool
meets S names number = list_any (λ n. is_reached number (walk S (take n names))) (range_with_len 0 (length names))

-- the state in which the inode of this number has the second name in place of the first, and of what had the second
abbrev pub renamed : State → ℕ → List ℕ → ℕ → List ℕ → ℕ → State
renamed S dir name to_dir to_name number =
    swept (with_name (without_name (without_name S dir name) to_dir to_name) to_dir to_name number)

-- rename an inode, which has the first name, to the second, which now leads to the target, if to anything; the names
-- `to` are those of the second path
abbrev pub rename_over : State → Caller → List (List ℕ) → ℕ → List ℕ → ℕ → Inode → ℕ → List ℕ → Option ℕ → Attempt
rename_over S cred to dir name number inode to_dir to_name target =
    if passes (λ n. n == number) target then Answer (Done number no_change)
    else if inode.dir && meets S to number then Refuse EINVAL
    else if inode.dir && passes (λ n. not (is_directory S n)) target then Refuse ENOTDIR
    else if not inode.dir && passes (λ n. is_directory S n) target then Refuse EISDIR
    else if not (may_remove S cred dir number) then Refuse EPERM
    else if passes (λ n. not (may_remove S cred to_dir n)) target then Refuse EPERM
    else if passes (λ n. not (is_empty S n)) target then Refuse ENOTEMPTY
    else unless_too_many_links (renamed S dir name to_dir to_name number) number

-- rename it to the name in this directory
abbrev pub rename_as : State → Caller → List ℕ → ℕ → List ℕ → ℕ → Inode → ℕ → List ℕ → Attempt
rename_as S cred to dir name number inode to_dir to_name =
    rename_over S cred (components to) dir name number inode to_dir to_name (named S to_dir to_name)

-- rename it to the last name of the path in its parent
abbrev pub rename_to : State → Caller → List ℕ → ℕ → List ℕ → ℕ → Inode → Attempt
rename_to S cred to dir name number inode = in_parent S EBUSY (rename_as S cred to dir name number inode) to

-- rename what has this name to the path
abbrev pub rename_from : State → Caller → List ℕ → ℕ → List ℕ → Attempt
rename_from S cred to dir name = at_name S (rename_to S cred to dir name) dir name
