-- Which of its own tests a call fails first, by what they ask. No public clause cites this module.
use Rattle.std.specs.Prelude.{ℕ, ◌+◌, ◌==◌, ◌&&◌, Bool, true, not, nat_lt, if◌then◌else◌, is_some, List, Option, Some}
use Rattle.std.specs.Prelude.{None}
use Rattle.qplain.specs.declared.bounds.TheConstants.{MAX_LINKS}
use Rattle.qplain.specs.declared.refusal.Refusal.{Refusal}
use Rattle.qplain.specs.declared.refusal.Refusal.TheVariants.{EEXIST, EINVAL, EISDIR, EMLINK, ENOTDIR, ENOTEMPTY, EPERM}
use Rattle.qplain.specs.Caller.{Caller}
use Rattle.qplain.specs.Renames.{meets, passes}
use Rattle.qplain.specs.Rights.{may_remove}
use Rattle.qplain.specs.State.{State, is_directory}
use Rattle.qplain.specs.Use.{is_empty, links_of}

-- of a further name of an inode, by whether it is a directory, what has the name, and the inode's links
abbrev pub link_fault : Bool → Option ℕ → ℕ → Option Refusal
link_fault dir leads_to links =
    if dir then Some EPERM
    else if is_some leads_to then Some EEXIST
    else if nat_lt MAX_LINKS (links + 1) then Some EMLINK else None

-- a rename makes a link too many: a directory comes to another directory, in place of nothing
abbrev pub adds_too_many : State → ℕ → Bool → ℕ → Option ℕ → Bool
adds_too_many S dir is_dir to_dir target =
    is_dir && (not (dir == to_dir) && (not (is_some target) && nat_lt MAX_LINKS (links_of S to_dir true + 1)))

-- of another name for an inode, by whether it is a directory, the components of the other path, and what that leads
-- to, which is not the inode itself
abbrev pub rename_fault : State → Caller → List (List ℕ) → ℕ → ℕ → Bool → ℕ → Option ℕ → Option Refusal
rename_fault S cred to dir number is_dir to_dir target =
    if is_dir && meets S to number then Some EINVAL
    else if is_dir && passes (λ n. not (is_directory S n)) target then Some ENOTDIR
    else if not is_dir && passes (λ n. is_directory S n) target then Some EISDIR
    else if not (may_remove S cred dir number) then Some EPERM
    else if passes (λ n. not (may_remove S cred to_dir n)) target then Some EPERM
    else if passes (λ n. not (is_empty S n)) target then Some ENOTEMPTY
    else if adds_too_many S dir is_dir to_dir target then Some EMLINK else None
