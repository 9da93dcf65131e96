-- The order of refusals, call by call: the tests of each call in a row, of which the first that fails is the answer.
use Rattle.std.specs.Prelude.{◌≡◌, ℕ, ◌+◌, Bool, true, not, ◌&&◌, ◌||◌, ◌==◌}
use Rattle.std.specs.Prelude.{nat_lt, if◌then◌else◌, List, [], ◌∷◌}
use Rattle.std.specs.Prelude.{length, Option, Some, None, is_some, Result, Ok, Err}
use Rattle.std.specs.Option.{option_or}
use Rattle.qplain.specs.declared.call.Call.{Call}
use Rattle.qplain.specs.declared.call.Call.TheVariants.{Create, Mkdir, Write, Truncate, Read, Stat, Link, Unlink, Rmdir}
use Rattle.qplain.specs.declared.call.Call.TheVariants.{Rename, Chown, SetQuota, SetGrace, Quota}
use Rattle.qplain.specs.declared.refusal.Refusal.{Refusal}
use Rattle.qplain.specs.declared.refusal.Refusal.TheVariants.{EINVAL, ENOENT, ENOTDIR, EEXIST, ENOSPC, EISDIR, EACCES}
use Rattle.qplain.specs.declared.refusal.Refusal.TheVariants.{EFBIG, EPERM, EMLINK, ENOTEMPTY, EBUSY, ESRCH}
use Rattle.qplain.specs.declared.reply.Reply.TheVariants.{Refused}
use Rattle.qplain.specs.Caller.{Caller, is_superuser}
use Rattle.qplain.specs.State.{Inode, State, inode_at, is_directory, named, new_directory}
use Rattle.qplain.specs.Use.{has_too_many_links, is_empty}
use Rattle.qplain.specs.Walk.{components, last_name, led_to, parent, walk}
use Rattle.qplain.specs.Decision.{is_too_full}
use Rattle.qplain.specs.Known.{is_declared}
use Rattle.qplain.specs.Calls.{attempt, refusal_of_arguments}
use Rattle.qplain.specs.Attempt.{Becomes}
use Rattle.qplain.specs.Rights.{is_own, may_give, may_remove, may_write}
use Rattle.qplain.specs.Names.{created, owners_by, with_name}
use Rattle.qplain.specs.Renames.{meets, passes, renamed}
use Rattle.qplain.specs.Owners.{renewed}
use Rattle.qplain.specs.Step.{step}
use Rattle.qplain_laws.specs.Laws.{is_for_limits}

-- a test: whether it fails, and what is answered then
abbrev pub Test : Type 0
Test = Bool × Refusal

-- the answer of the first test that fails, if one does
abbrev pub first_failed : List Test → Option Refusal
first_failed [] = None
first_failed (test ∷ tests) = if test.0 then Some test.1 else first_failed tests

-- the tests of an inode that is there; of none it is that one
abbrev pub of_found : (ℕ → Inode → List Test) → ℕ → Option Inode → List Test
of_found tests number None = (true, ENOENT) ∷ []
of_found tests number (Some inode) = tests number inode

-- a walk, and the tests of what it reached
abbrev pub of_reached : State → (ℕ → Inode → List Test) → Result ℕ Refusal → List Test
of_reached S tests (Err r) = (true, r) ∷ []
of_reached S tests (Ok number) = of_found tests number (inode_at S number)

-- the walk of a path, and the tests of what it leads to
abbrev pub of_path : State → List ℕ → (ℕ → Inode → List Test) → List Test
of_path S path tests = of_reached S tests (walk S (components path))

-- a name in a directory, and the tests of what it leads to
abbrev pub of_name : State → ℕ → List ℕ → (ℕ → Inode → List Test) → List Test
of_name S dir name tests = of_reached S tests (led_to (named S dir name))

-- the tests of a name in the directory that was reached
abbrev pub in_directory : (ℕ → List ℕ → List Test) → List ℕ → Result ℕ Refusal → List Test
in_directory tests name (Err r) = (true, r) ∷ []
in_directory tests name (Ok dir) = tests dir name

-- the walk to the parent of these names, and the tests of the last one there; without a name, this refusal
abbrev pub of_last : State → Refusal → List (List ℕ) → (ℕ → List ℕ → List Test) → Option (List ℕ)
    → List Test
of_last S of_root names tests None = (true, of_root) ∷ []
of_last S of_root names tests (Some name) = in_directory tests name (parent S names)

-- the walk to the parent of a path, and the tests of its last name there; of the path `/`, this refusal
abbrev pub of_place : State → Refusal → List ℕ → (ℕ → List ℕ → List Test) → List Test
of_place S of_root path tests = of_last S of_root (components path) tests (last_name (components path))

-- the tests of a rename, unless both names are of one inode
abbrev pub rename_tests : State → Caller → List (List ℕ) → ℕ → List ℕ → ℕ → Inode → ℕ
    → List ℕ → Option ℕ → List Test
rename_tests S cred to dir name number inode to_dir to_name target =
    if passes (λ n. n == number) target then []
    else (inode.dir && meets S to number, EINVAL)
    ∷ (inode.dir && passes (λ n. not (is_directory S n)) target, ENOTDIR)
    ∷ (not inode.dir && passes (λ n. is_directory S n) target, EISDIR)
    ∷ (not (may_remove S cred dir number), EPERM)
    ∷ (passes (λ n. not (may_remove S cred to_dir n)) target, EPERM)
    ∷ (passes (λ n. not (is_empty S n)) target, ENOTEMPTY)
    ∷ (has_too_many_links (renamed S dir name to_dir to_name number), EMLINK) ∷ []

-- the tests of a call whose arguments are lawful, in their order
abbrev pub tests_of : State → Caller → Call → List Test
tests_of S cred (Create path) = of_place S EEXIST path (λ dir name. (is_some (named S dir name), EEXIST) ∷ [])
tests_of S cred (Mkdir path) = of_place S EEXIST path (λ dir name.
    (is_some (named S dir name), EEXIST)
    ∷ (has_too_many_links (created S (new_directory (owners_by S cred dir)) dir name), EMLINK) ∷ [])
tests_of S cred (Write path off bytes) = of_path S path (λ number inode.
    (inode.dir, EISDIR) ∷ (not (may_write cred inode), EACCES)
    ∷ (not (length bytes == 0) && nat_lt S.file_limit (off + length bytes), EFBIG) ∷ [])
tests_of S cred (Truncate path size) = of_path S path (λ number inode.
    (inode.dir, EISDIR) ∷ (not (may_write cred inode), EACCES) ∷ (nat_lt S.file_limit size, EFBIG) ∷ [])
tests_of S cred (Read path off len) = of_path S path (λ number inode. (inode.dir, EISDIR) ∷ [])
tests_of S cred (Stat path) = of_path S path (λ number inode. [])
tests_of S cred (Link from to) = of_path S from (λ number inode. of_place S EEXIST to (λ dir name.
    (inode.dir, EPERM) ∷ (is_some (named S dir name), EEXIST)
    ∷ (has_too_many_links (with_name S dir name number), EMLINK) ∷ []))
tests_of S cred (Unlink path) = of_place S EISDIR path (λ dir name. of_name S dir name (λ number inode.
    (inode.dir, EISDIR) ∷ (not (may_remove S cred dir number), EPERM) ∷ []))
tests_of S cred (Rmdir path) = of_place S EBUSY path (λ dir name. of_name S dir name (λ number inode.
    (not inode.dir, ENOTDIR) ∷ (not (may_remove S cred dir number), EPERM)
    ∷ (not (is_empty S number), ENOTEMPTY) ∷ []))
tests_of S cred (Rename from to) = of_place S EBUSY from (λ dir name. of_name S dir name (λ number inode.
    of_place S EBUSY to (λ to_dir to_name.
    rename_tests S cred (components to) dir name number inode to_dir to_name (named S to_dir to_name))))
tests_of S cred (Chown path uid gid project) = of_path S path (λ number inode.
    (not (may_give cred inode (renewed uid gid project inode.owners)), EPERM) ∷ [])
tests_of S cred (SetQuota kind id limits) =
    (not (is_superuser cred), EPERM) ∷ (not (is_declared S kind id), ESRCH) ∷ []
tests_of S cred (SetGrace graces) = (not (is_superuser cred), EPERM) ∷ []
tests_of S cred (Quota kind id) =
    (not (is_superuser cred || is_own cred kind id), EPERM) ∷ (not (is_declared S kind id), ESRCH) ∷ []

-- why a call is refused before any limit is looked at: for its arguments, then by its first test that fails
abbrev pub first_refusal_of : State → Caller → ℕ → Call → Option Refusal
first_refusal_of S cred moment call =
    option_or (refusal_of_arguments S cred moment call) (first_failed (tests_of S cred call))

-- that is what is answered; where there is none, a refusal is for a limit; and space comes before quota
pub record AreInOrder (S : State) (cred : Caller) (moment : ℕ) (call : Call) : Type 0 where
  pub first : (r : Refusal) → first_refusal_of S cred moment call ≡ Some r
      → (step S cred moment call).1 ≡ Refused r
  pub limits : first_refusal_of S cred moment call ≡ None → (r : Refusal)
      → (step S cred moment call).1 ≡ Refused r
      → is_for_limits r ≡ true
  pub space : (new : State) (number : ℕ) → attempt S cred moment call ≡ Becomes new number
      → is_too_full new ≡ true
      → (step S cred moment call).1 ≡ Refused ENOSPC

-- refusals come in this order
abbrev pub RefusalsComeInOrder : Type 0
RefusalsComeInOrder = (S : State) (cred : Caller) (moment : ℕ) (call : Call) → AreInOrder S cred moment call
