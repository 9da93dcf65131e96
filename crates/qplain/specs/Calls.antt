-- A call: what its type can hold, its paths and its numbers, its tests in their order, and what it would make of the
-- state.
use Rattle.std.specs.Prelude.{ℕ, ◌<◌, ◌^◌, Bool, false, not, ◌||◌, nat_lt, if◌then◌else◌, List, [], ◌∷◌, length}
use Rattle.std.specs.Prelude.{Option, Some, None}
use Rattle.std.specs.List.{list_all, list_any}
use Rattle.qrules.specs.declared.graces.TheConstants.{MAX_MOMENT}
use Rattle.qrules.specs.declared.kind.Kind.TheVariants.{User, Group, Project}
use Rattle.qrules.specs.Range.{are_graces_in_range, are_limits_in_range}
use Rattle.qplain.specs.declared.bounds.TheConstants.{MAX_DATA}
use Rattle.qplain.specs.declared.call.Call.{Call}
use Rattle.qplain.specs.declared.call.Call.TheVariants.{Create, Mkdir, Write, Truncate, Read, Stat, Link, Unlink}
use Rattle.qplain.specs.declared.call.Call.TheVariants.{Rmdir, Rename, Chown, SetQuota, SetGrace, Quota}
use Rattle.qplain.specs.declared.call.CallPaths.{CallPaths}
use Rattle.qplain.specs.declared.call.CallPaths.TheVariants as paths
use Rattle.qplain.specs.declared.refusal.Refusal.{Refusal}
use Rattle.qplain.specs.declared.refusal.Refusal.TheVariants.{EBUSY, EEXIST, EINVAL, EISDIR, ENAMETOOLONG}
use Rattle.qplain.specs.Caller.{Caller}
use Rattle.qplain.specs.Paths.{ArePathBytes}
use Rattle.qplain.specs.Ranges.{AreBytes, AreLimits, IsOwner}
use Rattle.qplain.specs.State.{State}
use Rattle.qplain.specs.Known.{is_known, is_undeclared}
use Rattle.qplain.specs.Walk.{is_well_formed, is_too_long}
use Rattle.qplain.specs.Attempt.{Attempt, Refuse, at_path, in_parent}
use Rattle.qplain.specs.Files.{read_from, stat_at, truncate_at, write_into}
use Rattle.qplain.specs.Names.{create_as, link_to, mkdir_as, rmdir_as, unlink_as}
use Rattle.qplain.specs.Renames.{rename_from}
use Rattle.qplain.specs.Owners.{chown_at}
use Rattle.qplain.specs.Quotas.{ask_quota, set_grace, set_quota}

-- the parts of a call are what their types can hold
abbrev pub IsCall : Call → Type 0
IsCall (Create path) = ArePathBytes path
IsCall (Mkdir path) = ArePathBytes path
IsCall (Write path off bytes) = ArePathBytes path × (off < 2 ^ 64) × AreBytes bytes
IsCall (Truncate path size) = ArePathBytes path × (size < 2 ^ 64)
IsCall (Read path off len) = ArePathBytes path × (off < 2 ^ 64) × (len < 2 ^ 64)
IsCall (Stat path) = ArePathBytes path
IsCall (Link from to) = ArePathBytes from × ArePathBytes to
IsCall (Unlink path) = ArePathBytes path
IsCall (Rmdir path) = ArePathBytes path
IsCall (Rename from to) = ArePathBytes from × ArePathBytes to
IsCall (Chown path uid gid project) = ArePathBytes path × IsOwner uid × IsOwner gid × IsOwner project
IsCall (SetQuota kind id limits) = (id < 2 ^ 32) × AreLimits limits
IsCall (SetGrace graces) = (graces.block < 2 ^ 64) × (graces.inode < 2 ^ 64)
IsCall (Quota kind id) = id < 2 ^ 32

-- the paths of a call
abbrev pub paths_of : Call → List (List ℕ)
paths_of (Create path) = path ∷ []
paths_of (Mkdir path) = path ∷ []
paths_of (Write path off bytes) = path ∷ []
paths_of (Truncate path size) = path ∷ []
paths_of (Read path off len) = path ∷ []
paths_of (Stat path) = path ∷ []
paths_of (Link from to) = from ∷ to ∷ []
paths_of (Unlink path) = path ∷ []
paths_of (Rmdir path) = path ∷ []
paths_of (Rename from to) = from ∷ to ∷ []
paths_of (Chown path uid gid project) = path ∷ []
paths_of (SetQuota kind id limits) = []
paths_of (SetGrace graces) = []
paths_of (Quota kind id) = []

-- the paths that are there
abbrev pub listed : CallPaths → List (List ℕ)
listed paths.None = []
listed (paths.One path) = path.now ∷ []
listed (paths.Two from to) = from.now ∷ to.now ∷ []

-- a number of the call is outside its range, or an owner that it names is not declared
abbrev pub has_bad_number : State → Call → Bool
has_bad_number S (Write path off bytes) = nat_lt MAX_DATA (length bytes)
has_bad_number S (Read path off len) = nat_lt MAX_DATA len
has_bad_number S (Chown path uid gid project) =
    is_undeclared S User uid || is_undeclared S Group gid || is_undeclared S Project project
has_bad_number S (SetQuota kind id limits) = not (are_limits_in_range limits)
has_bad_number S (SetGrace graces) = not (are_graces_in_range graces)
has_bad_number S call = false

-- the moment, the caller, a path or a number is none that a call may have
abbrev pub is_invalid : State → Caller → ℕ → Call → Bool
is_invalid S cred moment call =
    nat_lt MAX_MOMENT moment || not (is_known S cred)
    || not (list_all is_well_formed (paths_of call)) || has_bad_number S call

-- the refusal of a call for what is written: all causes of EINVAL come before ENAMETOOLONG
abbrev pub refusal_of_arguments : State → Caller → ℕ → Call → Option Refusal
refusal_of_arguments S cred moment call =
    if is_invalid S cred moment call then Some EINVAL
    else if list_any is_too_long (paths_of call) then Some ENAMETOOLONG
    else None

-- the tests of a call whose arguments are lawful
abbrev pub attempt_of : State → Caller → Call → Attempt
attempt_of S cred (Create path) = in_parent S EEXIST (create_as S cred) path
attempt_of S cred (Mkdir path) = in_parent S EEXIST (mkdir_as S cred) path
attempt_of S cred (Write path off bytes) = at_path S (write_into S cred off bytes) path
attempt_of S cred (Truncate path size) = at_path S (truncate_at S cred size) path
attempt_of S cred (Read path off len) = at_path S (read_from off len) path
attempt_of S cred (Stat path) = at_path S (stat_at S) path
attempt_of S cred (Link from to) = at_path S (link_to S to) from
attempt_of S cred (Unlink path) = in_parent S EISDIR (unlink_as S cred) path
attempt_of S cred (Rmdir path) = in_parent S EBUSY (rmdir_as S cred) path
attempt_of S cred (Rename from to) = in_parent S EBUSY (rename_from S cred to) from
attempt_of S cred (Chown path uid gid project) = at_path S (chown_at S cred uid gid project) path
attempt_of S cred (SetQuota kind id limits) = set_quota S cred kind id limits
attempt_of S cred (SetGrace graces) = set_grace S cred graces
attempt_of S cred (Quota kind id) = ask_quota S cred kind id

-- a refusal, if there is one, comes before the attempt
abbrev pub unless : Option Refusal → Attempt → Attempt
unless None attempt = attempt
unless (Some r) attempt = Refuse r

-- the tests of a call: first what is written
abbrev pub attempt : State → Caller → ℕ → Call → Attempt
attempt S cred moment call = unless (refusal_of_arguments S cred moment call) (attempt_of S cred call)
