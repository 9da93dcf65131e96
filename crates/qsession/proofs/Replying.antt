-- Each call has a reply of its kind, or a refusal.
use Rattle.std.proofs.Common.{◌≡◌, ℕ, ◌+◌, ◌==◌, ◌≤◌, true, false, not, ◌&&◌, ◌||◌, nat_lt, nat_le, List, length, drop, Option, Some, None, is_some, refl, arith, tests}
use Rattle.std.proofs.lemmas.List.{length-take}
use Rattle.std.specs.List.{find}
use Rattle.qblocks.specs.File.{File, read_at}
use Rattle.qplain.specs.declared.call.Call.{Call}
use Rattle.qplain.specs.declared.call.Call.TheVariants.{Create, Mkdir, Write, Truncate, Read, Stat as AskStat, Link, Unlink, Rmdir, Rename, Chown, SetQuota, SetGrace, Quota as AskQuota}
use Rattle.qplain.specs.declared.refusal.Refusal.TheVariants.{EBUSY, EINVAL, ENOTDIR, ENOTEMPTY, EEXIST, EISDIR, EACCES, EFBIG, EPERM, ESRCH}
use Rattle.qplain.specs.declared.reply.Reply.TheVariants.{Done, Bytes, Stat as StatReply, Quota as QuotaReply}
use Rattle.qplain.specs.Caller.{Caller, is_superuser}
use Rattle.qplain.specs.State.{Holder, Inode, State, is_directory, named, new_directory}
use Rattle.qplain.specs.Use.{is_empty}
use Rattle.qplain.specs.Walk.{components}
use Rattle.qplain.specs.Known.{is_declared, is_holder}
use Rattle.qplain.specs.Calls.{attempt, attempt_of, refusal_of_arguments}
use Rattle.qplain.specs.Attempt.{Becomes, no_change}
use Rattle.qplain.specs.Rights.{is_own, may_give, may_remove, may_write}
use Rattle.qplain.specs.Names.{create_as, created, link_as, link_to, mkdir_as, owners_by, rmdir_as, rmdir_at, unlink_as, unlink_at, with_name}
use Rattle.qplain.specs.Renames.{meets, passes, rename_as, rename_from, rename_over, rename_to, renamed}
use Rattle.qplain.specs.Files.{read_from, stat_at, stat_of, truncate_at, write_into}
use Rattle.qplain.specs.Owners.{chown_at, renewed}
use Rattle.qplain.specs.Quotas.{quota_from, quota_of}
use Rattle.qsession.specs.Answers.{ChangesAreDone, QuotasTellRecords, ReadsTellBytes, StatsTellNumbers, is_change, tells_bytes, tells_done, tells_quota, tells_stat}
use Rattle.qsession.proofs.Fitting.{Fits, answers, at_name-fits, at_path-fits, becomes, either, few_links-fits, in_parent-fits, or, refuses, settle-fits, unless-fits}

-- ---- calls that change something

-- what becomes of a call is done
done : (T : State) (number : ℕ) → Fits tells_done (Becomes T number)
done T number = becomes tells_done T number (λ change. refl)

rename_over-fits : (S : State) (cred : Caller) (to : List (List ℕ)) (dir : ℕ) (name : List ℕ) (number : ℕ) (inode : Inode) (to_dir : ℕ)
    (to_name : List ℕ) (target : Option ℕ) → Fits tells_done (rename_over S cred to dir name number inode to_dir to_name target)
rename_over-fits S cred to dir name number inode to_dir to_name target =
    either tells_done (passes (λ n. n == number) target) _ _ (answers tells_done (Done number no_change) refl)
    (or tells_done (inode.dir && meets S to number) EINVAL _
    (or tells_done (inode.dir && passes (λ n. not (is_directory S n)) target) ENOTDIR _
    (or tells_done (not inode.dir && passes (λ n. is_directory S n) target) EISDIR _
    (or tells_done (not (may_remove S cred dir number)) EPERM _
    (or tells_done (passes (λ n. not (may_remove S cred to_dir n)) target) EPERM _
    (or tells_done (passes (λ n. not (is_empty S n)) target) ENOTEMPTY _
    (few_links-fits tells_done (renamed S dir name to_dir to_name number) number (λ change. refl))))))))

change-fits : (S : State) (cred : Caller) (call : Call) → is_change call ≡ true → Fits tells_done (attempt_of S cred call)
change-fits S cred (Create path) is =
    in_parent-fits tells_done S EEXIST (create_as S cred) path (λ dir name. or tells_done (is_some (named S dir name)) EEXIST _ (done _ _))
change-fits S cred (Mkdir path) is =
    in_parent-fits tells_done S EEXIST (mkdir_as S cred) path (λ dir name. or tells_done (is_some (named S dir name)) EEXIST _
    (few_links-fits tells_done (created S (new_directory (owners_by S cred dir)) dir name) S.next (λ change. refl)))
change-fits S cred (Write path off bytes) is =
    at_path-fits tells_done S (write_into S cred off bytes) path (λ number inode.
    or tells_done inode.dir EISDIR _ (or tells_done (not (may_write cred inode)) EACCES _
    (either tells_done (length bytes == 0) _ _ (answers tells_done (Done number no_change) refl)
    (or tells_done (nat_lt S.file_limit (off + length bytes)) EFBIG _ (done _ _)))))
change-fits S cred (Truncate path size) is =
    at_path-fits tells_done S (truncate_at S cred size) path (λ number inode.
    or tells_done inode.dir EISDIR _ (or tells_done (not (may_write cred inode)) EACCES _
    (or tells_done (nat_lt S.file_limit size) EFBIG _ (done _ _))))
change-fits S cred (Link from to) is =
    at_path-fits tells_done S (link_to S to) from (λ number inode. in_parent-fits tells_done S EEXIST (link_as S number inode) to (λ dir name.
    or tells_done inode.dir EPERM _ (or tells_done (is_some (named S dir name)) EEXIST _
    (few_links-fits tells_done (with_name S dir name number) number (λ change. refl)))))
change-fits S cred (Unlink path) is =
    in_parent-fits tells_done S EISDIR (unlink_as S cred) path (λ dir name.
    at_name-fits tells_done S (unlink_at S cred dir name) dir name (λ number inode.
    or tells_done inode.dir EISDIR _ (or tells_done (not (may_remove S cred dir number)) EPERM _ (done _ _))))
change-fits S cred (Rmdir path) is =
    in_parent-fits tells_done S EBUSY (rmdir_as S cred) path (λ dir name.
    at_name-fits tells_done S (rmdir_at S cred dir name) dir name (λ number inode.
    or tells_done (not inode.dir) ENOTDIR _ (or tells_done (not (may_remove S cred dir number)) EPERM _
    (or tells_done (not (is_empty S number)) ENOTEMPTY _ (done _ _)))))
change-fits S cred (Rename from to) is =
    in_parent-fits tells_done S EBUSY (rename_from S cred to) from (λ dir name.
    at_name-fits tells_done S (rename_to S cred to dir name) dir name (λ number inode.
    in_parent-fits tells_done S EBUSY (rename_as S cred to dir name number inode) to (λ to_dir to_name.
    rename_over-fits S cred (components to) dir name number inode to_dir to_name (named S to_dir to_name))))
change-fits S cred (Chown path uid gid project) is =
    at_path-fits tells_done S (chown_at S cred uid gid project) path (λ number inode.
    or tells_done (not (may_give cred inode (renewed uid gid project inode.owners))) EPERM _ (done _ _))
change-fits S cred (SetQuota kind id limits) is =
    or tells_done (not (is_superuser cred)) EPERM _ (or tells_done (not (is_declared S kind id)) ESRCH _ (done _ _))
change-fits S cred (SetGrace graces) is = or tells_done (not (is_superuser cred)) EPERM _ (done _ _)
change-fits S cred (Read path off len) is = let none : false ≡ true = is in absurd (cc)
change-fits S cred (AskStat path) is = let none : false ≡ true = is in absurd (cc)
change-fits S cred (AskQuota kind id) is = let none : false ≡ true = is in absurd (cc)

pub changes_are_done : ChangesAreDone
changes_are_done S cred moment call is =
    settle-fits tells_done S cred moment (attempt S cred moment call) (λ r. refl)
    (unless-fits tells_done (refusal_of_arguments S cred moment call) (attempt_of S cred call) (change-fits S cred call is))

-- ---- calls that ask

-- no more is read than is asked for
few_read : (file : File) (off len : ℕ) → nat_le (length (read_at file off len)) len ≡ true
few_read file off len =
    let count = length-take len (drop off file.bytes) in
    let few : length (read_at file off len) ≤ len = omega (arith, count) in
    grind (arith, tests, few)

pub reads_tell_bytes : ReadsTellBytes
reads_tell_bytes S cred moment path off len =
    let test = tells_bytes len in
    settle-fits test S cred moment (attempt S cred moment (Read path off len)) (λ r. refl)
    (unless-fits test (refusal_of_arguments S cred moment (Read path off len)) (attempt_of S cred (Read path off len))
    (at_path-fits test S (read_from off len) path (λ number inode.
    or test inode.dir EISDIR _ (answers test (Bytes (read_at inode.file off len)) (few_read inode.file off len)))))

pub stats_tell_numbers : StatsTellNumbers
stats_tell_numbers S cred moment path =
    settle-fits tells_stat S cred moment (attempt S cred moment (AskStat path)) (λ r. refl)
    (unless-fits tells_stat (refusal_of_arguments S cred moment (AskStat path)) (attempt_of S cred (AskStat path))
    (at_path-fits tells_stat S (stat_at S) path (λ number inode. answers tells_stat (StatReply (stat_of S number inode)) refl)))

quota_from-fits : (S : State) (o : Option Holder) → Fits tells_quota (quota_from S o)
quota_from-fits S None = refuses tells_quota ESRCH
quota_from-fits S (Some h) = answers tells_quota (QuotaReply (quota_of S h)) refl

pub quotas_tell_records : QuotasTellRecords
quotas_tell_records S cred moment kind id =
    settle-fits tells_quota S cred moment (attempt S cred moment (AskQuota kind id)) (λ r. refl)
    (unless-fits tells_quota (refusal_of_arguments S cred moment (AskQuota kind id)) (attempt_of S cred (AskQuota kind id))
    (or tells_quota (not (is_superuser cred || is_own cred kind id)) EPERM _ (quota_from-fits S (find (is_holder kind id) S.holders))))
