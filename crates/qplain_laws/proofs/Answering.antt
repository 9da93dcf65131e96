-- What the tests of each call leave: a refusal for no limit, an answer that tells of no change, or a plain result that
-- keeps what the call does not change.
use Rattle.std.proofs.Common.{◌≡◌, ℕ, ◌+◌, ◌==◌, Bool, true, false, not, ◌&&◌, ◌||◌, nat_lt, cond, List, length, Option, Some, None, is_some, Result, Ok, Err, refl, filter, arith}
use Rattle.std.specs.List.{find, list_any}
use Rattle.qrules.specs.Sort.{Sort, Inodes, Blocks}
use Rattle.qblocks.specs.File.{read_at}
use Rattle.qplain.specs.declared.call.Call.{Call}
use Rattle.qplain.specs.declared.call.Call.TheVariants.{Create, Mkdir, Write, Truncate, Read, Stat as AskStat, Link, Unlink, Rmdir, Rename, Chown, SetQuota, SetGrace, Quota as AskQuota}
use Rattle.qplain.specs.declared.bounds.TheConstants.{ROOT}
use Rattle.qplain.specs.declared.owners.Owners.{Owners}
use Rattle.qplain.specs.declared.refusal.Refusal.{Refusal}
use Rattle.qplain.specs.declared.refusal.Refusal.TheVariants.{EBUSY, EINVAL, ENAMETOOLONG, ENOENT, ENOTDIR, ENOTEMPTY, EEXIST, EISDIR, EACCES, EFBIG, EMLINK, EPERM, ESRCH}
use Rattle.qplain.specs.declared.reply.Reply.{Reply}
use Rattle.qplain.specs.declared.reply.Reply.TheVariants.{Done, Bytes, Stat as StatReply, Quota as QuotaReply, Refused}
use Rattle.qplain.specs.Caller.{Caller, is_superuser}
use Rattle.qplain.specs.State.{Holder, Inode, NameKey, State, inode_at, is_directory, named, new_directory}
use Rattle.qplain.specs.Use.{has_name, has_too_many_links, is_empty, total_of}
use Rattle.qplain.specs.Walk.{components, is_too_long, last_name, led_to, parent, walk}
use Rattle.qplain.specs.Known.{is_declared, is_holder}
use Rattle.qplain.specs.Calls.{attempt, attempt_of, is_invalid, paths_of, unless}
use Rattle.qplain.specs.Attempt.{Attempt, Refuse, Answer, Becomes, at_inode, at_name, at_path, at_reached, in_parent, in_reached, no_change, under}
use Rattle.qplain.specs.Rights.{is_own, may_give, may_remove, may_write}
use Rattle.qplain.specs.Names.{create_as, created, link_as, link_to, mkdir_as, owners_by, rmdir_as, rmdir_at, swept, unless_too_many_links, unlink_as, unlink_at, with_name, without_name}
use Rattle.qplain.specs.Renames.{meets, passes, rename_as, rename_from, rename_over, rename_to, renamed}
use Rattle.qplain.specs.Files.{read_from, stat_at, stat_of, truncate_at, with_inode, write_into}
use Rattle.qplain.specs.Owners.{chown_at, renewed, with_owners}
use Rattle.qplain.specs.Quotas.{quota_from, quota_of, with_limits_of}
use Rattle.qplain.specs.Journal.{change_of}
use Rattle.qplain_laws.specs.Laws.{is_for_limits}
use Rattle.qplain_laws.specs.Replaces.{Replaces}
use Rattle.qplain_laws.proofs.Replacing.{Replaces-changed}
use Rattle.qplain_laws.proofs.WalkFaults.{Plain, led_to-plain, parent-plain, walk-plain}

-- the reply is a refusal
abbrev pub is_refused : Reply → Bool
is_refused (Refused r) = true
is_refused reply = false

-- the holders and the graces are the same
pub record KeepsSettings (S T : State) : Type 0 where
  pub holders : T.holders ≡ S.holders
  pub graces : T.graces ≡ S.graces

-- the settings are the same, and so are all inodes that pass some test; the others are gone
pub record Sweeps (S T : State) : Type 0 where
  pub settings : KeepsSettings S T
  pub test : ℕ → Bool
  pub inodes : T.inodes ≡ filter (λ e. test e.0) S.inodes

-- a sweep is one
sweeps : (S : State) (names : List (NameKey × ℕ)) → Sweeps S (swept (record S { names = names }))
sweeps S names = record {
  settings = record { holders = refl; graces = refl };
  test = has_name (record S { names = names });
  inodes = refl;
}

-- other owners leave the totals
given : (S : State) (number : ℕ) (inode : Inode) (owners : Owners) → inode_at S number ≡ Some inode
    → KeepsSettings S (with_inode S number (with_owners inode owners))
    × ((sort : Sort) → total_of (with_inode S number (with_owners inode owners)) sort ≡ total_of S sort)
given S number inode owners there = (record { holders = refl; graces = refl }, (λ sort. by sort))
  where
    replaces : Replaces S (with_inode S number (with_owners inode owners)) (Some inode) (Some (with_owners inode owners))
    replaces = Replaces-changed S number inode (with_owners inode owners) there

    by : (sort : Sort) → total_of (with_inode S number (with_owners inode owners)) sort ≡ total_of S sort
    by Inodes = let sum = replaces.totals Inodes in omega (arith, sum)
    by Blocks = let sum = replaces.totals Blocks in omega (arith, sum)

-- what is known of the plain result of a call: calls that only ask have none, two change settings, and the others keep them
abbrev pub MayBecome : State → Call → State → Type 0
MayBecome S (Read path off len) T = ⊥
MayBecome S (AskStat path) T = ⊥
MayBecome S (AskQuota kind id) T = ⊥
MayBecome S (SetQuota kind id limits) T = T ≡ with_limits_of S kind id limits
MayBecome S (SetGrace graces) T = T ≡ record S { graces = graces }
MayBecome S (Link from to) T = T ≡ record S { names = T.names }
MayBecome S (Unlink path) T = Sweeps S T
MayBecome S (Rmdir path) T = Sweeps S T
MayBecome S (Rename from to) T = Sweeps S T
MayBecome S (Chown path uid gid project) T = (KeepsSettings S T) × ((sort : Sort) → total_of T sort ≡ total_of S sort)
MayBecome S call T = KeepsSettings S T

-- a refusal is for no limit, an answer is no refusal and tells of no change, and the fact holds of a plain result
abbrev IsNone : (State → Type 0) → Attempt → Type 0
IsNone P (Refuse r) = is_for_limits r ≡ false
IsNone P (Answer reply) = (change_of reply ≡ no_change) × (is_refused reply ≡ false)
IsNone P (Becomes S number) = P S

-- so it is for an attempt
pub record TellsNone (P : State → Type 0) (a : Attempt) : Type 0 where
  pub none : IsNone P a

module _ {P : State → Type 0} where
  refuses : (r : Refusal) → is_for_limits r ≡ false → TellsNone P (Refuse r)
  refuses r plain = record { none = plain }

  answers : (reply : Reply) → change_of reply ≡ no_change → is_refused reply ≡ false → TellsNone P (Answer reply)
  answers reply e granted = record { none = (e, granted) }

  becomes : (S : State) (number : ℕ) → P S → TellsNone P (Becomes S number)
  becomes S number p = record { none = p }

  -- one of two attempts
  either : (b : Bool) (x y : Attempt) → TellsNone P x → TellsNone P y → TellsNone P (cond b x y)
  either true x y p q = p
  either false x y p q = q

  -- a refusal, or another attempt
  or : (b : Bool) (r : Refusal) (a : Attempt) → is_for_limits r ≡ false → TellsNone P a → TellsNone P (cond b (Refuse r) a)
  or b r a plain none = either b (Refuse r) a (refuses r plain) none

  -- what is wrong with a call as it is written is no limit
  unless-none : (bad long : Bool) (a : Attempt) → TellsNone P a → TellsNone P (unless (cond bad (Some EINVAL) (cond long (Some ENAMETOOLONG) None)) a)
  unless-none true long a none = refuses EINVAL refl
  unless-none false true a none = refuses ENAMETOOLONG refl
  unless-none false false a none = none

  at_inode-none : (try : ℕ → Inode → Attempt) (number : ℕ) (o : Option Inode) → ((inode : Inode) → o ≡ Some inode → TellsNone P (try number inode))
      → TellsNone P (at_inode try number o)
  at_inode-none try number None each = refuses ENOENT refl
  at_inode-none try number (Some inode) each = each inode refl

  at_reached-none : (S : State) (try : ℕ → Inode → Attempt) (r : Result ℕ Refusal) → Plain r
      → ((number : ℕ) (inode : Inode) → inode_at S number ≡ Some inode → TellsNone P (try number inode)) → TellsNone P (at_reached S try r)
  at_reached-none S try (Err e) plain each = refuses e plain
  at_reached-none S try (Ok number) plain each = at_inode-none try number (inode_at S number) (each number)

  in_reached-none : (try : ℕ → List ℕ → Attempt) (name : List ℕ) (r : Result ℕ Refusal) → Plain r → ((dir : ℕ) → TellsNone P (try dir name))
      → TellsNone P (in_reached try name r)
  in_reached-none try name (Err e) plain each = refuses e plain
  in_reached-none try name (Ok dir) plain each = each dir

  under-none : (S : State) (of_root : Refusal) (try : ℕ → List ℕ → Attempt) (names : List (List ℕ)) (o : Option (List ℕ)) → is_for_limits of_root ≡ false
      → ((dir : ℕ) (name : List ℕ) → TellsNone P (try dir name)) → TellsNone P (under S of_root try names o)
  under-none S of_root try names None plain each = refuses of_root plain
  under-none S of_root try names (Some name) plain each = in_reached-none try name (parent S names) (parent-plain S names) (λ dir. each dir name)

  at_path-none : (S : State) (try : ℕ → Inode → Attempt) (path : List ℕ)
      → ((number : ℕ) (inode : Inode) → inode_at S number ≡ Some inode → TellsNone P (try number inode))
      → TellsNone P (at_path S try path)
  at_path-none S try path each = at_reached-none S try (walk S (components path)) (walk-plain S (Ok ROOT) (components path) tt) each

  at_name-none : (S : State) (try : ℕ → Inode → Attempt) (dir : ℕ) (name : List ℕ)
      → ((number : ℕ) (inode : Inode) → inode_at S number ≡ Some inode → TellsNone P (try number inode))
      → TellsNone P (at_name S try dir name)
  at_name-none S try dir name each = at_reached-none S try (led_to (named S dir name)) (led_to-plain (named S dir name)) each

  in_parent-none : (S : State) (of_root : Refusal) (try : ℕ → List ℕ → Attempt) (path : List ℕ) → is_for_limits of_root ≡ false
      → ((dir : ℕ) (name : List ℕ) → TellsNone P (try dir name)) → TellsNone P (in_parent S of_root try path)
  in_parent-none S of_root try path plain each = under-none S of_root try (components path) (last_name (components path)) plain each

  few_links-none : (S : State) (number : ℕ) → P S → TellsNone P (unless_too_many_links S number)
  few_links-none S number p = or (has_too_many_links S) EMLINK _ refl (becomes S number p)

  quota_from-none : (S : State) (o : Option Holder) → TellsNone P (quota_from S o)
  quota_from-none S None = refuses ESRCH refl
  quota_from-none S (Some h) = answers (QuotaReply (quota_of S h)) refl refl

  rename_over-none : (S : State) (cred : Caller) (to : List (List ℕ)) (dir : ℕ) (name : List ℕ) (number : ℕ) (inode : Inode) (to_dir : ℕ)
      (to_name : List ℕ) (target : Option ℕ) → P (renamed S dir name to_dir to_name number)
      → TellsNone P (rename_over S cred to dir name number inode to_dir to_name target)
  rename_over-none S cred to dir name number inode to_dir to_name target p =
      either (passes (λ n. n == number) target) _ _ (answers (Done number no_change) refl refl)
      (or (inode.dir && meets S to number) EINVAL _ refl
      (or (inode.dir && passes (λ n. not (is_directory S n)) target) ENOTDIR _ refl
      (or (not inode.dir && passes (λ n. is_directory S n) target) EISDIR _ refl
      (or (not (may_remove S cred dir number)) EPERM _ refl
      (or (passes (λ n. not (may_remove S cred to_dir n)) target) EPERM _ refl
      (or (passes (λ n. not (is_empty S n)) target) ENOTEMPTY _ refl
      (few_links-none (renamed S dir name to_dir to_name number) number p)))))))

attempt_of-none : (S : State) (cred : Caller) (call : Call) → TellsNone (MayBecome S call) (attempt_of S cred call)
attempt_of-none S cred (Create path) =
    in_parent-none S EEXIST (create_as S cred) path refl (λ dir name.
    or (is_some (named S dir name)) EEXIST _ refl (becomes _ _ (record { holders = refl; graces = refl })))
attempt_of-none S cred (Mkdir path) =
    in_parent-none S EEXIST (mkdir_as S cred) path refl (λ dir name.
    or (is_some (named S dir name)) EEXIST _ refl
    (few_links-none (created S (new_directory (owners_by S cred dir)) dir name) S.next (record { holders = refl; graces = refl })))
attempt_of-none S cred (Write path off bytes) =
    at_path-none S (write_into S cred off bytes) path (λ number inode there.
    or inode.dir EISDIR _ refl (or (not (may_write cred inode)) EACCES _ refl
    (either (length bytes == 0) _ _ (answers (Done number no_change) refl refl)
    (or (nat_lt S.file_limit (off + length bytes)) EFBIG _ refl (becomes _ _ (record { holders = refl; graces = refl }))))))
attempt_of-none S cred (Truncate path size) =
    at_path-none S (truncate_at S cred size) path (λ number inode there.
    or inode.dir EISDIR _ refl (or (not (may_write cred inode)) EACCES _ refl
    (or (nat_lt S.file_limit size) EFBIG _ refl (becomes _ _ (record { holders = refl; graces = refl })))))
attempt_of-none S cred (Read path off len) =
    at_path-none S (read_from off len) path (λ number inode there. or inode.dir EISDIR _ refl (answers (Bytes (read_at inode.file off len)) refl refl))
attempt_of-none S cred (AskStat path) = at_path-none S (stat_at S) path (λ number inode there. answers (StatReply (stat_of S number inode)) refl refl)
attempt_of-none S cred (Link from to) =
    at_path-none S (link_to S to) from (λ number inode there.
    in_parent-none S EEXIST (link_as S number inode) to refl (λ dir name.
    or inode.dir EPERM _ refl (or (is_some (named S dir name)) EEXIST _ refl (few_links-none (with_name S dir name number) number refl))))
attempt_of-none S cred (Unlink path) =
    in_parent-none S EISDIR (unlink_as S cred) path refl (λ dir name.
    at_name-none S (unlink_at S cred dir name) dir name (λ number inode there.
    or inode.dir EISDIR _ refl (or (not (may_remove S cred dir number)) EPERM _ refl (becomes _ _ (sweeps S (without_name S dir name).names)))))
attempt_of-none S cred (Rmdir path) =
    in_parent-none S EBUSY (rmdir_as S cred) path refl (λ dir name.
    at_name-none S (rmdir_at S cred dir name) dir name (λ number inode there.
    or (not inode.dir) ENOTDIR _ refl (or (not (may_remove S cred dir number)) EPERM _ refl
    (or (not (is_empty S number)) ENOTEMPTY _ refl (becomes _ _ (sweeps S (without_name S dir name).names))))))
attempt_of-none S cred (Rename from to) =
    in_parent-none S EBUSY (rename_from S cred to) from refl (λ dir name.
    at_name-none S (rename_to S cred to dir name) dir name (λ number inode there.
    in_parent-none S EBUSY (rename_as S cred to dir name number inode) to refl (λ to_dir to_name.
    rename_over-none S cred (components to) dir name number inode to_dir to_name (named S to_dir to_name)
    (sweeps S (with_name (without_name (without_name S dir name) to_dir to_name) to_dir to_name number).names))))
attempt_of-none S cred (Chown path uid gid project) =
    at_path-none S (chown_at S cred uid gid project) path (λ number inode there.
    or (not (may_give cred inode (renewed uid gid project inode.owners))) EPERM _ refl
    (becomes _ _ (given S number inode (renewed uid gid project inode.owners) there)))
attempt_of-none S cred (SetQuota kind id limits) =
    or (not (is_superuser cred)) EPERM _ refl (or (not (is_declared S kind id)) ESRCH _ refl (becomes _ _ refl))
attempt_of-none S cred (SetGrace graces) = or (not (is_superuser cred)) EPERM _ refl (becomes _ _ refl)
attempt_of-none S cred (AskQuota kind id) =
    or (not (is_superuser cred || is_own cred kind id)) EPERM _ refl (quota_from-none S (find (is_holder kind id) S.holders))

-- so it is whatever is called
pub attempt-none : (S : State) (cred : Caller) (moment : ℕ) (call : Call) → TellsNone (MayBecome S call) (attempt S cred moment call)
attempt-none S cred moment call =
    unless-none (is_invalid S cred moment call) (list_any is_too_long (paths_of call)) (attempt_of S cred call) (attempt_of-none S cred call)
