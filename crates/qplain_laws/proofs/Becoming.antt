-- What a step may become, call by call: the cases that a fact about every plain result has to be shown for.
use Rattle.std.proofs.Common.{◌≡◌, ℕ, ◌+◌, ◌==◌, Bool, true, false, not, ◌&&◌, ◌||◌, nat_lt, cond, List, length, Option, Some, None, is_some, Ok, refl, tests, arith}
use Rattle.std.specs.List.{find, list_all, list_any}
use Rattle.std.proofs.lemmas.Bool.{and_left, and_right, or_parts}
use Rattle.qrules.specs.declared.kind.Kind.{Kind}
use Rattle.qrules.specs.declared.kind.Kind.TheVariants.{User, Group, Project}
use Rattle.qrules.specs.declared.limits.Limits.{Limits}
use Rattle.qrules.specs.declared.graces.Graces.{Graces}
use Rattle.qrules.specs.declared.graces.TheConstants.{MAX_MOMENT}
use Rattle.qblocks.specs.File.{File, after_truncate, after_write, empty_file, read_at}
use Rattle.qplain.specs.declared.call.Call.{Call}
use Rattle.qplain.specs.declared.call.Call.TheVariants.{Create, Mkdir, Write, Truncate, Read, Stat as AskStat, Link, Unlink, Rmdir, Rename, Chown, SetQuota, SetGrace, Quota as AskQuota}
use Rattle.qplain.specs.declared.owners.Owners.{Owners}
use Rattle.qplain.specs.declared.refusal.Refusal.{Refusal}
use Rattle.qplain.specs.declared.refusal.Refusal.TheVariants.{EBUSY, EINVAL, ENAMETOOLONG, ENOTDIR, ENOTEMPTY, EEXIST, EISDIR, EACCES, EFBIG, EMLINK, EPERM, ESRCH}
use Rattle.qplain.specs.declared.reply.Reply.TheVariants.{Bytes, Done}
use Rattle.qplain.specs.Caller.{Caller, is_superuser}
use Rattle.qplain.specs.State.{Holder, Inode, State, inode_at, is_directory, named, new_directory, new_file}
use Rattle.qplain.specs.Use.{has_too_many_links, is_empty}
use Rattle.qplain.specs.Walk.{components, is_well_formed, is_too_long, parent}
use Rattle.qplain.specs.Decision.{ends_after, refusal_between}
use Rattle.qplain.specs.Calls.{attempt, attempt_of, has_bad_number, is_invalid, paths_of, refusal_of_arguments}
use Rattle.qplain.specs.Known.{is_declared, is_holder, is_known, is_undeclared}
use Rattle.qplain.specs.Attempt.{Attempt, Refuse, Answer, Becomes, no_change}
use Rattle.qplain.specs.Rights.{is_member, is_own, is_owner, is_same_id, may_give, may_remove, may_write}
use Rattle.qplain.specs.Files.{read_from, stat_at, truncate_at, with_file, with_inode, write_into}
use Rattle.qplain.specs.Names.{create_as, created, link_as, link_to, mkdir_as, owners_by, rmdir_as, rmdir_at, swept, unless_too_many_links, unlink_as, unlink_at, with_name, without_name}
use Rattle.qplain.specs.Renames.{meets, passes, rename_as, rename_from, rename_over, rename_to, renamed}
use Rattle.qplain.specs.Owners.{chown_at, renewed, with_owners}
use Rattle.qplain.specs.Quotas.{ask_quota, quota_from, set_quota, set_grace, with_limits_of}
use Rattle.qplain_laws.specs.Laws.{IsSound}
use Rattle.qplain.specs.Step.{settle, settled, step}
use Rattle.qplain_laws.proofs.Trying.{OnBecomes, at_name-becomes, at_path-becomes, choice, in_parent-becomes, none-from_not_some, true-from_not, unless-becomes}
use Rattle.qplain_laws.proofs.Sound.{MayFollow, empty-sound, owned-follows, truncated-follows, written-follows}

-- the inode has the owners of what the caller makes in this directory, and its file is empty
pub record IsOwn (S : State) (cred : Caller) (dir : ℕ) (inode : Inode) : Type 0 where
  pub owners : inode.owners ≡ owners_by S cred dir
  pub empty : inode.file ≡ empty_file

-- the plain results that the calls of a caller may have
pub record HoldsOfResults (P : State → Type 0) (S : State) (cred : Caller) : Type 0 where
  pub created : (inode : Inode) (dir : ℕ) (name : List ℕ) → IsOwn S cred dir inode → is_known S cred ≡ true → IsSound inode
      → is_directory S dir ≡ true → named S dir name ≡ None → (inode.dir && has_too_many_links (created S inode dir name)) ≡ false
      → P (created S inode dir name)
  pub changed : (number : ℕ) (inode after : Inode) → inode_at S number ≡ Some inode → MayFollow S inode after
      → may_give cred inode after.owners ≡ true → P (with_inode S number after)
  pub removed : (dir : ℕ) (name : List ℕ) (number : ℕ) (inode : Inode) → named S dir name ≡ Some number → inode_at S number ≡ Some inode
      → (inode.dir && not (is_empty S number)) ≡ false → may_remove S cred dir number ≡ true → P (swept (without_name S dir name))
  pub linked : (number : ℕ) (inode : Inode) (dir : ℕ) (name : List ℕ) → inode_at S number ≡ Some inode → inode.dir ≡ false
      → is_directory S dir ≡ true → named S dir name ≡ None → has_too_many_links (with_name S dir name number) ≡ false → P (with_name S dir name number)
  pub renamed : (to : List (List ℕ)) (dir : ℕ) (name : List ℕ) (number : ℕ) (inode : Inode) (to_dir : ℕ) (to_name : List ℕ)
      → parent S to ≡ Ok to_dir → (inode.dir && meets S to number) ≡ false → named S dir name ≡ Some number → inode_at S number ≡ Some inode
      → is_directory S to_dir ≡ true → passes (λ n. n == number) (named S to_dir to_name) ≡ false
      → passes (λ n. not (is_empty S n)) (named S to_dir to_name) ≡ false → may_remove S cred dir number ≡ true
      → passes (λ n. not (may_remove S cred to_dir n)) (named S to_dir to_name) ≡ false
      → has_too_many_links (renamed S dir name to_dir to_name number) ≡ false → P (renamed S dir name to_dir to_name number)
  pub limited : (kind : Kind) (id : ℕ) (limits : Limits) → is_superuser cred ≡ true → P (with_limits_of S kind id limits)
  pub graced : (graces : Graces) → is_superuser cred ≡ true → P (record S { graces = graces })

-- who may write into an inode may leave it to its owners
owners-kept : (cred : Caller) (inode : Inode) → may_write cred inode ≡ true → may_give cred inode inode.owners ≡ true
owners-kept cred inode may =
    by (is_superuser cred) (is_owner cred inode) (inode.owners.uid == inode.owners.uid) (inode.owners.gid == inode.owners.gid)
    (is_member cred inode.owners.gid) (is_same_id inode.owners.project inode.owners.project) may
    (itself inode.owners.uid) (itself inode.owners.gid) (itself-or_none inode.owners.project)
  where
    itself : (n : ℕ) → (n == n) ≡ true
    itself n = grind (arith, tests)

    itself-or_none : (o : Option ℕ) → is_same_id o o ≡ true
    itself-or_none None = refl
    itself-or_none (Some n) = grind (arith, tests)

    by : (a b c d e f : Bool) → (a || b) ≡ true → c ≡ true → d ≡ true → f ≡ true → (a || b && c && (d || e) && f) ≡ true
    by true b c d e f may user group project = refl
    by false true true true e true may user group project = refl
    by false true true true e false may user group project = cc
    by false true true false e f may user group project = cc
    by false true false d e f may user group project = cc
    by false false c d e f may user group project = cc

-- what a call has passed that is not refused for its arguments
pub record HasGoodArguments (S : State) (cred : Caller) (moment : ℕ) (call : Call) : Type 0 where
  pub early : nat_lt MAX_MOMENT moment ≡ false
  pub known : is_known S cred ≡ true
  pub formed : list_all is_well_formed (paths_of call) ≡ true
  pub numbers : has_bad_number S call ≡ false
  pub short : list_any is_too_long (paths_of call) ≡ false

-- which it has passed indeed
pub good-arguments : (S : State) (cred : Caller) (moment : ℕ) (call : Call) → refusal_of_arguments S cred moment call ≡ None
    → HasGoodArguments S cred moment call
good-arguments S cred moment call granted =
    let both = by (is_invalid S cred moment call) (list_any is_too_long (paths_of call)) granted in
    let late : Bool = nat_lt MAX_MOMENT moment in
    let unknown : Bool = not (is_known S cred) in
    let ill_formed : Bool = not (list_all is_well_formed (paths_of call)) in
    let numbers = or_parts (late || unknown || ill_formed) (has_bad_number S call) both.0 in
    let formed = or_parts (late || unknown) ill_formed numbers.0 in
    let known = or_parts late unknown formed.0 in
    record {
      early = known.0;
      known = true-from_not (is_known S cred) known.1;
      formed = true-from_not (list_all is_well_formed (paths_of call)) formed.1;
      numbers = numbers.1;
      short = both.1;
    }
  where
    by : (bad long : Bool) → cond bad (Some EINVAL) (cond long (Some ENAMETOOLONG) None) ≡ None → (bad ≡ false) × (long ≡ false)
    by false false h = (refl, refl)
    by false true h = cc
    by true long h = cc

module _ (P : State → Type 0) (S : State) (cred : Caller) (holds : HoldsOfResults P S cred) where
  create_as-becomes : (dir : ℕ) (name : List ℕ) → is_known S cred ≡ true → is_directory S dir ≡ true → OnBecomes P (create_as S cred dir name)
  create_as-becomes dir name known stands =
      choice P (is_some (named S dir name)) (Refuse EEXIST) (Becomes (created S (new_file (owners_by S cred dir)) dir name) S.next) tt
      (λ absent. holds.created (new_file (owners_by S cred dir)) dir name (record { owners = refl; empty = refl }) known
      (empty-sound (new_file (owners_by S cred dir)) refl) stands (none-from_not_some (named S dir name) absent) refl)

  unless_too_many_links-becomes : (new : State) (number : ℕ) → (has_too_many_links new ≡ false → P new) → OnBecomes P (unless_too_many_links new number)
  unless_too_many_links-becomes new number p = choice P (has_too_many_links new) (Refuse EMLINK) (Becomes new number) tt p

  mkdir_as-becomes : (dir : ℕ) (name : List ℕ) → is_known S cred ≡ true → is_directory S dir ≡ true → OnBecomes P (mkdir_as S cred dir name)
  mkdir_as-becomes dir name known stands =
      let inode : Inode = new_directory (owners_by S cred dir) in
      choice P (is_some (named S dir name)) (Refuse EEXIST) (unless_too_many_links (created S inode dir name) S.next) tt
      (λ absent. unless_too_many_links-becomes (created S inode dir name) S.next
      (λ few. holds.created inode dir name (record { owners = refl; empty = refl }) known
      (empty-sound inode refl) stands (none-from_not_some (named S dir name) absent) few))

  write_into-becomes : (off : ℕ) (bytes : List ℕ) (number : ℕ) (inode : Inode) → inode_at S number ≡ Some inode
      → OnBecomes P (write_into S cred off bytes number inode)
  write_into-becomes off bytes number inode there =
      let file : File = after_write inode.file off bytes in
      let becomes : Attempt = Becomes (with_file S number inode file) number in
      let fits : Attempt = cond (nat_lt S.file_limit (off + length bytes)) (Refuse EFBIG) becomes in
      let some : Attempt = cond (length bytes == 0) (Answer (Done number no_change)) fits in
      let allowed : Attempt = cond (not (may_write cred inode)) (Refuse EACCES) some in
      choice P inode.dir (Refuse EISDIR) allowed tt (λ file_too.
      choice P (not (may_write cred inode)) (Refuse EACCES) some tt (λ may.
      choice P (length bytes == 0) (Answer (Done number no_change)) fits tt (λ more.
      choice P (nat_lt S.file_limit (off + length bytes)) (Refuse EFBIG) becomes tt (λ below.
      holds.changed number inode (record inode { file = file }) there (written-follows S inode off bytes file_too below)
      (owners-kept cred inode (true-from_not (may_write cred inode) may))))))

  truncate_at-becomes : (size number : ℕ) (inode : Inode) → inode_at S number ≡ Some inode → OnBecomes P (truncate_at S cred size number inode)
  truncate_at-becomes size number inode there =
      let file : File = after_truncate inode.file size in
      let becomes : Attempt = Becomes (with_file S number inode file) number in
      let fits : Attempt = cond (nat_lt S.file_limit size) (Refuse EFBIG) becomes in
      let allowed : Attempt = cond (not (may_write cred inode)) (Refuse EACCES) fits in
      choice P inode.dir (Refuse EISDIR) allowed tt (λ file_too.
      choice P (not (may_write cred inode)) (Refuse EACCES) fits tt (λ may.
      choice P (nat_lt S.file_limit size) (Refuse EFBIG) becomes tt (λ below.
      holds.changed number inode (record inode { file = file }) there (truncated-follows S inode size file_too below)
      (owners-kept cred inode (true-from_not (may_write cred inode) may)))))

  read_from-becomes : (off len number : ℕ) (inode : Inode) → OnBecomes P (read_from off len number inode)
  read_from-becomes off len number inode = choice P inode.dir (Refuse EISDIR) (Answer (Bytes (read_at inode.file off len))) tt (λ file. tt)

  unlink_at-becomes : (dir : ℕ) (name : List ℕ) (number : ℕ) (inode : Inode) → named S dir name ≡ Some number → inode_at S number ≡ Some inode
      → OnBecomes P (unlink_at S cred dir name number inode)
  unlink_at-becomes dir name number inode led there =
      let becomes : Attempt = Becomes (swept (without_name S dir name)) number in
      choice P inode.dir (Refuse EISDIR) (cond (not (may_remove S cred dir number)) (Refuse EPERM) becomes) tt (λ file.
      choice P (not (may_remove S cred dir number)) (Refuse EPERM) becomes tt
      (λ may. holds.removed dir name number inode led there (and_left inode.dir (not (is_empty S number)) file)
      (true-from_not (may_remove S cred dir number) may)))

  rmdir_at-becomes : (dir : ℕ) (name : List ℕ) (number : ℕ) (inode : Inode) → named S dir name ≡ Some number → inode_at S number ≡ Some inode
      → OnBecomes P (rmdir_at S cred dir name number inode)
  rmdir_at-becomes dir name number inode led there =
      let becomes : Attempt = Becomes (swept (without_name S dir name)) number in
      let empties : Attempt = cond (not (is_empty S number)) (Refuse ENOTEMPTY) becomes in
      let allowed : Attempt = cond (not (may_remove S cred dir number)) (Refuse EPERM) empties in
      choice P (not inode.dir) (Refuse ENOTDIR) allowed tt (λ directory.
      choice P (not (may_remove S cred dir number)) (Refuse EPERM) empties tt (λ may.
      choice P (not (is_empty S number)) (Refuse ENOTEMPTY) becomes tt (λ empty.
      holds.removed dir name number inode led there (and_right inode.dir (not (is_empty S number)) empty)
      (true-from_not (may_remove S cred dir number) may))))

  link_as-becomes : (number : ℕ) (inode : Inode) (dir : ℕ) (name : List ℕ) → inode_at S number ≡ Some inode → is_directory S dir ≡ true
      → OnBecomes P (link_as S number inode dir name)
  link_as-becomes number inode dir name there stands =
      let becomes : Attempt = unless_too_many_links (with_name S dir name number) number in
      choice P inode.dir (Refuse EPERM) (cond (is_some (named S dir name)) (Refuse EEXIST) becomes) tt (λ file.
      choice P (is_some (named S dir name)) (Refuse EEXIST) becomes tt (λ absent.
      unless_too_many_links-becomes (with_name S dir name number) number
      (λ few. holds.linked number inode dir name there file stands (none-from_not_some (named S dir name) absent) few)))

  rename_over-becomes : (to : List (List ℕ)) (dir : ℕ) (name : List ℕ) (number : ℕ) (inode : Inode) (to_dir : ℕ) (to_name : List ℕ)
      → parent S to ≡ Ok to_dir → named S dir name ≡ Some number → inode_at S number ≡ Some inode → is_directory S to_dir ≡ true
      → OnBecomes P (rename_over S cred to dir name number inode to_dir to_name (named S to_dir to_name))
  rename_over-becomes to dir name number inode to_dir to_name placed led there stands =
      let target : Option ℕ = named S to_dir to_name in
      let becomes : Attempt = unless_too_many_links (renamed S dir name to_dir to_name number) number in
      let empties : Attempt = cond (passes (λ n. not (is_empty S n)) target) (Refuse ENOTEMPTY) becomes in
      let replaces : Attempt = cond (passes (λ n. not (may_remove S cred to_dir n)) target) (Refuse EPERM) empties in
      let moves : Attempt = cond (not (may_remove S cred dir number)) (Refuse EPERM) replaces in
      let file_too : Attempt = cond (not inode.dir && passes (λ n. is_directory S n) target) (Refuse EISDIR) moves in
      let dir_too : Attempt = cond (inode.dir && passes (λ n. not (is_directory S n)) target) (Refuse ENOTDIR) file_too in
      let apart : Attempt = cond (inode.dir && meets S to number) (Refuse EINVAL) dir_too in
      choice P (passes (λ n. n == number) target) (Answer (Done number no_change)) apart tt (λ other.
      choice P (inode.dir && meets S to number) (Refuse EINVAL) dir_too tt (λ outside.
      choice P (inode.dir && passes (λ n. not (is_directory S n)) target) (Refuse ENOTDIR) file_too tt (λ a.
      choice P (not inode.dir && passes (λ n. is_directory S n) target) (Refuse EISDIR) moves tt (λ b.
      choice P (not (may_remove S cred dir number)) (Refuse EPERM) replaces tt (λ may.
      choice P (passes (λ n. not (may_remove S cred to_dir n)) target) (Refuse EPERM) empties tt (λ may_too.
      choice P (passes (λ n. not (is_empty S n)) target) (Refuse ENOTEMPTY) becomes tt (λ empty.
      unless_too_many_links-becomes (renamed S dir name to_dir to_name number) number
      (λ few. holds.renamed to dir name number inode to_dir to_name placed outside led there stands other empty
      (true-from_not (may_remove S cred dir number) may) may_too few))))))))

  chown_at-becomes : (uid gid project : Option ℕ) (number : ℕ) (inode : Inode)
      → (is_undeclared S User uid || is_undeclared S Group gid || is_undeclared S Project project) ≡ false
      → inode_at S number ≡ Some inode → OnBecomes P (chown_at S cred uid gid project number inode)
  chown_at-becomes uid gid project number inode declared there =
      let owners : Owners = renewed uid gid project inode.owners in
      let ids = or_parts (is_undeclared S User uid || is_undeclared S Group gid) (is_undeclared S Project project) declared in
      let others = or_parts (is_undeclared S User uid) (is_undeclared S Group gid) ids.0 in
      choice P (not (may_give cred inode owners)) (Refuse EPERM) (Becomes (with_inode S number (with_owners inode owners)) number) tt
      (λ may. holds.changed number inode (with_owners inode owners) there (owned-follows S inode uid gid project others.0 others.1 ids.1)
      (true-from_not (may_give cred inode owners) may))

  quota_from-becomes : (o : Option Holder) → OnBecomes P (quota_from S o)
  quota_from-becomes None = tt
  quota_from-becomes (Some h) = tt

  set_quota-becomes : (kind : Kind) (id : ℕ) (limits : Limits) → OnBecomes P (set_quota S cred kind id limits)
  set_quota-becomes kind id limits =
      let becomes : Attempt = Becomes (with_limits_of S kind id limits) 0 in
      choice P (not (is_superuser cred)) (Refuse EPERM) (cond (not (is_declared S kind id)) (Refuse ESRCH) becomes) tt (λ may.
      choice P (not (is_declared S kind id)) (Refuse ESRCH) becomes tt (λ declared. holds.limited kind id limits (true-from_not (is_superuser cred) may)))

  set_grace-becomes : (graces : Graces) → OnBecomes P (set_grace S cred graces)
  set_grace-becomes graces =
      choice P (not (is_superuser cred)) (Refuse EPERM) (Becomes (record S { graces = graces }) 0) tt
      (λ may. holds.graced graces (true-from_not (is_superuser cred) may))

  ask_quota-becomes : (kind : Kind) (id : ℕ) → OnBecomes P (ask_quota S cred kind id)
  ask_quota-becomes kind id =
      choice P (not (is_superuser cred || is_own cred kind id)) (Refuse EPERM) (quota_from S (find (is_holder kind id) S.holders)) tt
      (λ may. quota_from-becomes (find (is_holder kind id) S.holders))

  attempt_of-becomes : (call : Call) → is_known S cred ≡ true → has_bad_number S call ≡ false → OnBecomes P (attempt_of S cred call)
  attempt_of-becomes (Create path) known good =
      in_parent-becomes P S EEXIST (create_as S cred) path (λ dir name placed stands. create_as-becomes dir name known stands)
  attempt_of-becomes (Mkdir path) known good =
      in_parent-becomes P S EEXIST (mkdir_as S cred) path (λ dir name placed stands. mkdir_as-becomes dir name known stands)
  attempt_of-becomes (Write path off bytes) known good =
      at_path-becomes P S (write_into S cred off bytes) path (λ number inode there. write_into-becomes off bytes number inode there)
  attempt_of-becomes (Truncate path size) known good =
      at_path-becomes P S (truncate_at S cred size) path (λ number inode there. truncate_at-becomes size number inode there)
  attempt_of-becomes (Read path off len) known good =
      at_path-becomes P S (read_from off len) path (λ number inode there. read_from-becomes off len number inode)
  attempt_of-becomes (AskStat path) known good = at_path-becomes P S (stat_at S) path (λ number inode there. tt)
  attempt_of-becomes (Link from to) known good =
      at_path-becomes P S (link_to S to) from (λ number inode there.
      in_parent-becomes P S EEXIST (link_as S number inode) to (λ dir name placed stands. link_as-becomes number inode dir name there stands))
  attempt_of-becomes (Unlink path) known good =
      in_parent-becomes P S EISDIR (unlink_as S cred) path (λ dir name placed stands.
      at_name-becomes P S (unlink_at S cred dir name) dir name (λ number inode led there. unlink_at-becomes dir name number inode led there))
  attempt_of-becomes (Rmdir path) known good =
      in_parent-becomes P S EBUSY (rmdir_as S cred) path (λ dir name placed stands.
      at_name-becomes P S (rmdir_at S cred dir name) dir name (λ number inode led there. rmdir_at-becomes dir name number inode led there))
  attempt_of-becomes (Rename from to) known good =
      in_parent-becomes P S EBUSY (rename_from S cred to) from (λ dir name from_placed from_stands.
      at_name-becomes P S (rename_to S cred to dir name) dir name (λ number inode led there.
      in_parent-becomes P S EBUSY (rename_as S cred to dir name number inode) to (λ to_dir to_name placed stands.
      rename_over-becomes (components to) dir name number inode to_dir to_name placed led there stands)))
  attempt_of-becomes (Chown path uid gid project) known good =
      at_path-becomes P S (chown_at S cred uid gid project) path (λ number inode there. chown_at-becomes uid gid project number inode good there)
  attempt_of-becomes (SetQuota kind id limits) known good = set_quota-becomes kind id limits
  attempt_of-becomes (SetGrace graces) known good = set_grace-becomes graces
  attempt_of-becomes (AskQuota kind id) known good = ask_quota-becomes kind id

  -- what holds of the plain result of every call, holds of the attempt
  pub attempt-becomes : (moment : ℕ) (call : Call) → OnBecomes P (attempt S cred moment call)
  attempt-becomes moment call =
      unless-becomes P (refusal_of_arguments S cred moment call) (attempt_of S cred call)
      (λ granted. let good = good-arguments S cred moment call granted in attempt_of-becomes call good.known good.numbers)

  settled-becomes : (Q : State → Type 0) (new : State) (number moment : ℕ) (o : Option Refusal) → Q S → (o ≡ None → Q (ends_after new moment))
      → Q (settled S new number moment o).0
  settled-becomes Q new number moment (Some r) stays granted = stays
  settled-becomes Q new number moment None stays granted = granted refl

  settle-becomes : (Q : State → Type 0) (moment : ℕ) (a : Attempt) → OnBecomes P a → Q S
      → ((new : State) → P new → refusal_between S new cred moment ≡ None → Q (ends_after new moment)) → Q (settle S cred moment a).0
  settle-becomes Q moment (Refuse r) p stays granted = stays
  settle-becomes Q moment (Answer reply) p stays granted = stays
  settle-becomes Q moment (Becomes new number) p stays granted =
      settled-becomes Q new number moment (refusal_between S new cred moment) stays (granted new p)

  -- a fact of the old state, and of each plain result that is granted with its new ends, is one of every step
  pub step-becomes : (Q : State → Type 0) (moment : ℕ) (call : Call) → Q S
      → ((new : State) → P new → refusal_between S new cred moment ≡ None → Q (ends_after new moment)) → Q (step S cred moment call).0
  step-becomes Q moment call stays granted = settle-becomes Q moment (attempt S cred moment call) (attempt-becomes moment call) stays granted
