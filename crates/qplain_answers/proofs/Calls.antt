-- The tests of each call that names no project are the same without projects, those of its arguments too.
use Rattle.std.proofs.Common.{◌≡◌, ℕ, ◌==◌, Bool, true, false, not, ◌&&◌, ◌||◌, nat_lt, cond, List, [], ◌∷◌, Option, Some, None, refl, sym, ap, ◌∙◌, tests, arith}
use Rattle.std.specs.List.{find, list_all, list_any}
use Rattle.qrules.specs.declared.kind.Kind.{Kind}
use Rattle.qrules.specs.declared.kind.Kind.TheVariants.{User, Group}
use Rattle.qrules.specs.declared.limits.Limits.{Limits}
use Rattle.qrules.specs.declared.graces.Graces.{Graces}
use Rattle.qrules.specs.declared.graces.TheConstants.{MAX_MOMENT}
use Rattle.qrules.specs.Kinds.{is_same_kind}
use Rattle.qrules.specs.Sort.{Inodes, Blocks}
use Rattle.qplain.specs.declared.call.Call.{Call}
use Rattle.qplain.specs.declared.call.Call.TheVariants.{Create, Mkdir, Write, Truncate, Read, Stat as AskStat, Link, Unlink, Rmdir, Rename, Chown, SetQuota, SetGrace, Quota as AskQuota}
use Rattle.qplain.specs.declared.owners.Owners.{Owners}
use Rattle.qplain.specs.declared.refusal.Refusal.{Refusal}
use Rattle.qplain.specs.declared.refusal.Refusal.TheVariants.{EBUSY, EINVAL, ENAMETOOLONG, EEXIST, EISDIR, EPERM, ESRCH}
use Rattle.qplain.specs.declared.reply.Reply.TheVariants.{Quota as QuotaReply}
use Rattle.qplain.specs.Caller.{Caller, is_superuser}
use Rattle.qplain.specs.State.{Holder, Inode, State, named}
use Rattle.qplain.specs.Walk.{components, is_too_long, is_well_formed}
use Rattle.qplain.specs.Calls.{attempt, attempt_of, has_bad_number, paths_of, refusal_of_arguments, unless}
use Rattle.qplain.specs.Known.{is_declared, is_holder, is_known, is_undeclared}
use Rattle.qplain.specs.Attempt.{Attempt, Refuse, Answer, Becomes}
use Rattle.qplain.specs.Rights.{is_member, is_own, is_owner, is_same_id, may_give}
use Rattle.qplain.specs.Files.{read_from, stat_at, truncate_at, with_inode, write_into}
use Rattle.qplain.specs.Names.{create_as, link_as, link_to, mkdir_as, rmdir_as, rmdir_at, unlink_as, unlink_at}
use Rattle.qplain.specs.Renames.{rename_as, rename_from, rename_to}
use Rattle.qplain.specs.Owners.{chown_at, renewed, with_owners}
use Rattle.qplain.specs.Quotas.{ask_quota, quota_from, quota_of, relimited, set_grace, set_quota, with_limits_of}
use Rattle.qplain_answers.specs.WithoutProjects.{is_project, names_project, of_no_project, without_projects}
use Rattle.qplain_answers.proofs.Entries.{any-staying, filter-staying, find-staying, stays}
use Rattle.qplain_answers.proofs.Looks.{use-same}
use Rattle.qplain_answers.proofs.Attempts.{at_name-same, at_path-same, create-same, forgets, in_parent-same, link-same, mkdir-same, pick, pick_by, read-same, rename-same, rmdir-same, stat-same, truncate-same, unlink-same, with_inode-same, write-same}

-- ---- who is declared

-- whoever is left out is of no other kind
left_out : (kind : Kind) (id : ℕ) → is_project kind ≡ false → (h : Holder) → stays h ≡ false → is_holder kind id h ≡ false
left_out kind id other h goes =
    let apart : is_same_kind kind h.kind ≡ false = by (is_project h.kind) refl goes in
    ap (λ b. b && id == h.id) apart
  where
    by : (b : Bool) → is_project h.kind ≡ b → not b ≡ false → is_same_kind kind h.kind ≡ false
    by true is e = grind (arith, tests, is, other)
    by false is e = cc

-- whoever is found passes
found-passes : (p : Holder → Bool) (hs : List Holder) (h : Holder) → find p hs ≡ Some h → p h ≡ true
found-passes p [] h found = cc
found-passes p (x ∷ hs) h found = by (found-passes p hs h) (p x) refl found
  where
    by : (find p hs ≡ Some h → p h ≡ true) → (b : Bool) → p x ≡ b → cond b (Some x) (find p hs) ≡ Some h → p h ≡ true
    by later true passes e = let same : x ≡ h = cc in ap p (sym same) ∙ passes
    by later false fails e = later e

-- new limits are of whoever it was
stays-limited : (b : Bool) (limits : Limits) (h : Holder) → stays (cond b (relimited limits h) h) ≡ stays h
stays-limited true limits h = refl
stays-limited false limits h = refl

-- both are the same id, as each is
same_id : (o : Option ℕ) → is_same_id o o ≡ true
same_id None = refl
same_id (Some id) = grind (arith, tests)

module _ (S : State) where
  abbrev T : State
  T = without_projects S

  declared-same : (kind : Kind) (id : ℕ) → is_project kind ≡ false → is_declared T kind id ≡ is_declared S kind id
  declared-same kind id other = any-staying (is_holder kind id) (left_out kind id other) S.holders

  -- ---- the arguments

  known-same : (cred : Caller) → is_known T cred ≡ is_known S cred
  known-same cred =
      (λ i. declared-same User cred.uid refl i && list_all (λ gid. declared-same Group gid refl i) (cred.gid ∷ cred.more))

  undeclared-same : (kind : Kind) (o : Option ℕ) → is_project kind ≡ false → is_undeclared T kind o ≡ is_undeclared S kind o
  undeclared-same kind None other = refl
  undeclared-same kind (Some id) other = ap not (declared-same kind id other)

  numbers-same : (call : Call) → names_project call ≡ false → has_bad_number T call ≡ has_bad_number S call
  numbers-same (Create path) other = refl
  numbers-same (Mkdir path) other = refl
  numbers-same (Write path off bytes) other = refl
  numbers-same (Truncate path size) other = refl
  numbers-same (Read path off len) other = refl
  numbers-same (AskStat path) other = refl
  numbers-same (Link from to) other = refl
  numbers-same (Unlink path) other = refl
  numbers-same (Rmdir path) other = refl
  numbers-same (Rename from to) other = refl
  numbers-same (Chown path uid gid None) other = (λ i. undeclared-same User uid refl i || undeclared-same Group gid refl i || false)
  numbers-same (Chown path uid gid (Some project)) other = cc
  numbers-same (SetQuota kind id limits) other = refl
  numbers-same (SetGrace graces) other = refl
  numbers-same (AskQuota kind id) other = refl

  arguments-same : (cred : Caller) (moment : ℕ) (call : Call) → names_project call ≡ false
      → refusal_of_arguments T cred moment call ≡ refusal_of_arguments S cred moment call
  arguments-same cred moment call other =
      (λ i. cond
      (nat_lt MAX_MOMENT moment || not (known-same cred i) || not (list_all is_well_formed (paths_of call)) || numbers-same call other i)
      (Some EINVAL) (cond (list_any is_too_long (paths_of call)) (Some ENAMETOOLONG) None))

  -- ---- owners, limits and records

  module _ (cred : Caller) where
    chown-same : (uid gid : Option ℕ) (number : ℕ) (inode : Inode)
        → chown_at T cred uid gid None number (of_no_project inode) ≡ forgets (chown_at S cred uid gid None number inode)
    chown-same uid gid number inode =
        let owners : Owners = renewed uid gid None inode.owners in
        let less : Owners = renewed uid gid None (of_no_project inode).owners in
        pick_by (not (may_give cred (of_no_project inode) less)) (not (may_give cred inode owners))
        (λ i. not (is_superuser cred
        || is_owner cred inode && owners.uid == inode.owners.uid && (owners.gid == inode.owners.gid || is_member cred owners.gid)
        && sym (same_id inode.owners.project) i))
        (Refuse EPERM) (Becomes (with_inode S number (with_owners inode owners)) number) _ _ refl
        (ap (λ U. Becomes U number) (with_inode-same S number (with_owners inode owners)))

    limited-same : (kind : Kind) (id : ℕ) (limits : Limits) → with_limits_of T kind id limits ≡ without_projects (with_limits_of S kind id limits)
    limited-same kind id limits =
        let f : Holder → Holder = λ h. cond (is_holder kind id h) (relimited limits h) h in
        (λ i. record T { holders = filter-staying f f (λ h. stays-limited (is_holder kind id h) limits h) (λ h is. refl) S.holders i })

    set_quota-same : (kind : Kind) (id : ℕ) (limits : Limits) → is_project kind ≡ false
        → set_quota T cred kind id limits ≡ forgets (set_quota S cred kind id limits)
    set_quota-same kind id limits other =
        let becomes : Attempt = Becomes (with_limits_of S kind id limits) 0 in
        pick (not (is_superuser cred)) (Refuse EPERM) (cond (not (is_declared S kind id)) (Refuse ESRCH) becomes) _ _ refl
        (pick_by (not (is_declared T kind id)) (not (is_declared S kind id)) (ap not (declared-same kind id other))
        (Refuse ESRCH) becomes _ _ refl (ap (λ U. Becomes U 0) (limited-same kind id limits)))

    set_grace-same : (graces : Graces) → set_grace T cred graces ≡ forgets (set_grace S cred graces)
    set_grace-same graces = pick (not (is_superuser cred)) (Refuse EPERM) (Becomes (record S { graces = graces }) 0) _ _ refl refl

    quota-same : (h : Holder) → is_project h.kind ≡ false → quota_of T h ≡ quota_of S h
    quota-same h other = (λ i. record (quota_of S h) {
      blocks = use-same S h.kind h.id Blocks other i;
      inodes = use-same S h.kind h.id Inodes other i;
    })

    quota_from-same : (o : Option Holder) → ((h : Holder) → o ≡ Some h → is_project h.kind ≡ false) → quota_from T o ≡ forgets (quota_from S o)
    quota_from-same None other = refl
    quota_from-same (Some h) other = ap (λ quota. Answer (QuotaReply quota)) (quota-same h (other h refl))

    ask_quota-same : (kind : Kind) (id : ℕ) → is_project kind ≡ false → ask_quota T cred kind id ≡ forgets (ask_quota S cred kind id)
    ask_quota-same kind id other =
        pick (not (is_superuser cred || is_own cred kind id)) (Refuse EPERM) (quota_from S (find (is_holder kind id) S.holders)) _ _ refl
        (ap (quota_from T) (find-staying (is_holder kind id) (left_out kind id other) S.holders)
        ∙ quota_from-same (find (is_holder kind id) S.holders) of_kind)
      where
        of_kind : (h : Holder) → find (is_holder kind id) S.holders ≡ Some h → is_project h.kind ≡ false
        of_kind h found =
            let passes : (is_same_kind kind h.kind && id == h.id) ≡ true = found-passes (is_holder kind id) S.holders h found in
            grind (arith, tests, passes, other)

    -- ---- all calls

    attempt_of-same : (call : Call) → names_project call ≡ false → attempt_of T cred call ≡ forgets (attempt_of S cred call)
    attempt_of-same (Create path) other = in_parent-same S EEXIST (create_as S cred) (create_as T cred) (create-same S cred) path
    attempt_of-same (Mkdir path) other = in_parent-same S EEXIST (mkdir_as S cred) (mkdir_as T cred) (mkdir-same S cred) path
    attempt_of-same (Write path off bytes) other =
        at_path-same S (write_into S cred off bytes) (write_into T cred off bytes) (write-same S cred off bytes) path
    attempt_of-same (Truncate path size) other = at_path-same S (truncate_at S cred size) (truncate_at T cred size) (truncate-same S cred size) path
    attempt_of-same (Read path off len) other = at_path-same S (read_from off len) (read_from off len) (read-same S cred off len) path
    attempt_of-same (AskStat path) other = at_path-same S (stat_at S) (stat_at T) (stat-same S cred) path
    attempt_of-same (Link from to) other =
        at_path-same S (link_to S to) (link_to T to) (λ number inode.
        in_parent-same S EEXIST (link_as S number inode) (link_as T number (of_no_project inode)) (link-same S cred number inode) to) from
    attempt_of-same (Unlink path) other =
        in_parent-same S EISDIR (unlink_as S cred) (unlink_as T cred) (λ dir name.
        at_name-same S (unlink_at S cred dir name) (unlink_at T cred dir name) (unlink-same S cred dir name) dir name) path
    attempt_of-same (Rmdir path) other =
        in_parent-same S EBUSY (rmdir_as S cred) (rmdir_as T cred) (λ dir name.
        at_name-same S (rmdir_at S cred dir name) (rmdir_at T cred dir name) (rmdir-same S cred dir name) dir name) path
    attempt_of-same (Rename from to) other =
        in_parent-same S EBUSY (rename_from S cred to) (rename_from T cred to) (λ dir name.
        at_name-same S (rename_to S cred to dir name) (rename_to T cred to dir name) (λ number inode.
        in_parent-same S EBUSY (rename_as S cred to dir name number inode) (rename_as T cred to dir name number (of_no_project inode))
        (λ to_dir to_name. rename-same S cred (components to) dir name number inode to_dir to_name (named S to_dir to_name)) to) dir name) from
    attempt_of-same (Chown path uid gid None) other =
        at_path-same S (chown_at S cred uid gid None) (chown_at T cred uid gid None) (chown-same uid gid) path
    attempt_of-same (Chown path uid gid (Some project)) other = cc
    attempt_of-same (SetQuota kind id limits) other = set_quota-same kind id limits other
    attempt_of-same (SetGrace graces) other = set_grace-same graces
    attempt_of-same (AskQuota kind id) other = ask_quota-same kind id other

    unless-same : (o : Option Refusal) (a b : Attempt) → b ≡ forgets a → unless o b ≡ forgets (unless o a)
    unless-same None a b same = same
    unless-same (Some r) a b same = refl

    -- the attempt of a call that names no project
    pub attempt-same : (moment : ℕ) (call : Call) → names_project call ≡ false → attempt T cred moment call ≡ forgets (attempt S cred moment call)
    attempt-same moment call other =
        ap (λ o. unless o (attempt_of T cred call)) (arguments-same cred moment call other)
        ∙ unless-same (refusal_of_arguments S cred moment call) (attempt_of S cred call) (attempt_of T cred call) (attempt_of-same call other)
