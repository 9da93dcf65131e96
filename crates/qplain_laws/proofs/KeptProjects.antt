-- No call but a chown that names a project changes the project of an inode.
use Rattle.std.proofs.Common.{◌≡◌, ℕ, ◌+◌, ◌==◌, Bool, true, false, not, nat_lt, cond, List, length, Option, None, Some, is_some, refl, sym, ap, ◌∙◌}
use Rattle.std.specs.Ordering.{nat_cmp}
use Rattle.std.specs.BTreeMap.{is_at}
use Rattle.std.specs.Map.{lookup}
use Rattle.std.proofs.lemmas.Map.Entries.{lookup-filter-keys}
use Rattle.qblocks.specs.File.{after_truncate, after_write}
use Rattle.qplain.specs.declared.call.Call.{Call}
use Rattle.qplain.specs.declared.call.Call.TheVariants.{Create, Mkdir, Write, Truncate, Read, Stat as AskStat, Link, Unlink, Rmdir, Rename, Chown, SetQuota}
use Rattle.qplain.specs.declared.call.Call.TheVariants.{SetGrace, Quota as AskQuota}
use Rattle.qplain.specs.declared.owners.Owners.{Owners}
use Rattle.qplain.specs.declared.refusal.Refusal.{Refusal}
use Rattle.qplain.specs.declared.refusal.Refusal.TheVariants.{EEXIST, EISDIR, EACCES, EFBIG, EMLINK, EPERM}
use Rattle.qplain.specs.declared.reply.Reply.TheVariants.{Done}
use Rattle.qplain.specs.Caller.{Caller}
use Rattle.qplain.specs.State.{Inode, State, inode_at, named, new_directory, new_file}
use Rattle.qplain.specs.Use.{has_too_many_links}
use Rattle.qplain.specs.Calls.{attempt, attempt_of, refusal_of_arguments}
use Rattle.qplain.specs.Attempt.{Attempt, Refuse, Answer, Becomes, no_change}
use Rattle.qplain.specs.Rights.{may_give, may_write}
use Rattle.qplain.specs.Files.{truncate_at, with_file, with_inode, write_into}
use Rattle.qplain.specs.Names.{create_as, created, mkdir_as, owners_by, unless_too_many_links}
use Rattle.qplain.specs.Owners.{chown_at, renewed, with_owners}
use Rattle.qplain.specs.Decision.{refusal_between}
use Rattle.qplain.specs.Step.{settle, settled}
use Rattle.qplain_laws.specs.ProjectLaws.{KeepsProjects, ProjectsStay, gives_project}
use Rattle.qplain_laws.proofs.Answering.{MayBecome, Sweeps, TellsNone, attempt-none}
use Rattle.qplain_laws.proofs.Giving.{left-there}
use Rattle.qplain_laws.proofs.Linking.{inode_at-created-there, inode_at-with_inode}
use Rattle.qplain_laws.proofs.Settling.{absent-next}
use Rattle.qplain_laws.proofs.Tables.{same-number}
use Rattle.qplain_laws.proofs.Trying.{OnBecomes, at_path-becomes, choice, in_parent-becomes, unless-becomes}

-- an inode has its own project
same : (inode after : Inode) → Some inode ≡ Some after → after.owners.project ≡ inode.owners.project
same inode after e = let equal : inode ≡ after = cc in ap (λ (i : Inode). i.owners.project) (sym equal)

-- ---- the states that keep the projects

module _ (S : State) where
  keeps-inodes : (T : State) → T.inodes ≡ S.inodes → KeepsProjects S T
  keeps-inodes T is = record {
    project = λ q one after at now.
        same one after (sym at ∙ sym (ap (λ (es : List (ℕ × Inode)). lookup (is_at (nat_cmp q)) es) is) ∙ now);
  }

  keeps-swept : (T : State) → Sweeps S T → KeepsProjects S T
  keeps-swept T sweeps = record {
    project = λ q one after at now.
        same one after (sym at ∙ left-there (sweeps.test q) (inode_at S q) after (sym (found q) ∙ now));
  }
    where
      found : (q : ℕ) → inode_at T q ≡ cond (sweeps.test q) (inode_at S q) None
      found q =
          ap (λ (es : List (ℕ × Inode)). lookup (is_at (nat_cmp q)) es) sweeps.inodes
          ∙ lookup-filter-keys (is_at (nat_cmp q)) sweeps.test (sweeps.test q) (λ n e. ap sweeps.test (sym (same-number q n e))) S.inodes

  keeps-created : (inode : Inode) (dir : ℕ) (name : List ℕ) → inode_at S S.next ≡ None → KeepsProjects S (created S inode dir name)
  keeps-created inode dir name none = record {
    project = λ q one after at now.
        same one after (sym at ∙ sym (inode_at-created-there S inode dir name q none (ap is_some at)) ∙ now);
  }

  keeps-changed : (number : ℕ) (inode changed : Inode) → inode_at S number ≡ Some inode → changed.owners.project ≡ inode.owners.project
      → KeepsProjects S (with_inode S number changed)
  keeps-changed number inode changed there kept = record {
    project = λ q one after at now.
        by q one after at (is_at (nat_cmp number) q) refl (sym (inode_at-with_inode S number inode changed q there) ∙ now);
  }
    where
      by : (q : ℕ) (one after : Inode) → inode_at S q ≡ Some one → (b : Bool) → is_at (nat_cmp number) q ≡ b
          → cond b (Some changed) (inode_at S q) ≡ Some after → after.owners.project ≡ one.owners.project
      by q one after at true here e =
          let old : Some inode ≡ Some one = sym there ∙ ap (inode_at S) (same-number number q here) ∙ at in
          same changed after e ∙ kept ∙ sym (same inode one old)
      by q one after at false here e = same one after (sym at ∙ e)

-- ---- the calls

module _ (S : State) (cred : Caller) (none : inode_at S S.next ≡ None) where
  -- the projects are kept
  abbrev Keeps : State → Type 0
  Keeps T = KeepsProjects S T

  create-keeps : (path : List ℕ) → OnBecomes Keeps (attempt_of S cred (Create path))
  create-keeps path =
      in_parent-becomes Keeps S EEXIST (create_as S cred) path (λ dir name placed stands.
      let inode : Inode = new_file (owners_by S cred dir) in
      choice Keeps (is_some (named S dir name)) (Refuse EEXIST) (Becomes (created S inode dir name) S.next) tt (λ free.
      keeps-created S inode dir name none))

  mkdir-keeps : (path : List ℕ) → OnBecomes Keeps (attempt_of S cred (Mkdir path))
  mkdir-keeps path =
      in_parent-becomes Keeps S EEXIST (mkdir_as S cred) path (λ dir name placed stands.
      let inode : Inode = new_directory (owners_by S cred dir) in
      let T : State = created S inode dir name in
      choice Keeps (is_some (named S dir name)) (Refuse EEXIST) (unless_too_many_links T S.next) tt (λ free.
      choice Keeps (has_too_many_links T) (Refuse EMLINK) (Becomes T S.next) tt (λ few.
      keeps-created S inode dir name none)))

  write-keeps : (path : List ℕ) (off : ℕ) (bytes : List ℕ) → OnBecomes Keeps (attempt_of S cred (Write path off bytes))
  write-keeps path off bytes =
      at_path-becomes Keeps S (write_into S cred off bytes) path (λ number inode there.
      let becomes : Attempt = Becomes (with_file S number inode (after_write inode.file off bytes)) number in
      let fits : Attempt = cond (nat_lt S.file_limit (off + length bytes)) (Refuse EFBIG) becomes in
      let some : Attempt = cond (length bytes == 0) (Answer (Done number no_change)) fits in
      choice Keeps inode.dir (Refuse EISDIR) (cond (not (may_write cred inode)) (Refuse EACCES) some) tt (λ file.
      choice Keeps (not (may_write cred inode)) (Refuse EACCES) some tt (λ may.
      choice Keeps (length bytes == 0) (Answer (Done number no_change)) fits tt (λ more.
      choice Keeps (nat_lt S.file_limit (off + length bytes)) (Refuse EFBIG) becomes tt (λ below.
      keeps-changed S number inode (record inode { file = after_write inode.file off bytes }) there refl)))))

  truncate-keeps : (path : List ℕ) (size : ℕ) → OnBecomes Keeps (attempt_of S cred (Truncate path size))
  truncate-keeps path size =
      at_path-becomes Keeps S (truncate_at S cred size) path (λ number inode there.
      let becomes : Attempt = Becomes (with_file S number inode (after_truncate inode.file size)) number in
      let fits : Attempt = cond (nat_lt S.file_limit size) (Refuse EFBIG) becomes in
      choice Keeps inode.dir (Refuse EISDIR) (cond (not (may_write cred inode)) (Refuse EACCES) fits) tt (λ file.
      choice Keeps (not (may_write cred inode)) (Refuse EACCES) fits tt (λ may.
      choice Keeps (nat_lt S.file_limit size) (Refuse EFBIG) becomes tt (λ below.
      keeps-changed S number inode (record inode { file = after_truncate inode.file size }) there refl))))

  chown-keeps : (path : List ℕ) (uid gid : Option ℕ) → OnBecomes Keeps (attempt_of S cred (Chown path uid gid None))
  chown-keeps path uid gid =
      at_path-becomes Keeps S (chown_at S cred uid gid None) path (λ number inode there.
      let owners : Owners = renewed uid gid None inode.owners in
      choice Keeps (not (may_give cred inode owners)) (Refuse EPERM) (Becomes (with_inode S number (with_owners inode owners)) number) tt (λ may.
      keeps-changed S number inode (with_owners inode owners) there refl))

  module _ (moment : ℕ) where
    -- what the tests of its arguments let through
    written : (call : Call) → OnBecomes Keeps (attempt_of S cred call) → OnBecomes Keeps (attempt S cred moment call)
    written call keeps = unless-becomes Keeps (refusal_of_arguments S cred moment call) (attempt_of S cred call) (λ lawful. keeps)

    -- what is known of its plain result
    told : (call : Call) → ((T : State) → MayBecome S call T → Keeps T) → OnBecomes Keeps (attempt S cred moment call)
    told call keeps = by (attempt S cred moment call) (attempt-none S cred moment call)
      where
        by : (a : Attempt) → TellsNone (MayBecome S call) a → OnBecomes Keeps a
        by (Refuse r) tells = tt
        by (Answer reply) tells = tt
        by (Becomes T number) tells = keeps T tells.none

    attempt-keeps : (call : Call) → gives_project call ≡ false → OnBecomes Keeps (attempt S cred moment call)
    attempt-keeps (Create path) other = written (Create path) (create-keeps path)
    attempt-keeps (Mkdir path) other = written (Mkdir path) (mkdir-keeps path)
    attempt-keeps (Write path off bytes) other = written (Write path off bytes) (write-keeps path off bytes)
    attempt-keeps (Truncate path size) other = written (Truncate path size) (truncate-keeps path size)
    attempt-keeps (Read path off len) other = told (Read path off len) (λ T may. absurd may)
    attempt-keeps (AskStat path) other = told (AskStat path) (λ T may. absurd may)
    attempt-keeps (Link from to) other = told (Link from to) (λ T may. keeps-inodes S T (ap (λ (U : State). U.inodes) may))
    attempt-keeps (Unlink path) other = told (Unlink path) (λ T may. keeps-swept S T may)
    attempt-keeps (Rmdir path) other = told (Rmdir path) (λ T may. keeps-swept S T may)
    attempt-keeps (Rename from to) other = told (Rename from to) (λ T may. keeps-swept S T may)
    attempt-keeps (Chown path uid gid None) other = written (Chown path uid gid None) (chown-keeps path uid gid)
    attempt-keeps (Chown path uid gid (Some id)) other = cc
    attempt-keeps (SetQuota kind id limits) other =
        told (SetQuota kind id limits) (λ T may. keeps-inodes S T (ap (λ (U : State). U.inodes) may))
    attempt-keeps (SetGrace graces) other = told (SetGrace graces) (λ T may. keeps-inodes S T (ap (λ (U : State). U.inodes) may))
    attempt-keeps (AskQuota kind id) other = told (AskQuota kind id) (λ T may. absurd may)

    settled-keeps : (T : State) (number : ℕ) (o : Option Refusal) → Keeps T → Keeps (settled S T number moment o).0
    settled-keeps T number (Some r) keeps = keeps-inodes S S refl
    settled-keeps T number None keeps = record { project = keeps.project }

    settle-keeps : (a : Attempt) → OnBecomes Keeps a → Keeps (settle S cred moment a).0
    settle-keeps (Refuse r) keeps = keeps-inodes S S refl
    settle-keeps (Answer reply) keeps = keeps-inodes S S refl
    settle-keeps (Becomes T number) keeps = settled-keeps T number (refusal_between S T cred moment) keeps

pub projects_stay : ProjectsStay
projects_stay S cred moment call lawful other =
    let none : inode_at S S.next ≡ None = absent-next S lawful in
    settle-keeps S cred none moment (attempt S cred moment call) (attempt-keeps S cred none moment call other)
