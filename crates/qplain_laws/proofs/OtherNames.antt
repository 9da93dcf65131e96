-- Call by call, every name leads where it led but the last names of the paths that the call changes.
use Rattle.std.proofs.Common.{◌≡◌, ℕ, ◌+◌, ◌==◌, not, ◌&&◌, ◌||◌, nat_lt, cond, List, [], ◌∷◌, All, length, Option, Some, None, is_some, refl}
use Rattle.std.specs.List.{find}
use Rattle.std.proofs.lemmas.List.Elements.{All-head, All-tail}
use Rattle.qblocks.specs.File.{after_truncate, after_write, read_at}
use Rattle.qplain.specs.declared.call.Call.{Call}
use Rattle.qplain.specs.declared.call.Call.TheVariants.{Create, Mkdir, Write, Truncate, Read, Stat as AskStat, Link, Unlink, Rmdir, Rename, Chown, SetQuota, SetGrace, Quota as AskQuota}
use Rattle.qplain.specs.declared.refusal.Refusal.{Refusal}
use Rattle.qplain.specs.declared.refusal.Refusal.TheVariants.{EBUSY, EINVAL, ENOTDIR, ENOTEMPTY, EEXIST, EISDIR, EACCES, EFBIG, EMLINK, EPERM, ESRCH}
use Rattle.qplain.specs.declared.reply.Reply.TheVariants.{Bytes, Done}
use Rattle.qplain.specs.Caller.{Caller, is_superuser}
use Rattle.qplain.specs.State.{Holder, State, is_directory, named, new_directory, new_file}
use Rattle.qplain.specs.Use.{has_too_many_links, is_empty}
use Rattle.qplain.specs.Walk.{components}
use Rattle.qplain.specs.Decision.{refusal_between}
use Rattle.qplain.specs.Known.{is_declared, is_holder}
use Rattle.qplain.specs.Calls.{attempt, attempt_of, refusal_of_arguments, unless}
use Rattle.qplain.specs.Attempt.{Attempt, Refuse, Answer, Becomes, no_change}
use Rattle.qplain.specs.Rights.{is_own, may_give, may_remove, may_write}
use Rattle.qplain.specs.Files.{read_from, stat_at, truncate_at, with_file, with_inode, write_into}
use Rattle.qplain.specs.Names.{create_as, created, link_as, link_to, mkdir_as, owners_by, rmdir_as, rmdir_at, swept, unless_too_many_links, unlink_as, unlink_at, with_name, without_name}
use Rattle.qplain.specs.Renames.{meets, passes, rename_as, rename_from, rename_to, renamed}
use Rattle.qplain.specs.Owners.{chown_at, renewed, with_owners}
use Rattle.qplain.specs.Quotas.{quota_from, with_limits_of}
use Rattle.qplain.specs.Step.{settle, settled}
use Rattle.qplain_laws.specs.Changes.{OtherNamesStay, changed_paths}
use Rattle.qplain_laws.specs.Laws.{IsLawful}
use Rattle.qplain_laws.proofs.Doing.{OnDone, at_name-done, at_path-done, in_parent-done, pick, unless_refused}
use Rattle.qplain_laws.proofs.NamesApart.{Apart, Stays, stays-linked, stays-made, stays-removed, stays-renamed}

module _ (S : State) (cred : Caller) (lawful : IsLawful S) (dir : ℕ) (name : List ℕ) where
  -- ---- call by call

  few-stays : (T : State) (number : ℕ) → Stays S dir name number T → OnDone (Stays S dir name) S (unless_too_many_links T number)
  few-stays T number stays = unless_refused (Stays S dir name) S (has_too_many_links T) EMLINK (Becomes T number) (λ few. stays)

  link-stays : (from to : List ℕ) → Apart S dir name to → OnDone (Stays S dir name) S (attempt_of S cred (Link from to))
  link-stays from to apart =
      at_path-done (Stays S dir name) S (link_to S to) from (λ number inode leads there.
      in_parent-done (Stays S dir name) S EEXIST (link_as S number inode) to (λ d nm place stands.
      let becomes : Attempt = unless_too_many_links (with_name S d nm number) number in
      unless_refused (Stays S dir name) S inode.dir EPERM (cond (is_some (named S d nm)) (Refuse EEXIST) becomes) (λ file.
      unless_refused (Stays S dir name) S (is_some (named S d nm)) EEXIST becomes (λ free.
      few-stays (with_name S d nm number) number (stays-linked S dir name lawful.parts to d nm number apart place free)))))

  unlink-stays : (path : List ℕ) → Apart S dir name path → OnDone (Stays S dir name) S (attempt_of S cred (Unlink path))
  unlink-stays path apart =
      in_parent-done (Stays S dir name) S EISDIR (unlink_as S cred) path (λ d nm place stands.
      at_name-done (Stays S dir name) S (unlink_at S cred d nm) d nm (λ number inode led there.
      let becomes : Attempt = Becomes (swept (without_name S d nm)) number in
      unless_refused (Stays S dir name) S inode.dir EISDIR (cond (not (may_remove S cred d number)) (Refuse EPERM) becomes) (λ file.
      unless_refused (Stays S dir name) S (not (may_remove S cred d number)) EPERM becomes (λ may.
      stays-removed S dir name lawful.parts path d nm number apart place led))))

  rmdir-stays : (path : List ℕ) → Apart S dir name path → OnDone (Stays S dir name) S (attempt_of S cred (Rmdir path))
  rmdir-stays path apart =
      in_parent-done (Stays S dir name) S EBUSY (rmdir_as S cred) path (λ d nm place stands.
      at_name-done (Stays S dir name) S (rmdir_at S cred d nm) d nm (λ number inode led there.
      let becomes : Attempt = Becomes (swept (without_name S d nm)) number in
      let empties : Attempt = cond (not (is_empty S number)) (Refuse ENOTEMPTY) becomes in
      unless_refused (Stays S dir name) S (not inode.dir) ENOTDIR (cond (not (may_remove S cred d number)) (Refuse EPERM) empties) (λ directory.
      unless_refused (Stays S dir name) S (not (may_remove S cred d number)) EPERM empties (λ may.
      unless_refused (Stays S dir name) S (not (is_empty S number)) ENOTEMPTY becomes (λ empty.
      stays-removed S dir name lawful.parts path d nm number apart place led)))))

  rename-stays : (from to : List ℕ) → Apart S dir name from → Apart S dir name to → OnDone (Stays S dir name) S (attempt_of S cred (Rename from to))
  rename-stays from to apart apart_too =
      in_parent-done (Stays S dir name) S EBUSY (rename_from S cred to) from (λ d nm place from_stands.
      at_name-done (Stays S dir name) S (rename_to S cred to d nm) d nm (λ number inode led there.
      in_parent-done (Stays S dir name) S EBUSY (rename_as S cred to d nm number inode) to (λ to_dir to_name to_place stands.
      let names : List (List ℕ) = components to in
      let target : Option ℕ = named S to_dir to_name in
      let T : State = renamed S d nm to_dir to_name number in
      let becomes : Attempt = unless_too_many_links T number in
      let empties : Attempt = cond (passes (λ n. not (is_empty S n)) target) (Refuse ENOTEMPTY) becomes in
      let replaces : Attempt = cond (passes (λ n. not (may_remove S cred to_dir n)) target) (Refuse EPERM) empties in
      let moves : Attempt = cond (not (may_remove S cred d number)) (Refuse EPERM) replaces in
      let file_too : Attempt = cond (not inode.dir && passes (λ n. is_directory S n) target) (Refuse EISDIR) moves in
      let dir_too : Attempt = cond (inode.dir && passes (λ n. not (is_directory S n)) target) (Refuse ENOTDIR) file_too in
      let apart_dir : Attempt = cond (inode.dir && meets S names number) (Refuse EINVAL) dir_too in
      pick (Stays S dir name) S (passes (λ n. n == number) target) (Answer (Done number no_change)) apart_dir (λ at n change is. refl) (λ other.
      unless_refused (Stays S dir name) S (inode.dir && meets S names number) EINVAL dir_too (λ outside.
      unless_refused (Stays S dir name) S (inode.dir && passes (λ n. not (is_directory S n)) target) ENOTDIR file_too (λ a.
      unless_refused (Stays S dir name) S (not inode.dir && passes (λ n. is_directory S n) target) EISDIR moves (λ b.
      unless_refused (Stays S dir name) S (not (may_remove S cred d number)) EPERM replaces (λ may.
      unless_refused (Stays S dir name) S (passes (λ n. not (may_remove S cred to_dir n)) target) EPERM empties (λ may_too.
      unless_refused (Stays S dir name) S (passes (λ n. not (is_empty S n)) target) ENOTEMPTY becomes (λ empty.
      few-stays T number (stays-renamed S dir name lawful.parts from to d nm number to_dir to_name apart apart_too place to_place led)))))))))))

  -- whatever is called without names leaves them
  quota-stays : (o : Option Holder) → OnDone (Stays S dir name) S (quota_from S o)
  quota-stays None = tt
  quota-stays (Some h) = λ n change is. refl

  write-stays : (path : List ℕ) (off : ℕ) (bytes : List ℕ) → OnDone (Stays S dir name) S (attempt_of S cred (Write path off bytes))
  write-stays path off bytes =
      at_path-done (Stays S dir name) S (write_into S cred off bytes) path (λ number inode leads there.
      let becomes : Attempt = Becomes (with_file S number inode (after_write inode.file off bytes)) number in
      let few : Attempt = cond (nat_lt S.file_limit (off + length bytes)) (Refuse EFBIG) becomes in
      let some : Attempt = cond (length bytes == 0) (Answer (Done number no_change)) few in
      unless_refused (Stays S dir name) S inode.dir EISDIR (cond (not (may_write cred inode)) (Refuse EACCES) some) (λ file.
      unless_refused (Stays S dir name) S (not (may_write cred inode)) EACCES some (λ may.
      pick (Stays S dir name) S (length bytes == 0) (Answer (Done number no_change)) few (λ none n change is. refl) (λ more.
      unless_refused (Stays S dir name) S (nat_lt S.file_limit (off + length bytes)) EFBIG becomes (λ below. refl)))))

  truncate-stays : (path : List ℕ) (size : ℕ) → OnDone (Stays S dir name) S (attempt_of S cred (Truncate path size))
  truncate-stays path size =
      at_path-done (Stays S dir name) S (truncate_at S cred size) path (λ number inode leads there.
      let becomes : Attempt = Becomes (with_file S number inode (after_truncate inode.file size)) number in
      let few : Attempt = cond (nat_lt S.file_limit size) (Refuse EFBIG) becomes in
      unless_refused (Stays S dir name) S inode.dir EISDIR (cond (not (may_write cred inode)) (Refuse EACCES) few) (λ file.
      unless_refused (Stays S dir name) S (not (may_write cred inode)) EACCES few (λ may.
      unless_refused (Stays S dir name) S (nat_lt S.file_limit size) EFBIG becomes (λ below. refl))))

  attempt_of-stays : (call : Call) → All (Apart S dir name) (changed_paths call) → OnDone (Stays S dir name) S (attempt_of S cred call)
  attempt_of-stays (Create path) apart =
      in_parent-done (Stays S dir name) S EEXIST (create_as S cred) path (λ d nm place stands.
      unless_refused (Stays S dir name) S (is_some (named S d nm)) EEXIST (Becomes (created S (new_file (owners_by S cred d)) d nm) S.next) (λ free.
      stays-made S dir name lawful.parts (new_file (owners_by S cred d)) path d nm (All-head (Apart S dir name) path [] apart) place free))
  attempt_of-stays (Mkdir path) apart =
      in_parent-done (Stays S dir name) S EEXIST (mkdir_as S cred) path (λ d nm place stands.
      let T : State = created S (new_directory (owners_by S cred d)) d nm in
      unless_refused (Stays S dir name) S (is_some (named S d nm)) EEXIST (unless_too_many_links T S.next) (λ free.
      few-stays T S.next
      (stays-made S dir name lawful.parts (new_directory (owners_by S cred d)) path d nm (All-head (Apart S dir name) path [] apart) place free)))
  attempt_of-stays (Write path off bytes) apart = write-stays path off bytes
  attempt_of-stays (Truncate path size) apart = truncate-stays path size
  attempt_of-stays (Read path off len) apart =
      at_path-done (Stays S dir name) S (read_from off len) path (λ number inode leads there.
      unless_refused (Stays S dir name) S inode.dir EISDIR (Answer (Bytes (read_at inode.file off len))) (λ file n change is. refl))
  attempt_of-stays (AskStat path) apart = at_path-done (Stays S dir name) S (stat_at S) path (λ number inode leads there n change is. refl)
  attempt_of-stays (Link from to) apart = link-stays from to (All-head (Apart S dir name) to [] apart)
  attempt_of-stays (Unlink path) apart = unlink-stays path (All-head (Apart S dir name) path [] apart)
  attempt_of-stays (Rmdir path) apart = rmdir-stays path (All-head (Apart S dir name) path [] apart)
  attempt_of-stays (Rename from to) apart =
      rename-stays from to (All-head (Apart S dir name) from (to ∷ []) apart)
      (All-head (Apart S dir name) to [] (All-tail (Apart S dir name) from (to ∷ []) apart))
  attempt_of-stays (Chown path uid gid project) apart =
      at_path-done (Stays S dir name) S (chown_at S cred uid gid project) path (λ number inode leads there.
      unless_refused (Stays S dir name) S (not (may_give cred inode (renewed uid gid project inode.owners))) EPERM
      (Becomes (with_inode S number (with_owners inode (renewed uid gid project inode.owners))) number) (λ may. refl))
  attempt_of-stays (SetQuota kind id limits) apart =
      let becomes : Attempt = Becomes (with_limits_of S kind id limits) 0 in
      unless_refused (Stays S dir name) S (not (is_superuser cred)) EPERM (cond (not (is_declared S kind id)) (Refuse ESRCH) becomes) (λ may.
      unless_refused (Stays S dir name) S (not (is_declared S kind id)) ESRCH becomes (λ known. refl))
  attempt_of-stays (SetGrace graces) apart =
      unless_refused (Stays S dir name) S (not (is_superuser cred)) EPERM (Becomes (record S { graces = graces }) 0) (λ may. refl)
  attempt_of-stays (AskQuota kind id) apart =
      unless_refused (Stays S dir name) S (not (is_superuser cred || is_own cred kind id)) EPERM (quota_from S (find (is_holder kind id) S.holders))
      (λ may. quota-stays (find (is_holder kind id) S.holders))

  unless-stays : (o : Option Refusal) (a : Attempt) → OnDone (Stays S dir name) S a → OnDone (Stays S dir name) S (unless o a)
  unless-stays None a stays = stays
  unless-stays (Some r) a stays = tt

  settled-stays : (T : State) (number moment : ℕ) (o : Option Refusal) → Stays S dir name number T → Stays S dir name number (settled S T number moment o).0
  settled-stays T number moment (Some r) stays = refl
  settled-stays T number moment None stays = stays

  settle-stays : (moment : ℕ) (a : Attempt) → OnDone (Stays S dir name) S a → named (settle S cred moment a).0 dir name ≡ named S dir name
  settle-stays moment (Refuse r) stays = refl
  settle-stays moment (Answer reply) stays = refl
  settle-stays moment (Becomes T number) stays = settled-stays T number moment (refusal_between S T cred moment) stays

pub other_names_stay : OtherNamesStay
other_names_stay S cred moment call dir name lawful apart =
    settle-stays S cred lawful dir name moment (attempt S cred moment call)
    (unless-stays S cred lawful dir name (refusal_of_arguments S cred moment call) (attempt_of S cred call)
    (attempt_of-stays S cred lawful dir name call apart))
