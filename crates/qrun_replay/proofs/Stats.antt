-- What the plain machine answers in a lawful state has a lawful stat: a directory has no bytes and no blocks.
use Rattle.std.proofs.Common.{◌≡◌, ℕ, List, [], ◌∷◌, length, not, ◌||◌, Bool, true, false, cond, All, Option, Some, None, Result, Ok, Err, ap, refl}
use Rattle.std.proofs.lemmas.List.Elements.{All-nil, All-cons}
use Rattle.std.specs.List.{find}
use Rattle.qplain.specs.declared.call.Call.{Call}
use Rattle.qplain.specs.declared.call.Call.TheVariants.{Create, Mkdir, Write, Truncate, Read, Stat, Link, Unlink, Rmdir, Rename, Chown, SetQuota, SetGrace, Quota}
use Rattle.qplain.specs.declared.entry.Entry.{Entry}
use Rattle.qplain.specs.declared.refusal.Refusal.{Refusal}
use Rattle.qplain.specs.declared.refusal.Refusal.TheVariants.{EBUSY, EEXIST, EISDIR, ENOENT, EPERM, ESRCH}
use Rattle.qplain.specs.declared.reply.Reply.{Reply}
use Rattle.qplain.specs.State.{Holder, Inode, State, inode_at, named}
use Rattle.qplain.specs.Caller.{Caller, is_superuser}
use Rattle.qplain.specs.Walk.{components, last_name, led_to, parent, walk}
use Rattle.qplain.specs.Attempt.{Attempt, Refuse, Answer, Becomes, at_inode, at_name, at_path, at_reached, in_parent, in_reached, under}
use Rattle.qplain.specs.Calls.{attempt, attempt_of, refusal_of_arguments, unless}
use Rattle.qplain.specs.Known.{is_holder}
use Rattle.qplain.specs.Decision.{refusal_between}
use Rattle.qplain.specs.Files.{read_from, stat_at, truncate_at, write_into}
use Rattle.qplain.specs.Names.{create_as, link_as, link_to, mkdir_as, rmdir_as, rmdir_at, unlink_as, unlink_at}
use Rattle.qplain.specs.Owners.{chown_at}
use Rattle.qplain.specs.Quotas.{quota_from}
use Rattle.qplain.specs.Rights.{is_own}
use Rattle.qplain.specs.Renames.{rename_as, rename_from, rename_over, rename_to}
use Rattle.qplain.specs.Journal.{IsLegal, played}
use Rattle.qplain.specs.Step.{settle, settled, step}
use Rattle.qplain_laws.specs.Laws.{IsLawful, IsSound}
use Rattle.qplain_laws.proofs.Fitting.{sound-there}
use Rattle.qplain_laws.proofs.Lawful.{steps_stay_lawful}
use Rattle.qplain.specs.Held.{HasLawfulStat}

-- where the attempt comes to an answer, that has a lawful stat
abbrev HasFairAnswer : Attempt → Type 0
HasFairAnswer (Refuse r) = Unit {0}
HasFairAnswer (Answer reply) = HasLawfulStat reply
HasFairAnswer (Becomes S number) = Unit {0}

-- the same, under a name that a search does not look into
record IsFair (a : Attempt) : Type 0 where
  answer : HasFairAnswer a

refused : (r : Refusal) → IsFair (Refuse r)
refused r = record { answer = tt }

answered : (reply : Reply) → HasLawfulStat reply → IsFair (Answer reply)
answered reply lawful = record { answer = lawful }

becomes : (S : State) (number : ℕ) → IsFair (Becomes S number)
becomes S number = record { answer = tt }

-- of two fair attempts, either
either : (b : Bool) (x y : Attempt) → IsFair x → IsFair y → IsFair (cond b x y)
either true x y fair other = fair
either false x y fair other = other

fair-unless : (o : Option Refusal) (a : Attempt) → IsFair a → IsFair (unless o a)
fair-unless None a fair = fair
fair-unless (Some r) a fair = refused r

module _ (S : State) where
  fair-at_inode : (try : ℕ → Inode → Attempt) (number : ℕ) (o : Option Inode)
      → ((inode : Inode) → o ≡ Some inode → IsFair (try number inode)) → IsFair (at_inode try number o)
  fair-at_inode try number None each = refused ENOENT
  fair-at_inode try number (Some inode) each = each inode refl

  fair-at_reached : (try : ℕ → Inode → Attempt) (r : Result ℕ Refusal)
      → ((number : ℕ) (inode : Inode) → inode_at S number ≡ Some inode → IsFair (try number inode)) → IsFair (at_reached S try r)
  fair-at_reached try (Err e) each = refused e
  fair-at_reached try (Ok number) each = fair-at_inode try number (inode_at S number) (each number)

  -- what is fair at each inode that is there is fair at a path's
  fair-at_path : (try : ℕ → Inode → Attempt) (path : List ℕ)
      → ((number : ℕ) (inode : Inode) → inode_at S number ≡ Some inode → IsFair (try number inode)) → IsFair (at_path S try path)
  fair-at_path try path each = fair-at_reached try (walk S (components path)) each

  -- and at a name's
  fair-at_name : (try : ℕ → Inode → Attempt) (dir : ℕ) (name : List ℕ)
      → ((number : ℕ) (inode : Inode) → inode_at S number ≡ Some inode → IsFair (try number inode)) → IsFair (at_name S try dir name)
  fair-at_name try dir name each = fair-at_reached try (led_to (named S dir name)) each

  fair-in_reached : (try : ℕ → List ℕ → Attempt) (name : List ℕ) (r : Result ℕ Refusal)
      → ((dir : ℕ) → IsFair (try dir name)) → IsFair (in_reached try name r)
  fair-in_reached try name (Err e) each = refused e
  fair-in_reached try name (Ok dir) each = each dir

  fair-under : (of_root : Refusal) (try : ℕ → List ℕ → Attempt) (names : List (List ℕ)) (o : Option (List ℕ))
      → ((dir : ℕ) (name : List ℕ) → IsFair (try dir name)) → IsFair (under S of_root try names o)
  fair-under of_root try names None each = refused of_root
  fair-under of_root try names (Some name) each = fair-in_reached try name (parent S names) (λ dir. each dir name)

  -- what is fair at each name in a directory is fair in a path's parent
  fair-in_parent : (of_root : Refusal) (try : ℕ → List ℕ → Attempt) (path : List ℕ)
      → ((dir : ℕ) (name : List ℕ) → IsFair (try dir name)) → IsFair (in_parent S of_root try path)
  fair-in_parent of_root try path each = fair-under of_root try (components path) (last_name (components path)) each

module _ (S : State) (cred : Caller) where
  fair-create : (dir : ℕ) (name : List ℕ) → IsFair (create_as S cred dir name)
  fair-create dir name = search (either, refused, becomes)

  fair-mkdir : (dir : ℕ) (name : List ℕ) → IsFair (mkdir_as S cred dir name)
  fair-mkdir dir name = search (either, refused, becomes)

  fair-write : (off : ℕ) (bytes : List ℕ) (number : ℕ) (inode : Inode) → IsFair (write_into S cred off bytes number inode)
  fair-write off bytes number inode = search (either, refused, answered, becomes)

  fair-truncate : (size number : ℕ) (inode : Inode) → IsFair (truncate_at S cred size number inode)
  fair-truncate size number inode = search (either, refused, becomes)

  fair-read : (off len number : ℕ) (inode : Inode) → IsFair (read_from off len number inode)
  fair-read off len number inode = search (either, refused, answered)

  -- a stat of a directory, which holds nothing in a lawful state
  fair-stat : (number : ℕ) (inode : Inode) → IsLawful S → inode_at S number ≡ Some inode → IsFair (stat_at S number inode)
  fair-stat number inode lawful there =
      let sound : IsSound inode = sound-there S number inode lawful.parts there in
      answered _ (λ dir. (ap (λ f. length f.bytes) (sound.holds_nothing dir), ap (λ f. length f.allocated) (sound.holds_nothing dir)))

  fair-link : (number : ℕ) (inode : Inode) (dir : ℕ) (name : List ℕ) → IsFair (link_as S number inode dir name)
  fair-link number inode dir name = search (either, refused, becomes)

  fair-unlink : (dir : ℕ) (name : List ℕ) (number : ℕ) (inode : Inode) → IsFair (unlink_at S cred dir name number inode)
  fair-unlink dir name number inode = search (either, refused, becomes)

  fair-rmdir : (dir : ℕ) (name : List ℕ) (number : ℕ) (inode : Inode) → IsFair (rmdir_at S cred dir name number inode)
  fair-rmdir dir name number inode = search (either, refused, becomes)

  fair-rename : (to : List (List ℕ)) (dir : ℕ) (name : List ℕ) (number : ℕ) (inode : Inode) (to_dir : ℕ) (to_name : List ℕ) (target : Option ℕ)
      → IsFair (rename_over S cred to dir name number inode to_dir to_name target)
  fair-rename to dir name number inode to_dir to_name target = search (either, refused, answered, becomes) depth 12

  fair-chown : (uid gid project : Option ℕ) (number : ℕ) (inode : Inode) → IsFair (chown_at S cred uid gid project number inode)
  fair-chown uid gid project number inode = search (either, refused, becomes)

  fair-quota_from : (o : Option Holder) → IsFair (quota_from S o)
  fair-quota_from None = refused ESRCH
  fair-quota_from (Some h) = answered _ tt

  fair-attempt_of : (call : Call) → IsLawful S → IsFair (attempt_of S cred call)
  fair-attempt_of (Create path) lawful = fair-in_parent S EEXIST (create_as S cred) path fair-create
  fair-attempt_of (Mkdir path) lawful = fair-in_parent S EEXIST (mkdir_as S cred) path fair-mkdir
  fair-attempt_of (Write path off bytes) lawful =
      fair-at_path S (write_into S cred off bytes) path (λ number inode there. fair-write off bytes number inode)
  fair-attempt_of (Truncate path size) lawful =
      fair-at_path S (truncate_at S cred size) path (λ number inode there. fair-truncate size number inode)
  fair-attempt_of (Read path off len) lawful = fair-at_path S (read_from off len) path (λ number inode there. fair-read off len number inode)
  fair-attempt_of (Stat path) lawful = fair-at_path S (stat_at S) path (λ number inode there. fair-stat number inode lawful there)
  fair-attempt_of (Link from to) lawful =
      fair-at_path S (link_to S to) from (λ number inode there. fair-in_parent S EEXIST (link_as S number inode) to (fair-link number inode))
  fair-attempt_of (Unlink path) lawful =
      fair-in_parent S EISDIR (unlink_as S cred) path (λ dir name.
      fair-at_name S (unlink_at S cred dir name) dir name (λ number inode there. fair-unlink dir name number inode))
  fair-attempt_of (Rmdir path) lawful =
      fair-in_parent S EBUSY (rmdir_as S cred) path (λ dir name.
      fair-at_name S (rmdir_at S cred dir name) dir name (λ number inode there. fair-rmdir dir name number inode))
  fair-attempt_of (Rename from to) lawful =
      fair-in_parent S EBUSY (rename_from S cred to) from (λ dir name.
      fair-at_name S (rename_to S cred to dir name) dir name (λ number inode there.
      fair-in_parent S EBUSY (rename_as S cred to dir name number inode) to (λ to_dir to_name.
      fair-rename (components to) dir name number inode to_dir to_name (named S to_dir to_name))))
  fair-attempt_of (Chown path uid gid project) lawful =
      fair-at_path S (chown_at S cred uid gid project) path (λ number inode there. fair-chown uid gid project number inode)
  fair-attempt_of (SetQuota kind id limits) lawful = search (either, refused, becomes)
  fair-attempt_of (SetGrace graces) lawful = search (either, refused, becomes)
  fair-attempt_of (Quota kind id) lawful =
      either (not (is_superuser cred || is_own cred kind id)) (Refuse EPERM) (quota_from S (find (is_holder kind id) S.holders))
      (refused EPERM) (fair-quota_from (find (is_holder kind id) S.holders))

settled-fair : (old new : State) (number moment : ℕ) (o : Option Refusal) → HasLawfulStat (settled old new number moment o).1
settled-fair old new number moment (Some r) = tt
settled-fair old new number moment None = tt

settle-fair : (S : State) (cred : Caller) (moment : ℕ) (a : Attempt) → IsFair a → HasLawfulStat (settle S cred moment a).1
settle-fair S cred moment (Refuse r) fair = tt
settle-fair S cred moment (Answer reply) fair = fair.answer
settle-fair S cred moment (Becomes new number) fair = settled-fair S new number moment (refusal_between S new cred moment)

-- what is answered in a lawful state
step-fair : (S : State) (cred : Caller) (moment : ℕ) (call : Call) → IsLawful S → HasLawfulStat (step S cred moment call).1
step-fair S cred moment call lawful =
    settle-fair S cred moment (attempt S cred moment call)
    (fair-unless (refusal_of_arguments S cred moment call) (attempt_of S cred call) (fair-attempt_of S cred call lawful))

-- what a legal journal tells from a lawful state on
pub legal-fair : (S : State) (journal : List Entry) → IsLawful S → IsLegal S journal → All (λ e. HasLawfulStat e.reply) journal
legal-fair S [] lawful legal = All-nil (λ e. HasLawfulStat e.reply)
legal-fair S (e ∷ rest) lawful legal =
    All-cons (λ e. HasLawfulStat e.reply) e rest
    (rw legal.0 (step-fair S e.cred e.moment e.call lawful))
    (legal-fair (played S e).0 rest (steps_stay_lawful S e.cred e.moment e.call lawful) legal.1)
