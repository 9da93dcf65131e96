-- A step that is done has done what its call is named for.
use Rattle.std.proofs.Common.{◌≡◌, ℕ, List, Option, Some, None, subst, ◌∙◌}
use Rattle.qplain.specs.declared.call.Call.{Call}
use Rattle.qplain.specs.declared.call.Call.TheVariants.{Create, Mkdir, Write, Truncate, Read, Stat as AskStat, Link, Unlink, Rmdir, Rename, Chown, SetQuota, SetGrace, Quota as AskQuota}
use Rattle.qplain.specs.declared.change.Change.{Change}
use Rattle.qplain.specs.declared.refusal.Refusal.{Refusal}
use Rattle.qplain.specs.declared.reply.Reply.TheVariants.{Done}
use Rattle.qplain.specs.Caller.{Caller}
use Rattle.qplain.specs.State.{State}
use Rattle.qplain.specs.Walk.{components}
use Rattle.qplain.specs.Decision.{ends_after, refusal_between}
use Rattle.qplain.specs.Calls.{attempt, attempt_of, refusal_of_arguments, unless}
use Rattle.qplain.specs.Attempt.{Attempt, Refuse, Answer, Becomes}
use Rattle.qplain.specs.Step.{settle, settled}
use Rattle.qplain_laws.specs.Done.{DoneIsDone, HasDone, LeadsTo}
use Rattle.qplain_laws.specs.Laws.{IsLawful}
use Rattle.qplain_laws.proofs.Doing.{OnDone, at_path-done, walk-ends}
use Rattle.qplain.specs.Files.{stat_at}
use Rattle.qplain_laws.proofs.Making.{ask_quota-done, chown-done, create-done, mkdir-done, read-done, set_grace-done, set_quota-done, truncate-done, write-done}
use Rattle.qplain_laws.proofs.Unnaming.{link-done, rename-done, rmdir-done, unlink-done}
use Rattle.qplain_laws.proofs.Setting.{limits-ends}

-- ---- call by call

-- what holds of each call that is done
attempt_of-done : (S : State) (cred : Caller) → IsLawful S → (call : Call) → OnDone (HasDone cred S call) S (attempt_of S cred call)
attempt_of-done S cred lawful (Create path) = create-done S cred lawful path
attempt_of-done S cred lawful (Mkdir path) = mkdir-done S cred lawful path
attempt_of-done S cred lawful (Write path off bytes) = write-done S cred lawful path off bytes
attempt_of-done S cred lawful (Truncate path size) = truncate-done S cred lawful path size
attempt_of-done S cred lawful (Read path off len) = read-done S cred lawful path off len
attempt_of-done S cred lawful (AskStat path) = at_path-done (HasDone cred S (AskStat path)) S (stat_at S) path (λ number inode leads there n change is. cc)
attempt_of-done S cred lawful (Link from to) = link-done S cred lawful from to
attempt_of-done S cred lawful (Unlink path) = unlink-done S cred lawful path
attempt_of-done S cred lawful (Rmdir path) = rmdir-done S cred lawful path
attempt_of-done S cred lawful (Rename from to) = rename-done S cred lawful from to
attempt_of-done S cred lawful (Chown path uid gid project) = chown-done S cred lawful path uid gid project
attempt_of-done S cred lawful (SetQuota kind id limits) = set_quota-done S cred lawful kind id limits
attempt_of-done S cred lawful (SetGrace graces) = set_grace-done S cred lawful graces
attempt_of-done S cred lawful (AskQuota kind id) = ask_quota-done S cred lawful kind id

-- ---- with the ends that then stand

leads-ends : (T : State) (moment : ℕ) (path : List ℕ) (number : ℕ) → LeadsTo T path number → LeadsTo (ends_after T moment) path number
leads-ends T moment path number leads = walk-ends T moment (components path) ∙ leads

-- what was done is done with them too
ends-done : (S T : State) (cred : Caller) (moment number : ℕ) (call : Call) → HasDone cred S call number T → HasDone cred S call number (ends_after T moment)
ends-done S T cred moment number (Create path) has = (leads-ends T moment path number has.0, has.1, has.2, has.3)
ends-done S T cred moment number (Mkdir path) has = (leads-ends T moment path number has.0, has.1, has.2, has.3)
ends-done S T cred moment number (Write path off bytes) has = has
ends-done S T cred moment number (Truncate path size) has = has
ends-done S T cred moment number (Read path off len) has = has
ends-done S T cred moment number (AskStat path) has = has
ends-done S T cred moment number (Link from to) has = (has.0, leads-ends T moment from number has.1, leads-ends T moment to number has.2)
ends-done S T cred moment number (Unlink path) has = (has.0, walk-ends T moment (components path) ∙ has.1)
ends-done S T cred moment number (Rmdir path) has = (has.0, walk-ends T moment (components path) ∙ has.1)
ends-done S T cred moment number (Rename from to) has = (has.0, leads-ends T moment to number has.1, has.2)
ends-done S T cred moment number (Chown path uid gid project) has = has
ends-done S T cred moment number (SetQuota kind id limits) has =
    limits-ends T moment kind id ∙ has
ends-done S T cred moment number (SetGrace graces) has = has
ends-done S T cred moment number (AskQuota kind id) has = has

-- ---- the step

module _ (S : State) (cred : Caller) (moment : ℕ) (call : Call) (number : ℕ) (change : Change) where
  settled-done : (T : State) (n : ℕ) (o : Option Refusal) → HasDone cred S call n T → (settled S T n moment o).1 ≡ Done number change
      → HasDone cred S call number (settled S T n moment o).0
  settled-done T n (Some r) has is = cc
  settled-done T n None has is =
      let same : n ≡ number = cc in
      subst (λ m. HasDone cred S call m (ends_after T moment)) same (ends-done S T cred moment n call has)

  settle-done : (a : Attempt) → OnDone (HasDone cred S call) S a → (settle S cred moment a).1 ≡ Done number change
      → HasDone cred S call number (settle S cred moment a).0
  settle-done (Refuse r) has is = cc
  settle-done (Answer reply) has is = has number change is
  settle-done (Becomes T n) has is = settled-done T n (refusal_between S T cred moment) has is

  unless-done : (o : Option Refusal) (a : Attempt) → OnDone (HasDone cred S call) S a → OnDone (HasDone cred S call) S (unless o a)
  unless-done None a has = has
  unless-done (Some r) a has = tt

pub done_is_done : DoneIsDone
done_is_done S cred moment call number change lawful is =
    settle-done S cred moment call number change (attempt S cred moment call)
    (unless-done S cred moment call number change (refusal_of_arguments S cred moment call) (attempt_of S cred call) (attempt_of-done S cred lawful call)) is
