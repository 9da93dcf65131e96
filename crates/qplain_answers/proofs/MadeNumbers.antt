-- What is made has a number that was free.
use Rattle.std.proofs.Common.{◌≡◌, ℕ, true, List, Option, Some, None, is_some, ap, subst}
use Rattle.qplain.specs.declared.call.Call.{Call}
use Rattle.qplain.specs.declared.call.Call.TheVariants.{Create, Mkdir}
use Rattle.qplain.specs.declared.change.Change.{Change}
use Rattle.qplain.specs.declared.refusal.Refusal.{Refusal}
use Rattle.qplain.specs.declared.refusal.Refusal.TheVariants.{EEXIST, EMLINK}
use Rattle.qplain.specs.declared.reply.Reply.TheVariants.{Done}
use Rattle.qplain.specs.Caller.{Caller}
use Rattle.qplain.specs.State.{Inode, State, inode_at, named, new_directory, new_file}
use Rattle.qplain.specs.Use.{has_too_many_links}
use Rattle.qplain.specs.Decision.{refusal_between}
use Rattle.qplain.specs.Calls.{attempt, attempt_of, refusal_of_arguments, unless}
use Rattle.qplain.specs.Attempt.{Attempt, Refuse, Answer, Becomes}
use Rattle.qplain.specs.Names.{create_as, created, mkdir_as, owners_by, unless_too_many_links}
use Rattle.qplain.specs.Step.{settle, settled}
use Rattle.qplain_laws.specs.Laws.{IsLawful}
use Rattle.qplain_laws.proofs.Doing.{OnDone, in_parent-done, unless_refused}
use Rattle.qplain_laws.proofs.Linking.{inode_at-created-next}
use Rattle.qplain_laws.proofs.Tables.{absent-fresh}
use Rattle.qplain_answers.specs.Numbers.{IsNew, MadeNumbersAreFree, makes}

-- the number of what was made
abbrev IsMadeNew : State → ℕ → State → Type 0
IsMadeNew S number T = IsNew S T number

module _ (S : State) (cred : Caller) (lawful : IsLawful S) where
  made-new : (inode : Inode) (dir : ℕ) (name : List ℕ) → IsNew S (created S inode dir name) S.next
  made-new inode dir name =
      let none : inode_at S S.next ≡ None = absent-fresh S.inodes S.next lawful.parts.inodes.fresh in
      record { before = none; after = ap is_some (inode_at-created-next S inode dir name none) }

  -- of each attempt of a call that makes an inode
  attempt_of-new : (call : Call) → makes call ≡ true → OnDone (IsMadeNew S) S (attempt_of S cred call)
  attempt_of-new (Create path) is =
      in_parent-done (IsMadeNew S) S EEXIST (create_as S cred) path (λ dir name place stands.
      let inode : Inode = new_file (owners_by S cred dir) in
      unless_refused (IsMadeNew S) S (is_some (named S dir name)) EEXIST (Becomes (created S inode dir name) S.next)
      (λ free. made-new inode dir name))
  attempt_of-new (Mkdir path) is =
      in_parent-done (IsMadeNew S) S EEXIST (mkdir_as S cred) path (λ dir name place stands.
      let inode : Inode = new_directory (owners_by S cred dir) in
      let T : State = created S inode dir name in
      unless_refused (IsMadeNew S) S (is_some (named S dir name)) EEXIST (unless_too_many_links T S.next) (λ free.
      unless_refused (IsMadeNew S) S (has_too_many_links T) EMLINK (Becomes T S.next) (λ few. made-new inode dir name)))
  attempt_of-new call is = cc

module _ (S : State) (cred : Caller) (moment number : ℕ) (change : Change) where
  settled-new : (T : State) (n : ℕ) (o : Option Refusal) → IsNew S T n → (settled S T n moment o).1 ≡ Done number change
      → IsNew S (settled S T n moment o).0 number
  settled-new T n (Some r) new is = cc
  settled-new T n None new is =
      let same : n ≡ number = cc in
      record {
        before = subst (λ m. inode_at S m ≡ None) same new.before;
        after = subst (λ m. is_some (inode_at T m) ≡ true) same new.after;
      }

  settle-new : (a : Attempt) → OnDone (IsMadeNew S) S a → (settle S cred moment a).1 ≡ Done number change
      → IsNew S (settle S cred moment a).0 number
  settle-new (Refuse r) new is = cc
  settle-new (Answer reply) new is = new number change is
  settle-new (Becomes T n) new is = settled-new T n (refusal_between S T cred moment) new is

  unless-new : (o : Option Refusal) (a : Attempt) → OnDone (IsMadeNew S) S a → OnDone (IsMadeNew S) S (unless o a)
  unless-new None a new = new
  unless-new (Some r) a new = tt

pub made_numbers_are_free : MadeNumbersAreFree
made_numbers_are_free S cred moment call number change lawful is_made is =
    settle-new S cred moment number change (attempt S cred moment call)
    (unless-new S cred moment number change (refusal_of_arguments S cred moment call) (attempt_of S cred call)
    (attempt_of-new S cred lawful call is_made)) is
