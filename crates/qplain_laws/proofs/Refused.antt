-- A refused call leaves the state.
use Rattle.std.proofs.Common.{◌≡◌, ℕ, Option, Some, None, refl}
use Rattle.qplain.specs.declared.refusal.Refusal.{Refusal}
use Rattle.qplain.specs.declared.reply.Reply.TheVariants.{Refused}
use Rattle.qplain.specs.Caller.{Caller}
use Rattle.qplain.specs.State.{State}
use Rattle.qplain.specs.Decision.{refusal_between}
use Rattle.qplain.specs.Attempt.{Attempt, Refuse, Answer, Becomes}
use Rattle.qplain.specs.Calls.{attempt}
use Rattle.qplain.specs.Step.{settle, settled}
use Rattle.qplain_laws.specs.Laws.{RefusalsChangeNothing}

settled_refused : (old new : State) (number moment : ℕ) (o : Option Refusal) (r : Refusal)
    → (settled old new number moment o).1 ≡ Refused r → (settled old new number moment o).0 ≡ old
settled_refused old new number moment (Some q) r h = refl
settled_refused old new number moment None r h = cc

-- an attempt that comes to a refusal leaves the state
settle_refused : (S : State) (cred : Caller) (moment : ℕ) (a : Attempt) (r : Refusal)
    → (settle S cred moment a).1 ≡ Refused r → (settle S cred moment a).0 ≡ S
settle_refused S cred moment (Refuse q) r h = refl
settle_refused S cred moment (Answer reply) r h = refl
settle_refused S cred moment (Becomes new number) r h =
    settled_refused S new number moment (refusal_between S new cred moment) r h

pub refusals_change_nothing : RefusalsChangeNothing
refusals_change_nothing S cred moment call r h = settle_refused S cred moment (attempt S cred moment call) r h
