-- The numbers of what is made.
use Rattle.std.specs.Prelude.{◌≡◌, ℕ, Bool, true, false, None, is_some}
use Rattle.qplain.specs.declared.call.Call.{Call}
use Rattle.qplain.specs.declared.call.Call.TheVariants.{Create, Mkdir}
use Rattle.qplain.specs.declared.change.Change.{Change}
use Rattle.qplain.specs.declared.reply.Reply.TheVariants.{Done}
use Rattle.qplain.specs.Caller.{Caller}
use Rattle.qplain.specs.State.{State, inode_at}
use Rattle.qplain.specs.Step.{step}
use Rattle.qplain_laws.specs.Laws.{IsLawful}

-- the call makes an inode: create or mkdir
abbrev pub makes : Call → Bool
makes (Create path) = true
makes (Mkdir path) = true
makes call = false

-- no inode stood under the number, and one does now
pub record IsNew (old new : State) (number : ℕ) : Type 0 where
  pub before : inode_at old number ≡ None
  pub after : is_some (inode_at new number) ≡ true

-- from a lawful state a create or a mkdir that is done is answered with a number that was free
abbrev pub MadeNumbersAreFree : Type 0
MadeNumbersAreFree =
    (S : State) (cred : Caller) (moment : ℕ) (call : Call) (number : ℕ) (change : Change) → IsLawful S
    → makes call ≡ true → (step S cred moment call).1 ≡ Done number change
    → IsNew S (step S cred moment call).0 number
