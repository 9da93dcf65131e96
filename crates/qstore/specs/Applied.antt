-- What a call comes to that is carried out at once, and a read into a buffer.
use Rattle.std.specs.Prelude.{◌≡◌, ℕ, ◌≤◌, false, All, List, length, take, drop, Result, IfOk, IfErr, OnErr, OnOk}
use Rattle.std.specs.Result.{IsOk}
use Rattle.std.specs.declared.alloc.AllocError.{AllocError}
use Rattle.qplain.specs.declared.call.Call.{Call}
use Rattle.qplain.specs.declared.call.Call.TheVariants.{Read}
use Rattle.qplain.specs.declared.refusal.Refusal.{Refusal}
use Rattle.qplain.specs.declared.reply.Reply.{Reply}
use Rattle.qplain.specs.declared.reply.Reply.TheVariants.{Bytes, Refused}
use Rattle.qplain.specs.Caller.{Caller, is_superuser}
use Rattle.qplain.specs.State.{State}
use Rattle.qplain.specs.Step.{step}
use Rattle.qplain_laws.specs.Laws.{PassesNoLimit}
use Rattle.qstore.specs.Ready.{IsRefused}

-- the state and the reply are those of the plain machine's step; want of memory leaves the state, and comes after all
-- refusals; and nobody but the superuser raises a use past a hard limit, or past a soft one whose grace has ended
pub record IsApplied (old new : State) (cred : Caller) (moment : ℕ) (call : Call) (result : Result Reply AllocError)
    : Type 0 where
  pub ok : IfOk result (λ reply. (new, reply) ≡ step old cred moment call)
  pub err : OnErr result (new ≡ old)
  pub refused_first : IsRefused (step old cred moment call).1 → IsOk result
  pub limits : OnOk result (is_superuser cred ≡ false → All (PassesNoLimit old new moment) old.holders)

-- the bytes of a read of as many as a buffer has stand at its front, and what is behind them is as it was; a refusal
-- leaves all of it
pub record IsReadInto (S : State) (cred : Caller) (moment : ℕ) (path : List ℕ) (off : ℕ) (old new : List ℕ)
    (result : Result ℕ Refusal) : Type 0 where
  pub read : IfOk result (λ count. (S, Bytes (take count new)) ≡ step S cred moment (Read path off (length old)))
  pub count : IfOk result (λ count. count ≤ length old)
  pub behind : IfOk result (λ count. drop count new ≡ drop count old)
  pub refused : IfErr result (λ refusal. (S, Refused refusal) ≡ step S cred moment (Read path off (length old)))
  pub kept : OnErr result (new ≡ old)
