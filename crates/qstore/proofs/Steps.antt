-- What holds of a store's state after a step.
use Rattle.std.proofs.Common.{◌≡◌, ℕ, sym, arith}
use Rattle.qplain.specs.declared.call.Call.{Call}
use Rattle.qplain.specs.declared.reply.Reply.{Reply}
use Rattle.qplain.specs.Caller.{Caller}
use Rattle.qplain.specs.State.{State}
use Rattle.qplain.specs.Step.{step}
use Rattle.qplain_laws.proofs.Settling.{IsLawful-from_step, KeepsSetup-from_step}
use Rattle.qstore.specs.Stored.{IsStorable}

-- a step of a storable state leaves a storable state
pub IsStorable-from_step : (S T : State) (cred : Caller) (moment : ℕ) (call : Call) (reply : Reply)
    → IsStorable S → (T, reply) ≡ step S cred moment call → IsStorable T
IsStorable-from_step S T cred moment call reply sound is = record {
  lawful = IsLawful-from_step S cred moment call T reply sound.lawful (sym is);
  file_bound =
      let same = (KeepsSetup-from_step S cred moment call T reply (sym is)).file_limit in
      let low = sound.file_bound in
      omega (arith, same, low);
}
