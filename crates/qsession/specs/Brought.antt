-- What may be wrong with what is brought to a call.
use Rattle.std.specs.Prelude.{◌<◌, ℕ, List, All}
use Rattle.qplain.specs.declared.call.Call.{Call}
use Rattle.qplain.specs.declared.cred.TheConstants.{MAX_MORE_GROUPS}
use Rattle.qplain.specs.Calls.{paths_of}
use Rattle.qplain.specs.Paths.{ArePathBytes}
use Rattle.qsession.specs.declared.caller.Caller.{Caller as BroughtCaller}
use Rattle.qsession.specs.declared.fault.Fault.{Fault}
use Rattle.qsession.specs.declared.fault.Fault.TheVariants.{Memory, Path, Caller}

-- a path of the call has no byte, or one that may not stand in a path
abbrev pub HasBadPath : Call → Type 0
HasBadPath call = All ArePathBytes (paths_of call) → ⊥

-- the caller names more than 16 further groups
abbrev pub HasTooManyGroups : BroughtCaller → Type 0
HasTooManyGroups caller = MAX_MORE_GROUPS < caller.count

-- why a caller was not taken: memory was wanting, or it names too many groups
abbrev pub IsCauseOfCaller : BroughtCaller → Fault → Type 0
IsCauseOfCaller caller Memory = Unit {0}
IsCauseOfCaller caller Caller = HasTooManyGroups caller
IsCauseOfCaller caller fault = ⊥

-- why a path was not taken: memory was wanting, or its bytes are none of a path
abbrev pub IsCauseOfPath : List ℕ → Fault → Type 0
IsCauseOfPath bytes Memory = Unit {0}
IsCauseOfPath bytes Path = ArePathBytes bytes → ⊥
IsCauseOfPath bytes fault = ⊥
