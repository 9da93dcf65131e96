-- What a call of a session came to, as a caller of another language is told it.
use Rattle.std.specs.Prelude.{◌≡◌, ◌<◌, ◌≤◌, ◌⊎◌, ℕ, Option, Some, None, Result, Ok, Err, IsErr, IfOk, IfErr, OnErr}
use Rattle.qplain.specs.declared.call.Call.{Call}
use Rattle.qplain.specs.declared.line.Line.{Line}
use Rattle.qplain.specs.declared.reply.Reply.{Reply}
use Rattle.qsession.specs.declared.fault.Fault.{Fault}
use Rattle.qsession.specs.declared.caller.Caller.{Caller as BroughtCaller}
use Rattle.qsession.specs.declared.caller.Context.{Context}
use Rattle.qsession.specs.declared.fault.Fault.TheVariants.{Closed, Memory, Path, Caller, JournalFull, Kind}
use Rattle.qsession.specs.Brought.{HasBadPath, HasTooManyGroups}
use Rattle.qsession.specs.Codes.{FAULTS, reply_code}
use Rattle.qsession.specs.Faults.{fault_code}
use Rattle.qsession.specs.Holdings.{Holding}
use Rattle.qsession.specs.Requests.{line_by, line_in}
use Rattle.qsession.specs.Steps.{IsFull, IsStep, holding_after, reply_to}

-- the session is open, before and after, and the new holding and the reply are those of the line's call
abbrev pub IsStepOf : Option Holding → Option Holding → Line → Reply → Type 0
IsStepOf (Some old) (Some new) line reply = IsStep old new line reply
IsStepOf (Some old) None line reply = ⊥
IsStepOf None new line reply = ⊥

-- the session is open; it holds what the line's call leaves, and the number is that of its reply
abbrev pub IsToldStep : Option Holding → Option Holding → Line → ℕ → Type 0
IsToldStep None new line number = ⊥
IsToldStep (Some old) new line number =
    (new ≡ Some (holding_after old line)) × (number ≡ reply_code (reply_to old line))

-- what has to be so of a call that was not made for a fault: want of memory may come to any, and other faults to none
abbrev pub IsCause : Option Holding → BroughtCaller → Call → Fault → Type 0
IsCause held caller call Closed = held ≡ None
IsCause held caller call Memory = Unit {0}
IsCause held caller call Path = HasBadPath call
IsCause held caller call Caller = HasTooManyGroups caller
IsCause held caller call JournalFull = IsFull held
IsCause held caller call fault = ⊥

-- an answer that is no fault is the reply, and the call was made; a fault has its cause, and the session is as it was;
-- a full journal, a bad path and too many groups have a fault
pub record IsAnswered (old new : Option Holding) (context : Context) (call : Call)
    (answer : Result Reply Fault) : Type 0 where
  pub ok : IfOk answer (IsStepOf old new (line_in context call))
  pub err : OnErr answer (new ≡ old)
  pub cause : IfErr answer (IsCause old context.caller.now call)
  pub full : IsFull old → IsErr answer
  pub brought : HasTooManyGroups context.caller.now ⊎ HasBadPath call → IsErr answer

-- a number below 64 is that of the reply, and the call was made; at another it was not, the session is as it was, and
-- the number is that of a fault which has its cause; a full journal, a bad path and too many groups are such
pub record IsCalled (old new : Option Holding) (caller : BroughtCaller) (moment : ℕ) (call : Call)
    (number : ℕ) : Type 0 where
  pub told : number < FAULTS → IsToldStep old new (line_by caller moment call) number
  pub fault : FAULTS ≤ number → new ≡ old
  pub cause : FAULTS ≤ number → (fault : Fault) × (number ≡ fault_code fault) × IsCause old caller call fault
  pub full : IsFull old → FAULTS ≤ number
  pub path : HasBadPath call → FAULTS ≤ number
  pub groups : HasTooManyGroups caller → FAULTS ≤ number

-- so is the number of a call in its context
abbrev pub IsCalledIn : Option Holding → Option Holding → Context → Call → ℕ → Type 0
IsCalledIn old new context call number = IsCalled old new context.caller.now context.moment call number

-- the number of no kind is told so, and no call was made
abbrev pub IsToldNoKind : Option Holding → Option Holding → ℕ → Type 0
IsToldNoKind old new number = (number ≡ fault_code Kind) × (new ≡ old)

-- the session is open, and this is the reply to the line's call
abbrev pub IsReplyTo : Option Holding → Line → Reply → Type 0
IsReplyTo None line reply = ⊥
IsReplyTo (Some old) line reply = reply_to old line ≡ reply

-- the number that is told of an answer
abbrev pub code_of : Result Reply Fault → ℕ
code_of (Ok reply) = reply_code reply
code_of (Err fault) = fault_code fault
