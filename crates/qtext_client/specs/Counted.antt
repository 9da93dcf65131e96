-- As what a service counts the lines that its clients are told.
use Rattle.std.specs.Prelude.{Bool, false, Option, Some, None, Ok, Err, is_ok}
use Rattle.qplain.specs.declared.call_fault.CallFault.TheVariants.{OutOfMemory}
use Rattle.qplain.specs.declared.reply.Reply.{Reply}
use Rattle.qplain.specs.declared.reply.Reply.TheVariants.{Refused as RefusedReply}
use Rattle.qtext_metrics.specs.declared.mishap.LineFault.{LineFault}
use Rattle.qtext_metrics.specs.declared.mishap.LineFault.TheVariants as fault
use Rattle.qtext_metrics.specs.declared.mishap.Mishap.{Mishap}
use Rattle.qtext_metrics.specs.declared.mishap.Mishap.TheVariants.{Refused, Failed, Faulty}
use Rattle.qtext_client.specs.declared.response.BadLine.{BadLine}
use Rattle.qtext_client.specs.declared.response.BadLine.TheVariants.{Text, Length, OtherCaller, Depth, Share}
use Rattle.qtext_client.specs.declared.response.Response.{Response}
use Rattle.qtext_client.specs.declared.response.Response.TheVariants.{Answer, Fault, NoMemory}

-- what is wrong with a line, whatever it is in its text
abbrev pub fault_of_line : BadLine → LineFault
fault_of_line (Text kind) = fault.Text
fault_of_line Length = fault.Length
fault_of_line OtherCaller = fault.OtherCaller
fault_of_line Depth = fault.Depth
fault_of_line Share = fault.Share

-- the refusal that a reply is, where it is one
abbrev pub refusal_in : Reply → Option Mishap
refusal_in (RefusedReply refusal) = Some (Refused refusal)
refusal_in reply = None

-- what a line came to that did nothing, where it did nothing
abbrev pub mishap_in : Response → Option Mishap
mishap_in (Answer (Ok receipt)) = refusal_in receipt.reply
mishap_in (Answer (Err failure)) = Some (Failed failure)
mishap_in (Fault bad) = Some (Faulty (fault_of_line bad))
mishap_in NoMemory = Some (Failed OutOfMemory)

-- the line was a call that was made, also one that was refused
abbrev pub is_call : Response → Bool
is_call (Answer answer) = is_ok answer
is_call (Fault bad) = false
is_call NoMemory = false
