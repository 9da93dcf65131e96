-- What a worker was answered, where the lines and the replies of all its calls stand in a journal alone.
use Rattle.std.specs.Prelude.{ℕ, ◌-◌, ◌<◌, ◌≤◌, List, [], length, map, All, slice_get, Option, Some, None, Result, Ok, Err}
use Rattle.qrules.specs.declared.kind.Kind.TheVariants.{User}
use Rattle.qplain.specs.declared.call.Call.TheVariants.{Quota}
use Rattle.qplain.specs.declared.call_fault.CallFault.{CallFault}
use Rattle.qplain.specs.declared.call_fault.CallFault.TheVariants.{OutOfMemory}
use Rattle.qplain.specs.declared.entry.Entry.{Entry}
use Rattle.qplain.specs.declared.line.Line.{Line}
use Rattle.qplain.specs.declared.receipt.Receipt.{Receipt}
use Rattle.qplain.specs.declared.transcript.Transcript.{Transcript}
use Rattle.qrun_replay.specs.declared.answered.Answered.{Answered}
use Rattle.qrun_replay.specs.declared.failed_line.FailedLine.{FailedLine}

-- the line of an entry
abbrev pub line_of_entry : Entry → Line
line_of_entry e = record { cred = e.cred; moment = e.moment; call = e.call }

-- the line of the entry that stands there; where none does, which is so of no transcript, one that changes nothing
abbrev pub line_at : Option Entry → Line
line_at (Some e) = line_of_entry e
line_at None = record { cred = record { uid = 0; gid = 0; more = [] }; moment = 0; call = Quota User 0 }

-- the line that a journal has at a place, from 1, or that failed
abbrev pub line_in : List Entry → Result ℕ FailedLine → Line
line_in journal (Ok place) = line_at (slice_get journal (place - 1))
line_in journal (Err failed) = failed.line

-- the answer with the reply of the entry that stands there; where none does, which is so of no transcript, a fault
abbrev pub answer_at : ℕ → Option Entry → Result Receipt CallFault
answer_at place (Some e) = Ok (record { place = place; reply = e.reply })
answer_at place None = Err OutOfMemory

-- the answer that a journal has at a place, from 1, or the fault
abbrev pub answer_in : List Entry → Result ℕ FailedLine → Result Receipt CallFault
answer_in journal (Ok place) = answer_at place (slice_get journal (place - 1))
answer_in journal (Err failed) = Err failed.fault

-- the journal has an entry at this place
abbrev pub HoldsPlace : List Entry → Result ℕ FailedLine → Type 0
HoldsPlace journal (Ok place) = (0 < place) × (place ≤ length journal)
HoldsPlace journal (Err failed) = Unit {0}

-- the journal has an entry at each place
abbrev pub HoldsPlaces : List Entry → Answered → Type 0
HoldsPlaces journal a = All (HoldsPlace journal) a.places.stands

-- a worker's transcript, with the lines and the replies that the journal has, and the lines that failed
abbrev pub transcript_from : List Entry → Answered → Transcript
transcript_from journal a = record {
  worker = a.worker;
  lines = map (line_in journal) a.places.stands;
  answers = map (answer_in journal) a.places.stands;
}
