-- What a line of a script does to a session, and how it is answered.
use Rattle.std.specs.Prelude.{◌≡◌, ℕ, Bool, false, ◌==◌, if◌then◌else◌, List, [], ◌∷◌, ◌++◌, length, codes}
use Rattle.std.specs.Prelude.{Option, Some, None, Result, Ok, Err}
use Rattle.qplain.specs.declared.bounds.TheConstants.{MAX_ENTRIES}
use Rattle.qplain.specs.declared.line.Line.{Line}
use Rattle.qtext.specs.declared.read_fault.ReadFault.{ReadFault}
use Rattle.qtext.specs.declared.read_fault.ReadFault.TheVariants as faults
use Rattle.qtext.specs.declared.text_fault.TextFault.{TextFault}
use Rattle.qtext_read.specs.Replies.{reply_text}
use Rattle.qsession.specs.declared.fault.Fault.{Fault}
use Rattle.qsession.specs.declared.fault.Fault.TheVariants as fault
use Rattle.qsession.specs.Holdings.{Holding, KeptJournal}
use Rattle.qsession.specs.Steps.{holding_after, reply_to}

-- the line of a script that has no other
abbrev pub only_line : Result (List Line) TextFault → Option Line
only_line (Ok (line ∷ [])) = Some line
only_line script = None

-- the fault is that the text does not say one line, unless memory ran out
abbrev pub FailsOne : ReadFault → Result (List Line) TextFault → Type 0
FailsOne faults.Memory script = Unit {0}
FailsOne (faults.Fault kind) script = only_line script ≡ None

-- what was answered is the one line that the text says, unless memory ran out
abbrev pub ReadsOne : Result Line ReadFault → Result (List Line) TextFault → Type 0
ReadsOne (Ok line) script = script ≡ Ok (line ∷ [])
ReadsOne (Err fault) script = FailsOne fault script

-- a journal is kept, and has all the entries that it may have
abbrev pub is_full : Option KeptJournal → Bool
is_full None = false
is_full (Some journal) = length journal.entries == MAX_ENTRIES

-- the reply to a line's call as a line, or why the call is not made: there is no such line, or the journal is full
abbrev pub line_answer : Holding → Option Line → Result (List ℕ) Fault
line_answer h None = Err fault.Line
line_answer h (Some line) =
    if is_full h.journal then Err fault.JournalFull else Ok (reply_text (reply_to h line) ++ codes "\n")

-- so it is of a session; of a closed one none is made
abbrev pub session_answer : Option Holding → Result (List Line) TextFault → Result (List ℕ) Fault
session_answer None script = Err fault.Closed
session_answer (Some h) script = line_answer h (only_line script)

-- the session is open, the script is one line, and it holds what that line's call leaves
abbrev pub MakesCall : Option Holding → Option Holding → Option Line → Type 0
MakesCall (Some old) new (Some line) = new ≡ Some (holding_after old line)
MakesCall (Some old) new None = ⊥
MakesCall None new line = ⊥
