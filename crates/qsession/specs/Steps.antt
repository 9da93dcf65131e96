-- What a call makes of what is held: a step of the plain machine, which is journaled where a journal is kept.
use Rattle.std.specs.Prelude.{◌≡◌, [], ◌∷◌, ◌++◌, length, Option, Some, None}
use Rattle.qplain.specs.declared.bounds.TheConstants.{MAX_ENTRIES}
use Rattle.qplain.specs.declared.entry.Entry.{Entry}
use Rattle.qplain.specs.declared.line.Line.{Line}
use Rattle.qplain.specs.declared.reply.Reply.{Reply}
use Rattle.qplain.specs.State.{State}
use Rattle.qplain.specs.Journal.{entry_of}
use Rattle.qplain.specs.Step.{step}
use Rattle.qstore.specs.Ready.{IsReady, committed}
use Rattle.qsession.specs.declared.fault.Fault.{Fault}
use Rattle.qsession.specs.declared.fault.Fault.TheVariants.{Memory, JournalFull}
use Rattle.qsession.specs.declared.recorder.TheConstants.{WORKER}
use Rattle.qsession.specs.declared.kept.Kept.{Kept}
use Rattle.qsession.specs.declared.kept.Kept.TheVariants.{Plain, Journaled}
use Rattle.qsession.specs.Holdings.{Holding, KeptJournal, holding_of}
use Rattle.qsession.specs.Recorded.{CanRecord}

-- the state and the reply that the plain machine gives for a line
abbrev pub stepped : State → Line → State × Reply
stepped S line = step S line.cred line.moment line.call

-- a journal with the entry of one line more, where one is kept: its setup and its beginning stay
abbrev pub journal_with : Line → Reply → Option KeptJournal → Option KeptJournal
journal_with line reply None = None
journal_with line reply (Some j) = Some (record j { entries = j.entries ++ entry_of WORKER line reply ∷ [] })

-- what is held after the call of a line
abbrev pub holding_after : Holding → Line → Holding
holding_after h line = record {
  state = (stepped h.state line).0;
  journal = journal_with line (stepped h.state line).1 h.journal;
}

-- what the call of a line is answered
abbrev pub reply_to : Holding → Line → Reply
reply_to h line = (stepped h.state line).1

-- the new holding and the reply are those of the line's call
pub record IsStep (old new : Holding) (line : Line) (reply : Reply) : Type 0 where
  pub held : new ≡ holding_after old line
  pub reply_is : reply ≡ reply_to old line

-- the journal has all the entries that it may have
abbrev pub IsFullJournal : Option KeptJournal → Type 0
IsFullJournal None = ⊥
IsFullJournal (Some j) = length j.entries ≡ MAX_ENTRIES

-- there is a journal, and it is full
abbrev pub IsFull : Option Holding → Type 0
IsFull None = ⊥
IsFull (Some h) = IsFullJournal h.journal

-- why a call of what is held was not made: memory was wanting, or its journal is full
abbrev pub HasCause : Holding → Fault → Type 0
HasCause h Memory = Unit {0}
HasCause h JournalFull = IsFullJournal h.journal
HasCause h fault = ⊥

-- what is kept is as the call that is ready in it needs it
abbrev pub CanCommit : Kept → Type 0
CanCommit (Plain s) = IsReady s
CanCommit (Journaled j) = CanRecord j

-- what is kept will hold this when the call that is ready in it is carried out
abbrev pub Leaves : Kept → Holding → Type 0
Leaves (Plain s) h = h ≡ record { state = committed s; journal = None }
Leaves (Journaled j) h =
    (e : Entry) → j.next ≡ Some e
    → h ≡ record {
      state = committed j.stored;
      journal = Some (record { setting = j.setting; begun = j.begun; entries = j.journal ++ e ∷ [] });
    }

-- the call of the line is ready, will leave what it does, and is answered so
pub record IsReadyFor (kept : Kept) (line : Line) (reply : Reply) : Type 0 where
  pub can : CanCommit kept
  pub leaves : Leaves kept (holding_after (holding_of kept) line)
  pub reply_is : reply ≡ reply_to (holding_of kept) line
