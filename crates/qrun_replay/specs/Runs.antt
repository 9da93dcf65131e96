-- What workers leave: those of a run, who play scripts, and those of a service, who play what clients hand out.
use Rattle.std.specs.Prelude.{◌≡◌, ◌≢◌, ℕ, ◌+◌, ◌≤◌, List, [], ◌∷◌, length, map, All, Err}
use Rattle.qplain.specs.declared.entry.Entry.{Entry}
use Rattle.qplain.specs.declared.line.Line.{Line}
use Rattle.qplain.specs.Setups.{Setting}
use Rattle.qplain.specs.State.{State}
use Rattle.qplain.specs.Journal.{IsLegal, entries_of, play, tally_of}
use Rattle.qplain.specs.Transcripts.{Belongs, journaled_lines}
use Rattle.qplain_laws.specs.Beginnings.{IsStateOf}
use Rattle.qplain_laws.specs.Journals.{IsBalancedFrom}
use Rattle.qaudit_checks.specs.LawfulBoards.{AreLawful, boards_in}
use Rattle.qstore.specs.Rows.{record_row_of}
use Rattle.qaudit_checks.specs.OwnRows.{differences_in}
use Rattle.qplain.specs.declared.call_fault.CallFault.TheVariants.{JournalFull}
use Rattle.qplain.specs.declared.bounds.TheConstants.{MAX_ENTRIES}
use Rattle.qplain.specs.declared.edition.Edition.TheVariants.{Two}
use Rattle.qplain.specs.declared.transcript.Transcript.{Transcript}
use Rattle.qrun_replay.specs.declared.outcome.Outcome.{Outcome}

-- a worker's transcript: its lines, one answer to each, and the receipts are its own entries
pub record IsTranscriptOf (worker : ℕ) (lines : List Line) (journal : List Entry) (t : Transcript) : Type 0 where
  pub worker_is : t.worker ≡ worker
  pub lines_are : t.lines ≡ lines
  pub each : length t.answers ≡ length lines
  pub own : journaled_lines worker lines t.answers ≡ entries_of journal worker

-- worker by worker, from this number on, the transcripts are those of these lines
unfoldable pub AreTranscriptsOf : ℕ → List (List Line) → List Entry → List Transcript → Type 0
AreTranscriptsOf worker [] journal [] = Unit {0}
AreTranscriptsOf worker (lines ∷ rest) journal (t ∷ ts) = IsTranscriptOf worker lines journal t
    × AreTranscriptsOf (worker + 1) rest journal ts
AreTranscriptsOf worker [] journal (t ∷ ts) = ⊥
AreTranscriptsOf worker (lines ∷ rest) journal [] = ⊥

-- what workers leave who have played these lines, from this beginning on, under this setup, which is of edition 2 and
-- so is the journal; that has a worker for each list of lines and is no longer than it may be, the tallies are its own
-- and balance with what was there and what is left, with which a store of the setup may begin, no entry belongs to
-- anyone else, the boards that were shown are its own and never fall, and the differences are those of the store's own
-- rows, of which there are none
pub record IsLeftByWorkers (setting : Setting) (begun : State) (lines : List (List Line)) (o : Outcome) : Type 0 where
  pub setup : o.setup ≡ setting
  pub edition : (setting.edition ≡ Two) × (o.journal.edition ≡ Two)
  pub legal : IsLegal begun o.journal.entries
  pub workers : o.journal.workers ≡ length lines
  pub few : length o.journal.entries ≤ MAX_ENTRIES
  pub tallies : o.tallies ≡ tally_of o.journal.entries
  pub balanced : IsBalancedFrom begun o.store.state o.tallies
  pub store : o.store.state ≡ play begun o.journal.entries
  pub stands : IsStateOf setting o.store.state
  pub transcripts : AreTranscriptsOf 1 lines o.journal.entries o.transcripts
  pub belong : All (Belongs o.transcripts) o.journal.entries
  pub boards : AreLawful begun o.journal.entries (boards_in o.boards)
  pub records : o.records ≡ map (record_row_of o.store.state) o.store.state.holders
  pub differences : o.differences ≡ differences_in o.store.state
  pub agree : o.differences ≡ []

-- no line failed because the journal was full
abbrev pub IsNeverFull : Transcript → Type 0
IsNeverFull t = All (λ answer. answer ≢ Err JournalFull) t.answers

-- what a run of these scripts leaves: no line of them failed because the journal was full
pub record IsOutcomeOf (setting : Setting) (begun : State) (scripts : List (List Line)) (o : Outcome) : Type 0 where
  pub left : IsLeftByWorkers setting begun scripts o
  pub never_full : All IsNeverFull o.transcripts

-- the lines that transcripts tell of
abbrev pub lines_of : List Transcript → List (List Line)
lines_of ts = map (λ t. t.lines) ts

-- a line failed because the journal was full only where it is full
abbrev pub FailsOnlyAtFull : List Entry → Transcript → Type 0
FailsOnlyAtFull journal t = All (λ answer. answer ≡ Err JournalFull → length journal ≡ MAX_ENTRIES) t.answers

-- what a service of clients leaves, whose lines are known only when it ends: a line of it may have failed because the
-- journal was full, but only where it is
pub record IsServiceOf (setting : Setting) (begun : State) (o : Outcome) : Type 0 where
  pub left : IsLeftByWorkers setting begun (lines_of o.transcripts) o
  pub full : All (FailsOnlyAtFull o.journal.entries) o.transcripts
