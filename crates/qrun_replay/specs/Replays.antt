-- What a journal leaves that is played again.
use Rattle.std.specs.Prelude.{◌≡◌, ◌≤◌, ℕ, ◌+◌, List, [], ◌∷◌, ◌++◌, length, map, filter, Result, Ok, Err}
use Rattle.std.specs.Result.{is_ok}
use Rattle.std.specs.List.{range_with_len}
use Rattle.qplain.specs.declared.call_fault.CallFault.{CallFault}
use Rattle.qplain.specs.declared.entry.Entry.{Entry}
use Rattle.qplain.specs.declared.line.Line.{Line}
use Rattle.qplain.specs.declared.receipt.Receipt.{Receipt}
use Rattle.qplain.specs.declared.transcript.Transcript.{Transcript}
use Rattle.qplain.specs.Editions.{max_entries_of}
use Rattle.qplain.specs.Setups.{Setting}
use Rattle.qplain.specs.State.{State}
use Rattle.qplain.specs.Journal.{IsLegal, entries_of, play, played, tally_of}
use Rattle.qplain_laws.specs.Beginnings.{IsStateOf}
use Rattle.qstore.specs.Rows.{record_row_of}
use Rattle.qaudit_checks.specs.OwnRows.{differences_in}
use Rattle.qplain.specs.Journals.{Written}
use Rattle.qrun_replay.specs.declared.answered.Answered.{Answered}
use Rattle.qrun_replay.specs.Placed.{line_of_entry}
use Rattle.qrun_replay.specs.declared.outcome.Outcome.{Outcome}
use Rattle.qrun_replay.specs.declared.replay_fault.ReplayFault.{ReplayFault}
use Rattle.qrun_replay.specs.declared.replay_fault.ReplayFault.TheVariants.{Memory, Mismatch}

-- what a worker was answered: its own entries, each at its place
abbrev pub answered_in : List Entry → ℕ → Answered
answered_in journal worker = record {
  worker = worker;
  places = record { stands = map (λ x. Ok x.0) (entries_of journal worker); room = 0 };
}

-- the answer to an entry with its place
abbrev pub answer_of : ℕ × Entry → Result Receipt CallFault
answer_of (place, e) = Ok (record { place = place; reply = e.reply })

-- a worker's transcript: its own entries, each with its line and its answer
abbrev pub transcript_in : List Entry → ℕ → Transcript
transcript_in journal worker = record {
  worker = worker;
  lines = map (λ x. line_of_entry x.1) (entries_of journal worker);
  answers = map answer_of (entries_of journal worker);
}

-- the transcripts of all workers, from 1 on
abbrev pub transcripts_in : Written → List Transcript
transcripts_in j = map (transcript_in j.entries) (range_with_len 1 j.workers)

-- after these entries, which are legal, the next one has another reply than the plain machine, and this is its place
pub record IsMismatchAfter (S : State) (before : List Entry) (e : Entry) (place : ℕ) : Type 0 where
  pub legal : IsLegal S before
  pub other : e.reply ≡ (played (play S before) e).1 → ⊥
  pub place_is : place ≡ length before + 1

-- the first entry with another reply than the plain machine has this place
pub record IsFirstMismatch (S : State) (journal : List Entry) (place : ℕ) : Type 0 where
  pub before : List Entry
  pub entry : Entry
  pub after : List Entry
  pub parts : journal ≡ before ++ entry ∷ after
  pub here : IsMismatchAfter S before entry place

-- what playing this journal again leaves, from this beginning on, under this setup: the journal is legal, no longer
-- than it may be, and stays as it is, the tallies are its own, a store of the setup may begin with what is left, each
-- worker has its own entries for a transcript, no look was taken at the boards, and the differences are those of the
-- store's own rows, of which there are none
pub record IsReplayOf (setting : Setting) (begun : State) (written : Written) (o : Outcome) : Type 0 where
  pub setup : o.setup ≡ setting
  pub legal : IsLegal begun written.entries
  pub few : length written.entries ≤ max_entries_of setting.edition
  pub journal : o.journal ≡ written
  pub tallies : o.tallies ≡ tally_of o.journal.entries
  pub store : o.store.state ≡ play begun written.entries
  pub stands : IsStateOf setting o.store.state
  pub transcripts : o.transcripts ≡ transcripts_in written
  pub boards : o.boards ≡ []
  pub records : o.records ≡ map (record_row_of o.store.state) o.store.state.holders
  pub differences : o.differences ≡ differences_in o.store.state
  pub agree : o.differences ≡ []

-- ---- of what workers have left

-- the lines that have a receipt
unfoldable pub granted_lines : List Line → List (Result Receipt CallFault) → List Line
granted_lines (line ∷ lines) (Ok receipt ∷ answers) = line ∷ granted_lines lines answers
granted_lines (line ∷ lines) (Err fault ∷ answers) = granted_lines lines answers
granted_lines [] answers = []
granted_lines (line ∷ lines) [] = []

-- a transcript without the lines that are in no journal
abbrev pub without_failed : Transcript → Transcript
without_failed t = record t { lines = granted_lines t.lines t.answers; answers = filter is_ok t.answers }

-- what was played again is as it was, but for the lines that are in no journal, and the boards, which are not given
-- back
pub record IsAsBefore (old new : Outcome) : Type 0 where
  pub tallies : new.tallies ≡ old.tallies
  pub store : new.store.state ≡ old.store.state
  pub transcripts : new.transcripts ≡ map without_failed old.transcripts
  pub records : new.records ≡ old.records
  pub differences : new.differences ≡ old.differences

-- the replay gives back what workers have left, or memory was wanting
abbrev pub GivesBack : Outcome → Result Outcome ReplayFault → Type 0
GivesBack old (Ok new) = IsAsBefore old new
GivesBack old (Err Memory) = Unit {0}
GivesBack old (Err (Mismatch place)) = ⊥
