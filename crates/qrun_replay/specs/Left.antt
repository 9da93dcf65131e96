-- What is left of a journaled store that was played on. No public clause cites this module.
use Rattle.std.specs.Prelude.{◌≡◌, ℕ, ◌<◌, ◌≤◌, true, List, [], map, length, All, Result}
use Rattle.qplain.specs.declared.board.Board.{Board}
use Rattle.qplain.specs.declared.entry.Entry.{Entry}
use Rattle.qplain.specs.declared.look_fault.LookFault.{LookFault}
use Rattle.qplain.specs.declared.transcript.Transcript.{Transcript}
use Rattle.qplain.specs.declared.edition.Edition.{Edition}
use Rattle.qplain.specs.Editions.{max_entries_of}
use Rattle.qplain.specs.Projects.{is_of_edition}
use Rattle.qplain.specs.Setups.{Setting}
use Rattle.qplain.specs.State.{State}
use Rattle.qplain.specs.Journal.{IsLegal, play, tally_of}
use Rattle.qplain_laws.specs.Beginnings.{IsStateOf}
use Rattle.qstore.specs.Rows.{record_row_of}
use Rattle.qaudit_checks.specs.OwnRows.{differences_in}
use Rattle.qrun_replay.specs.declared.outcome.Outcome.{Outcome}

-- the entry is of one of N workers
abbrev pub IsOneOf : ℕ → Entry → Type 0
IsOneOf workers e = (0 < e.worker) × (e.worker ≤ workers)

-- the entries name what those of this edition may
abbrev pub AreOfEdition : Edition → List Entry → Type 0
AreOfEdition edition journal = All (λ e. is_of_edition edition e ≡ true) journal

-- the store that this legal journal leaves, with which a store of the setup may begin, its tally, and its own records
-- and differences, of which there are none, beside N workers, these transcripts and what these looks at the boards were
-- given
pub record IsLeftOf (setting : Setting) (begun : State) (journal : List Entry) (workers : ℕ)
    (transcripts : List Transcript) (boards : List (Result Board LookFault)) (o : Outcome) : Type 0 where
  pub setup : o.setup ≡ setting
  pub legal : IsLegal begun journal
  pub few : length journal ≤ max_entries_of setting.edition
  pub journal_is : o.journal ≡ record { edition = setting.edition; workers = workers; entries = journal }
  pub tallies : o.tallies ≡ tally_of journal
  pub store : o.store.state ≡ play begun journal
  pub stands : IsStateOf setting o.store.state
  pub transcripts_are : o.transcripts ≡ transcripts
  pub boards_are : o.boards ≡ boards
  pub records : o.records ≡ map (record_row_of o.store.state) o.store.state.holders
  pub differences : o.differences ≡ differences_in o.store.state
  pub agree : o.differences ≡ []
