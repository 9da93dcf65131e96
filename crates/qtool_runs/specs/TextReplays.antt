-- What a journal's text leaves that is read and played again.
use Rattle.std.specs.Prelude.{◌≡◌, ℕ, List, Result, Ok, Err}
use Rattle.qplain.specs.Journals.{Written}
use Rattle.qplain.specs.Setups.{Setting, in_edition}
use Rattle.qplain.specs.State.{start}
use Rattle.qrun_replay.specs.declared.outcome.Outcome.{Outcome}
use Rattle.qrun_replay.specs.declared.replay_fault.ReplayFault.{ReplayFault}
use Rattle.qrun_replay.specs.declared.replay_fault.ReplayFault.TheVariants.{Memory as WantsMemory}
use Rattle.qrun_replay.specs.declared.replay_fault.ReplayFault.TheVariants.{Mismatch as TellsMismatch}
use Rattle.qrun_replay.specs.Replays.{IsAsBefore, IsFirstMismatch}
use Rattle.qtext.specs.declared.text_fault.TextFault.{TextFault}
use Rattle.qtext.specs.declared.text_fault.TextKind.{TextKind}
use Rattle.qtext.specs.declared.text_fault.TextKind.TheVariants.{Memory as NoMemory}
use Rattle.qtext_files.specs.Journals.{journal_of}
use Rattle.qtool_runs.specs.declared.text_replay.TextReplayFault.{TextReplayFault}
use Rattle.qtool_runs.specs.declared.text_replay.TextReplayFault.TheVariants.{Memory, Text, Mismatch}

-- of a kind: out of memory, or a fault of the text
abbrev pub replay_fault_of_kind : TextKind → TextFault → TextReplayFault
replay_fault_of_kind NoMemory fault = Memory
replay_fault_of_kind _ fault = Text fault

-- a fault in a text is reported as that, and memory that was wanting as that
abbrev pub replay_fault_of_text : TextFault → TextReplayFault
replay_fault_of_text fault = replay_fault_of_kind fault.kind fault

-- a fault of a replay is reported as it is
abbrev pub replay_fault_of : ReplayFault → TextReplayFault
replay_fault_of WantsMemory = Memory
replay_fault_of (TellsMismatch place) = Mismatch place

-- the text says a journal whose first entry with another reply than the plain machine in its edition has this place
pub record IsMismatchIn (setting : Setting) (text : List ℕ) (place : ℕ) : Type 0 where
  pub journal : Written
  pub says : journal_of text ≡ Ok journal
  pub first : IsFirstMismatch (start (in_edition journal.edition setting)) journal.entries place

-- the replay of a text gives back what the run has left, or memory was wanting
abbrev pub GivesBackOf : Outcome → Result Outcome TextReplayFault → Type 0
GivesBackOf old (Ok new) = IsAsBefore old new
GivesBackOf old (Err Memory) = Unit {0}
GivesBackOf old (Err (Text fault)) = ⊥
GivesBackOf old (Err (Mismatch place)) = ⊥
