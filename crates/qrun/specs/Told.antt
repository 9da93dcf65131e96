-- What workers have done, told as transcripts. No public clause cites this module.
use Rattle.std.specs.Prelude.{◌≡◌, ℕ, ◌+◌, ◌<◌, ◌≤◌, List, [], ◌∷◌, length, map, sum_by, All, Result}
use mathlib.Core.List.{IsPrefix}
use Rattle.qplain.specs.declared.board.Board.{Board}
use Rattle.qplain.specs.declared.bounds.TheConstants.{MAX_ENTRIES, MAX_LINES}
use Rattle.qplain.specs.declared.edition.Edition.TheVariants.{Two}
use Rattle.qplain.specs.declared.entry.Entry.{Entry}
use Rattle.qplain.specs.declared.line.Line.{Line}
use Rattle.qplain.specs.declared.look_fault.LookFault.{LookFault}
use Rattle.qplain.specs.declared.transcript.Transcript.{Transcript}
use Rattle.qshare_history.specs.Shares.{HandedIn}
use Rattle.qaudit_checks.specs.Gathered.{IsGathered}
use Rattle.qaudit_checks.specs.LawfulBoards.{AreLawful, boards_in}
use Rattle.qstore_journaled.specs.Journaled.{Journaled}
use Rattle.qshare.specs.declared.opening.TheConstants.{MAX_SEATS}
use Rattle.qrun_replay.specs.declared.answered.Answered.{Answered}
use Rattle.qrun_replay.specs.Placed.{HoldsPlaces, transcript_from}
use Rattle.qrun_replay.specs.Runs.{lines_of}
use Rattle.qrun_worker.specs.Work.{IsWork, Worked, standing_of}

-- a worker's transcript: its lines, and the answers that its share stands beside
pub record IsTold (worker : ℕ) (lines : List Line) (share : HandedIn) (t : Transcript) : Type 0 where
  pub worker_is : t.worker ≡ worker
  pub lines_are : t.lines ≡ lines
  pub work : IsWork worker lines (record { share = share; answers = t.answers })

-- worker by worker, from this number on
unfoldable pub AreToldFrom : ℕ → List (List Line) → List HandedIn → List Transcript → Type 0
AreToldFrom worker [] [] [] = Unit {0}
AreToldFrom worker (lines ∷ scripts) (share ∷ shares) (t ∷ ts) =
    IsTold worker lines share t × AreToldFrom (worker + 1) scripts shares ts
AreToldFrom worker [] (share ∷ shares) ts = ⊥
AreToldFrom worker [] [] (t ∷ ts) = ⊥
AreToldFrom worker (lines ∷ scripts) [] ts = ⊥
AreToldFrom worker (lines ∷ scripts) (share ∷ shares) [] = ⊥

-- all workers, from 1
abbrev pub AreTold : List (List Line) → List HandedIn → List Transcript → Type 0
AreTold = AreToldFrom 1

-- each is no longer than a script may be
abbrev pub AreShort : List (List Line) → Type 0
AreShort scripts = All (λ lines. length lines ≤ MAX_LINES) scripts

-- the transcripts of workers, each of whom has seen a beginning of this journal; they have counted each of its entries
pub record AreToldOf (journal : List Entry) (ts : List Transcript) : Type 0 where
  pub shares : List HandedIn
  pub told : AreTold (lines_of ts) shares ts
  pub seen : All (λ s. IsPrefix s.seen journal) shares
  pub counted : sum_by (λ s. s.tally.calls) shares ≡ length journal

-- so they are of as many workers as a run may have, and tell of all the journal's entries, which are no more than it
-- may have, each of its own
pub record AreAllTold (journal : List Entry) (ts : List Transcript) : Type 0 where
  pub workers : (0 < length ts) × (length ts ≤ MAX_SEATS)
  pub told : AreToldOf journal ts
  pub few : length journal ≤ MAX_ENTRIES
  pub gathered : IsGathered journal ts

-- ---- by their places

-- what its worker was answered, by a transcript
abbrev pub placed_of : Transcript → Answered
placed_of t = record { worker = t.worker; places = standing_of t.lines t.answers }

-- what the worker was answered who has done this
abbrev pub answered_of : {Left : Type 0} → Worked Left → Answered
answered_of w = record { worker = w.share.worker; places = w.places }

-- the journal has what stands at these places, and the transcripts tell of all its entries
pub record AreAllPlaced (journal : List Entry) (all : List Answered) : Type 0 where
  pub places : All (HoldsPlaces journal) all
  pub told : AreAllTold journal (map (transcript_from journal) all)

-- the threads of a store, whose setup is of edition 2, have done their work: the journal has what stands at the places
-- of those who were answered, who tell of all its entries, and what looks were given are its own boards
pub record HaveWorked (j : Journaled) (answered : List Answered) (looks : List (Result Board LookFault)) : Type 0 where
  pub edition : j.setting.edition ≡ Two
  pub told : AreAllPlaced j.journal answered
  pub lawful : AreLawful j.begun j.journal (boards_in looks)
