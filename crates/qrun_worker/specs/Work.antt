-- What workers have done, of whom each plays what a client hands out.
use Rattle.std.specs.Prelude.{◌≡◌, ℕ, Bool, true, ◌+◌, ◌<◌, ◌≤◌, ◌⊎◌, List, [], ◌∷◌, ◌++◌, length, All, slice_index_or}
use Rattle.std.specs.Prelude.{Option, None, Result, Err}
use Rattle.qplain.specs.declared.call_fault.CallFault.{CallFault}
use Rattle.qplain.specs.declared.call_fault.CallFault.TheVariants.{JournalFull}
use Rattle.qplain.specs.declared.entry.Entry.{Entry}
use Rattle.qplain.specs.declared.line.Line.{Line}
use Rattle.qplain.specs.declared.receipt.Receipt.{Receipt}
use Rattle.qplain.specs.Journal.{entries_of}
use Rattle.qplain.specs.Transcripts.{journaled_lines}
use Rattle.qplain.specs.declared.bounds.TheConstants.{MAX_ENTRIES}
use mathlib.Core.List.{IsPrefix}
use Rattle.qshare_history.specs.Shares.{HandedIn}
use Rattle.qshare.specs.Holds.{Holding}
use Rattle.qshare.specs.Seats.{Seated}
use Rattle.qrun_client.specs.Clients.{HasLowPlace, Talk, place_of}
use Rattle.qrun_replay.specs.declared.failed_line.FailedLine.{FailedLine}
use Rattle.qrun_replay.specs.Places.{Standing, stand_at}

-- a worker's share, and its answers
pub record Done : Type 0 where
  pub share : HandedIn
  pub answers : List (Result Receipt CallFault)

-- a client that has handed out nothing, and whose answers stand nowhere
abbrev pub IsNewClient : Option Line → List (Result ℕ FailedLine) → Type 0
IsNewClient owed stands = (owed ≡ None) × (stands ≡ [])

-- where a clock rules a store, it may give the lines of a client their moments
abbrev pub MayBeGiven : (store client : Bool) → Type 0
MayBeGiven store client = store ≡ true → client ≡ true

-- a worker that is ready to start: its number, and its client
pub record Prepared (C : Type 0) : Type 0 where
  pub worker : ℕ
  pub client : C

-- who is told of a full journal has seen one
abbrev pub HasSeenFull : List Entry → Result Receipt CallFault → Type 0
HasSeenFull seen answer = answer ≡ Err JournalFull → MAX_ENTRIES ≤ length seen

-- these stand among those, in their order
unfoldable pub IsSubsequence : {X : Type 0} → List X → List X → Type 0
IsSubsequence [] ys = Unit {0}
IsSubsequence (x ∷ xs) [] = ⊥
IsSubsequence (x ∷ xs) (y ∷ ys) = ((x ≡ y) × IsSubsequence xs ys) ⊎ IsSubsequence (x ∷ xs) ys

-- the answers to the first lines of a worker who has seen this much: the receipts are entries of its own, in their
-- order, and as many calls were counted
pub record AreAnswers (worker : ℕ) (lines : List Line) (seen : List Entry) (calls : ℕ)
    (answers : List (Result Receipt CallFault)) : Type 0 where
  pub few : length answers ≤ length lines
  pub full : All (HasSeenFull seen) answers
  pub low : All HasLowPlace answers
  pub own : IsSubsequence (journaled_lines worker lines answers) (entries_of seen worker)
  pub counted : calls ≡ length (journaled_lines worker lines answers)

-- the answers to the first lines of the worker who has this seat
abbrev pub HasAnswers : List Line → Seated → List (Result Receipt CallFault) → Type 0
HasAnswers lines seat answers = AreAnswers seat.worker lines seat.seen seat.tally.calls answers

-- where the answers to the first lines stand
unfoldable pub stands_of : List Line → List (Result Receipt CallFault) → List (Result ℕ FailedLine)
stands_of (line ∷ lines) (answer ∷ answers) = stand_at line (place_of answer) ∷ stands_of lines answers
stands_of [] answers = []
stands_of (line ∷ lines) [] = []

-- what comes of a client before these lines were answered is what comes of it then, behind the lines and their answers
abbrev pub GoesOnBehind : {Left : Type 0} → List Line → List (Result Receipt CallFault) → Talk Left → Talk Left → Type 0
GoesOnBehind {Left} lines answers old new = (more : List Line) (further : List (Result Receipt CallFault)) (left : Left)
    → new more further left → old (lines ++ more) (answers ++ further) left

-- a worker who had seen this much, and has seen that much now, has gone some lines further with its client: it has
-- answers to them behind those that it had, which stand behind those that stood, and so the client goes on
pub record HasGone {Left : Type 0} (seen later : List Entry) (old new : Seated)
    (before after : List (Result ℕ FailedLine)) (from to : Talk Left) : Type 0 where
  pub worker : new.worker ≡ old.worker
  pub lines : List Line
  pub answers : List (Result Receipt CallFault)
  pub each : length answers ≡ length lines
  pub stands : after ≡ before ++ stands_of lines answers
  pub are : (first : List Line) (given : List (Result Receipt CallFault)) → length given ≡ length first
      → AreAnswers old.worker first seen old.tally.calls given
      → AreAnswers old.worker (first ++ lines) later new.tally.calls (given ++ answers)
  pub goes_on : GoesOnBehind lines answers from to

-- the worker who has this seat holds the lock, may make N calls under it, and has seen a prefix of the journal
pub record MayMake (many : ℕ) (held : Holding) (seat : Seated) : Type 0 where
  pub by : seat.worker ≡ held.by
  pub room : many ≤ held.room
  pub begins : IsPrefix seat.seen held.journal

-- the share of the worker who has played this script, and an answer to each line
pub record IsWork (worker : ℕ) (lines : List Line) (d : Done) : Type 0 where
  pub worker_is : d.share.worker ≡ worker
  pub each : length d.answers ≡ length lines
  pub are : AreAnswers worker lines d.share.seen d.share.tally.calls d.answers

-- where these answers stand, and there are no more
abbrev pub standing_of : List Line → List (Result Receipt CallFault) → Standing
standing_of lines answers = record { stands = stands_of lines answers; room = 0 }

-- a worker's share, where its answers stand, and what is left of its client
pub record Worked (Left : Type 0) : Type 0 where
  pub share : HandedIn
  pub places : Standing
  pub left : Left

-- this worker has played lines, with an answer to each, which stand at these places; and these lines and answers are
-- what came of its client
pub record IsPlayed {Left : Type 0} (worker : ℕ) (talk : Talk Left) (w : Worked Left) : Type 0 where
  pub lines : List Line
  pub answers : List (Result Receipt CallFault)
  pub placed : w.places ≡ standing_of lines answers
  pub work : IsWork worker lines (record { share = w.share; answers = answers })
  pub talked : talk lines answers w.left

-- each worker, from 1, has played what its client handed out
pub record ArePlayed {C Left : Type 0} (talk : C → Talk Left) (clients : List C) (works : List (Worked Left))
    : Type 0 where
  pub many : length works ≡ length clients
  pub each : (k : ℕ) (c : C) (w : Worked Left) → k < length clients
      → IsPlayed (k + 1) (talk (slice_index_or clients k c)) (slice_index_or works k w)
