-- What a run owes its caller, who plays on a store, and what they leave together. Public clauses cite `CanRun` alone.
use Rattle.std.specs.Prelude.{◌≡◌, ℕ, Bool, ◌+◌, ◌<◌, ◌≤◌, List, [], length, map, slice_index_or, All, Option, false}
use Rattle.qplain.specs.declared.line.Line.{Line}
use Rattle.qplain.specs.declared.transcript.Transcript.{Transcript}
use Rattle.qplain.specs.Setups.{Setting}
use Rattle.qplain.specs.State.{State}
use Rattle.qshare.specs.declared.held.TheConstants.{MAX_BATCH}
use Rattle.qshare.specs.declared.opening.TheConstants.{MAX_SEATS}
use Rattle.qshare.specs.Seats.{Seated, seats_of}
use Rattle.qrun_client.specs.Clients.{Talk}
use Rattle.qrun_replay.specs.declared.outcome.Outcome.{Outcome}
use Rattle.qrun_replay.specs.Runs.{IsNeverFull, IsServiceOf, lines_of}
use Rattle.qrun.specs.declared.options.Options.{Options}
use Rattle.qrun.specs.Monitors.{IsShownTo, Sight}
use Rattle.qrun.specs.Serving.{CanServe, IsTranscriptOf, KeepsTime}
use Rattle.qrun.specs.Told.{AreShort}
use Rattle.qrun.specs.Watching.{seats_for, watcher_for}
use Rattle.qrun_worker.specs.Scripts.{Playing}
use Rattle.qrun_worker.specs.Work.{Prepared}

-- what the caller of a run owes: 1 to 16 scripts, or 15 beside boards, and 1 to 64 lines under one taking of the lock
pub record CanRun (scripts : ℕ) (options : Options) : Type 0 where
  pub some : 0 < scripts
  pub few : scripts ≤ MAX_SEATS
  pub watcher : 0 < options.boards → scripts < MAX_SEATS
  pub batch : (0 < options.batch) × (options.batch ≤ MAX_BATCH)

-- ---- what no public clause cites

-- the client of a script of which no line was handed out
abbrev pub new_client : List Line → Playing
new_client lines = record { lines = lines; is_owed = false; stands = [] }

-- these are the clients of these scripts, which are no longer than they may be
pub record ArePlaying (scripts : List (List Line)) (clients : List Playing) : Type 0 where
  pub clients_are : clients ≡ map new_client scripts
  pub short : AreShort scripts

-- each worker has the number of its place, from 1
abbrev pub AreNumbered : {C : Type 0} → List (Prepared C) → Type 0
AreNumbered {C} all = (k : ℕ) (p : Prepared C) → k < length all → (slice_index_or all k p).worker ≡ k + 1

-- each worker, from 1, is ready to play what its client hands out
pub record AreReady {C : Type 0} (clients : List C) (workers : List (Prepared C)) : Type 0 where
  pub numbered : AreNumbered workers
  pub clients_are : map (λ p. p.client) workers ≡ clients

-- a new seat for each of N clients, and the next for who looks at the boards, where somebody does; and no other
pub record IsStaff (setting : Setting) (clients parts : ℕ) (seats : List Seated) (observer : Option Seated)
    : Type 0 where
  pub monitors : ℕ
  pub can : CanServe setting clients monitors
  pub parts_are : parts ≡ seats_for clients monitors
  pub seats_are : seats ≡ seats_of clients
  pub observer_is : observer ≡ watcher_for clients monitors

-- what a crew leaves, of which N looks were kept: each client's transcript tells what came of it, in their order, and
-- where they are no longer than scripts may be no line failed because the journal was full
pub record HasEnded {C Left : Type 0} (talk : C → Talk Left) (setting : Setting) (begun : State) (clients : List C)
    (looks : ℕ) (left : List Left) (o : Outcome) : Type 0 where
  pub outcome : IsServiceOf setting begun o
  pub never : AreShort (lines_of o.transcripts) → All IsNeverFull o.transcripts
  pub many : length o.transcripts ≡ length clients
  pub left_are : length left ≡ length clients
  pub each : (k : ℕ) (c : C) (t : Transcript) (l : Left) → k < length clients
      → IsTranscriptOf (talk (slice_index_or clients k c)) (slice_index_or o.transcripts k t) (slice_index_or left k l)
  pub looks_are : length o.boards ≡ looks

-- so it is of a store that a clock rules, or none does, and of which a monitor, or none, was shown the boards
pub record HasPlayed {C Left M W : Type 0} (talk : C → Talk Left) (sees : M → Sight W) (setting : Setting)
    (begun : State) (clocked : Bool) (clients : List C) (looks : ℕ) (monitor : Option M) (left : List Left)
    (o : Outcome) (w : Option W) : Type 0 where
  pub ended : HasEnded talk setting begun clients looks left o
  pub shown : IsShownTo sees begun o.journal.entries monitor w
  pub moments : KeepsTime clocked o
