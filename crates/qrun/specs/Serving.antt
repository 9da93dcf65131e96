-- What a service owes its caller, and what is told of its clients.
use Rattle.std.specs.Prelude.{◌≡◌, ℕ, Bool, true, ◌<◌, ◌≤◌, List, [], length, slice_index_or, Option, None, Some}
use Rattle.qshare_history.specs.Moments.{NeverFalls}
use Rattle.qrun_client.specs.Clients.{Talk}
use Rattle.qplain.specs.declared.edition.Edition.TheVariants.{Two}
use Rattle.qplain.specs.declared.transcript.Transcript.{Transcript}
use Rattle.qplain.specs.Setups.{Setting}
use Rattle.qshare.specs.declared.opening.TheConstants.{MAX_SEATS}
use Rattle.qrun_replay.specs.declared.outcome.Outcome.{Outcome}
use Rattle.qrun.specs.Watching.{seats_for}

-- how many monitors there are
abbrev pub monitors_in : {M : Type 0} → Option M → ℕ
monitors_in None = 0
monitors_in (Some monitor) = 1

-- what the caller of a service owes: a setup of edition 2, and 1 to 16 clients, or 15 beside a monitor
pub record CanServe (setting : Setting) (clients monitors : ℕ) : Type 0 where
  pub edition : setting.edition ≡ Two
  pub some : 0 < clients
  pub few : seats_for clients monitors ≤ MAX_SEATS

-- a transcript tells what came of its client: the lines that it handed out, what it was told of them, and what is left
abbrev pub IsTranscriptOf : {Left : Type 0} → Talk Left → Transcript → Left → Type 0
IsTranscriptOf talk t left = talk t.lines t.answers left

-- each client's transcript tells what came of it, in their order; and no look was taken at the boards
pub record IsOfClients {C Left : Type 0} (talk : C → Talk Left) (clients : List C) (left : List Left) (o : Outcome)
    : Type 0 where
  pub many : length o.transcripts ≡ length clients
  pub left_are : length left ≡ length clients
  pub each : (k : ℕ) (c : C) (t : Transcript) (l : Left) → k < length clients
      → IsTranscriptOf (talk (slice_index_or clients k c)) (slice_index_or o.transcripts k t) (slice_index_or left k l)
  pub boards : o.boards ≡ []

-- where a clock rules, the moments of the outcome's journal never fall
abbrev pub KeepsTime : Bool → Outcome → Type 0
KeepsTime clocked o = clocked ≡ true → NeverFalls o.journal.entries
