-- Services that are fed the same lines, as the hosts of a replicated store are.
use Rattle.std.specs.Prelude.{◌≡◌, List, [], ◌∷◌, ◌++◌}
use mathlib.Core.List.{IsPrefix}
use Rattle.qplain.specs.declared.line.Line.{Line}
use Rattle.qplain.specs.declared.transcript.Transcript.{Transcript}
use Rattle.qplain.specs.Setups.{Setting}
use Rattle.qplain.specs.State.{State}
use Rattle.qrun_replay.specs.declared.outcome.Outcome.{Outcome}
use Rattle.qrun_replay.specs.Replays.{granted_lines}
use Rattle.qrun_replay.specs.Runs.{IsServiceOf}

-- what a host leaves that has begun so: a service of one client, of whose lines all but these have failed
pub record IsHostOf (setting : Setting) (begun : State) (lines : List Line) (o : Outcome) : Type 0 where
  pub service : IsServiceOf setting begun o
  pub transcript : Transcript
  pub alone : o.transcripts ≡ transcript ∷ []
  pub granted : granted_lines transcript.lines transcript.answers ≡ lines

-- two hosts have left the same: journal, tallies, and the state of the store, its files and quotas
pub record AreAlike (a b : Outcome) : Type 0 where
  pub journal : a.journal ≡ b.journal
  pub tallies : a.tallies ≡ b.tallies
  pub store : a.store.state ≡ b.store.state

-- hosts that have begun alike and were fed the same lines leave the same, as far as none has failed
abbrev pub HostsAgree : Type 0
HostsAgree = (setting : Setting) (begun : State) (lines : List Line) (a b : Outcome) → IsHostOf setting begun lines a
    → IsHostOf setting begun lines b → AreAlike a b

-- and the journal of one that has stopped is a beginning of that of one which went on
abbrev pub HostsBeginAlike : Type 0
HostsBeginAlike = (setting : Setting) (begun : State) (lines later : List Line) (a b : Outcome)
    → IsHostOf setting begun lines a → IsHostOf setting begun (lines ++ later) b
    → IsPrefix a.journal.entries b.journal.entries
