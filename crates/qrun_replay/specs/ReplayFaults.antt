-- The numbers under which faults of replays are reported.
use Rattle.std.specs.Prelude.{ℕ}
use Rattle.qrun_replay.specs.declared.replay_fault.ReplayFault.{ReplayFault}
use Rattle.qrun_replay.specs.declared.replay_fault.ReplayFault.TheVariants.{Memory, Mismatch}

-- the number of a replay that has no outcome
abbrev pub replay_fault_number : ReplayFault → ℕ
replay_fault_number Memory = 41
replay_fault_number (Mismatch place) = 43
