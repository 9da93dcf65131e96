-- What faults of runs tell, and the numbers under which they are reported.
use Rattle.std.specs.Prelude.{◌<◌, ◌≤◌, ℕ}
use Rattle.qrun.specs.declared.run_fault.RunFault.{RunFault}
use Rattle.qrun.specs.declared.run_fault.RunFault.TheVariants.{Memory, NotStarted, Mismatch, NoReader}

-- the number of a run that has no outcome
abbrev pub run_fault_number : RunFault → ℕ
run_fault_number Memory = 41
run_fault_number (NotStarted worker) = 42
run_fault_number (Mismatch place) = 43
run_fault_number NoReader = 48

-- the fault of a run of so many threads, numbered from 1: memory or a reader was wanting, or one of them was not
-- started; a mismatch is never told
abbrev pub IsFaultOf : ℕ → RunFault → Type 0
IsFaultOf threads Memory = Unit {0}
IsFaultOf threads (NotStarted worker) = (0 < worker) × (worker ≤ threads)
IsFaultOf threads (Mismatch place) = ⊥
IsFaultOf threads NoReader = Unit {0}
