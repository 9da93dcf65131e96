-- What the ends of the workers of a run make of it.
use Rattle.std.specs.Prelude.{◌≡◌, ℕ, ◌-◌, ◌<◌, ◌≤◌, List, length, take, slice_index_or, All}
use Rattle.qrun.specs.declared.run_fault.RunFault.{RunFault}
use Rattle.qrun.specs.declared.run_fault.RunFault.TheVariants.{Memory, NotStarted as TellsNotStarted, Mismatch}
use Rattle.qrun.specs.declared.run_fault.RunFault.TheVariants.{NoReader}
use Rattle.qrun.specs.declared.worker_end.WorkerEnd.{WorkerEnd}
use Rattle.qrun.specs.declared.worker_end.WorkerEnd.TheVariants.{Done, NotStarted}

-- each of them was started
abbrev pub AreDone : List WorkerEnd → Type 0
AreDone ends = All (λ end. end ≡ Done) ends

-- the worker of this number, from 1, was not started, and each before it was
pub record IsFirstNotStarted (ends : List WorkerEnd) (worker : ℕ) : Type 0 where
  pub there : (0 < worker) × (worker ≤ length ends)
  pub refused : slice_index_or ends (worker - 1) Done ≡ NotStarted
  pub before : AreDone (take (worker - 1) ends)

-- the fault names the first of these workers that was not started
abbrev pub NamesFirst : List WorkerEnd → RunFault → Type 0
NamesFirst ends Memory = ⊥
NamesFirst ends (TellsNotStarted worker) = IsFirstNotStarted ends worker
NamesFirst ends (Mismatch place) = ⊥
NamesFirst ends NoReader = ⊥
