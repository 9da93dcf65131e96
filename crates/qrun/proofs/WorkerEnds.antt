-- Ends of workers, and the faults that name them.
use Rattle.std.proofs.Common.{◌≡◌, ◌≤◌, ℕ, [], ◌∷◌, ◌++◌, List, length, refl, sym, subst, ◌∙◌, length-append, arith}
use Rattle.std.proofs.lemmas.List.{get_or_push}
use Rattle.qrun.specs.declared.run_fault.RunFault.{RunFault}
use Rattle.qrun.specs.declared.run_fault.RunFault.TheVariants.{Memory, Mismatch, NoReader, NotStarted as TellsNotStarted}
use Rattle.qrun.specs.declared.worker_end.WorkerEnd.{WorkerEnd}
use Rattle.qrun.specs.declared.worker_end.WorkerEnd.TheVariants.{Done, NotStarted}
use Rattle.qrun.specs.RunFaults.{IsFaultOf}
use Rattle.qrun.specs.WorkerEnds.{AreDone, NamesFirst}

abbrev IsDone : WorkerEnd → Type 0
IsDone Done = Unit {0}
IsDone NotStarted = ⊥

not_done : NotStarted ≡ Done → ⊥
not_done same = subst IsDone (sym same) tt

-- where the last was not started, not all are done
pub last_refused : (ends : List WorkerEnd) → AreDone (ends ++ NotStarted ∷ []) → ⊥
last_refused ends done =
    not_done (sym (get_or_push ends NotStarted Done (length ends) refl)
    ∙ done (length ends) Done (omega (arith, length-append ends (NotStarted ∷ []))))

-- the first that was not started is one of them
pub first_is_one : (n : ℕ) (ends : List WorkerEnd) (fault : RunFault) → length ends ≤ n → NamesFirst ends fault → IsFaultOf n fault
first_is_one n ends Memory few names = absurd names
first_is_one n ends (TellsNotStarted worker) few names = (names.there.0, omega (arith, names.there.1, few))
first_is_one n ends (Mismatch place) few names = absurd names
first_is_one n ends NoReader few names = absurd names
