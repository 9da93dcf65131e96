use Rattle.std.proofs.Common.{◌≡◌, take}
use Rattle.qrun.specs.WorkerEnds.{AreDone}
use Rattle.qrun.proofs.worker_end.conclude.Given as goal

abbrev pub invariant-loop-end : goal.invariant-loop-end
invariant-loop-end l = (l.worker ≡ l.end-index) × AreDone (take l.end-index l.ends)
