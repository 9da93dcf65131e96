use Rattle.qrun.specs.Watching.{HasWaited}
use Rattle.qrun.proofs.pace.Pace.waits_for_more.Given as goal

abbrev pub invariant-loop : goal.invariant-loop
invariant-loop g l = HasWaited l.fn.seat l.seat
