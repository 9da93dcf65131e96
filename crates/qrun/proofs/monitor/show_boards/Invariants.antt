use Rattle.std.proofs.Common.{◌≡◌}
use Rattle.qplain.specs.Journal.{no_tally}
use Rattle.qrun.proofs.Observing.{IsShowing}
use Rattle.qrun.proofs.monitor.show_boards.Given as goal

abbrev pub invariant-loop : goal.invariant-loop
invariant-loop g l = (l.seat.worker ≡ l.fn.showing.seat.worker) × (l.seat.tally ≡ no_tally)
    × IsShowing g.S.StoreId.id.begun l.seat.seen l.shown (g.M.Monitor.sees l.fn.showing.monitor) (g.M.Monitor.sees l.monitor)
