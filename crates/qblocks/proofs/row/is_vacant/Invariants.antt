use Rattle.std.proofs.Common.{◌≡◌}
use Rattle.qblocks.specs.Row.{row_filled, gaps}
use Rattle.qblocks.proofs.row.is_vacant.Given as goal

abbrev pub invariant-loop-j : goal.invariant-loop-j
invariant-loop-j l = record { vacant : gaps (row_filled l.row) 0 l.j ≡ l.j }
