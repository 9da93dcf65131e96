use Rattle.std.proofs.Common.{◌≡◌, ◌-◌, ◌≤◌}
use Rattle.qblocks.specs.Row.{row_filled, gaps}
use Rattle.qblocks.proofs.row.missing.Given as goal

abbrev pub invariant-loop-j : goal.invariant-loop-j
invariant-loop-j l = record {
  missing : l.missing ≡ gaps (row_filled l.row) l.first (l.j - l.first);
  bound : l.missing ≤ l.j - l.first;
}
