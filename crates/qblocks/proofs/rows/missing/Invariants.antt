use Rattle.std.proofs.Common.{◌≡◌, ◌-◌, ◌*◌, ◌≤◌, min, max}
use Rattle.qblocks.specs.declared.row.TheConstants.{ROW_BLOCKS}
use Rattle.qblocks.specs.Row.{gaps}
use Rattle.qblocks.specs.Rows.{filled}
use Rattle.qblocks.proofs.rows.missing.Given as goal

abbrev pub invariant-loop-r : goal.invariant-loop-r
invariant-loop-r l = record {
  missing : l.missing ≡ gaps (filled l.rows) l.start (min l.stop (max l.start (l.r * ROW_BLOCKS)) - l.start);
  bound : l.missing ≤ min l.stop (max l.start (l.r * ROW_BLOCKS)) - l.start;
}
