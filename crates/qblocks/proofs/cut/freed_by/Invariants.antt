use Rattle.std.proofs.Common.{◌≡◌, ◌+◌, ◌-◌, ◌/◌, ◌≤◌, ◌^◌}
use Rattle.qblocks.specs.declared.block.TheConstants.{BLOCK_SIZE}
use Rattle.qblocks.specs.Row.{gaps}
use Rattle.qblocks.specs.Rows.{filled}
use Rattle.qblocks.proofs.cut.freed_by.Given as goal

abbrev pub invariant-loop-r : goal.invariant-loop-r
invariant-loop-r l =
    let first = (l.size + BLOCK_SIZE - 1) / BLOCK_SIZE in
    record {
      order : first ≤ l.at;
      bound : l.at ≤ 2 ^ 32;
      count : l.freed + gaps (filled l.rows) first (l.at - first) ≡ l.at - first;
    }

abbrev pub decreases-loop-r : goal.decreases-loop-r
decreases-loop-r l = 2 ^ 32 - l.at
