use Rattle.std.proofs.Common.{◌≡◌, ◌-◌, ◌≤◌, ◌++◌, map}
use Rattle.std.specs.List.{range_with_len}
use Rattle.qblocks.specs.Row.{row_byte}
use Rattle.qblocks.proofs.row.read.Given as goal

abbrev pub invariant-loop-at : goal.invariant-loop-at
invariant-loop-at l = record {
  reads : l.out.items ≡ l.initial.out.items ++ map (row_byte l.row) (range_with_len l.from (l.at - l.from));
  order : l.from ≤ l.at;
  within : l.at ≤ l.to;
}

abbrev pub decreases-loop-at : goal.decreases-loop-at
decreases-loop-at l = l.to - l.at
