use Rattle.std.proofs.Common.{◌≡◌, ◌-◌, ◌≤◌, ◌++◌, map}
use Rattle.std.specs.List.{range_with_len}
use Rattle.qblocks.specs.Rows.{byte_at}
use Rattle.qblocks.proofs.rows.read.Given as goal

abbrev pub invariant-loop-at : goal.invariant-loop-at
invariant-loop-at l = record {
  reads : l.out.items ≡ l.initial.out.items ++ map (byte_at l.rows) (range_with_len l.off (l.at - l.off));
  order : l.off ≤ l.at;
  within : l.at ≤ l.end;
}

abbrev pub decreases-loop-at : goal.decreases-loop-at
decreases-loop-at l = l.end - l.at
