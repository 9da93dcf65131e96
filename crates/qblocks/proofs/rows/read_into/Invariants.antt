use Rattle.std.proofs.Common.{◌≡◌, ◌-◌, ◌≤◌, length, map, take}
use Rattle.std.specs.List.{range_with_len}
use Rattle.qblocks.specs.Rows.{byte_at}
use Rattle.qblocks.proofs.rows.read_into.Given as goal

abbrev pub invariant-loop-done : goal.invariant-loop-done
invariant-loop-done l = record {
  reads : take l.done l.out ≡ map (byte_at l.rows) (range_with_len l.off l.done);
  within : l.done ≤ length l.out;
}

abbrev pub decreases-loop-done : goal.decreases-loop-done
decreases-loop-done l = length l.out - l.done
