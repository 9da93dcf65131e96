use Rattle.std.proofs.Common.{◌≡◌, ◌≤◌, ◌<◌, ◌-◌, ◌^◌, ℕ, false}
use Rattle.qblocks.specs.Rows.{filled}
use Rattle.qblocks.proofs.next.next_block.Given as goal

abbrev pub invariant-loop-r : goal.invariant-loop-r
invariant-loop-r l = record {
  order : l.initial.at ≤ l.at;
  none : (q : ℕ) → l.initial.at ≤ q → q < l.at → filled l.initial.rows q ≡ false;
}

abbrev pub decreases-loop-r : goal.decreases-loop-r
decreases-loop-r l = 2 ^ 64 - l.at
