use Rattle.std.proofs.Common.{length, ◌-◌, ◌≡◌, ◌≤◌, ◌+◌, drop}
use Rattle.std.specs.List.{prefix_len}
use Rattle.qlanes.specs.Bytes.{is_printing}
use Rattle.qlanes.proofs.printing.printing_end.Given as goal

-- the bytes go on up to there
abbrev pub invariant-loop-at : goal.invariant-loop-at
invariant-loop-at l = record {
  within : l.at ≤ length l.bytes;
  same : l.start + prefix_len is_printing (drop l.start l.bytes) ≡ l.at + prefix_len is_printing (drop l.at l.bytes);
}

abbrev pub decreases-loop-at : goal.decreases-loop-at
decreases-loop-at l = length l.bytes - l.at

abbrev pub invariant-loop-at-2 : goal.invariant-loop-at-2
invariant-loop-at-2 l = record {
  within : l.at ≤ length l.bytes;
  same : l.start + prefix_len is_printing (drop l.start l.bytes) ≡ l.at + prefix_len is_printing (drop l.at l.bytes);
}

abbrev pub decreases-loop-at-2 : goal.decreases-loop-at-2
decreases-loop-at-2 l = length l.bytes - l.at
