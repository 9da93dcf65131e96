use Rattle.std.proofs.Common.{◌≡◌, ◌≤◌, ◌<◌, ℕ, false}
use Rattle.qblocks.specs.Row.{row_filled}
use Rattle.qblocks.proofs.row.next_slot.Given as goal

abbrev pub invariant-loop-j : goal.invariant-loop-j
invariant-loop-j l = record { none : (q : ℕ) → l.first ≤ q → q < l.j → row_filled l.row q ≡ false }
