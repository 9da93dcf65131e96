use Rattle.std.proofs.Common.{◌≡◌, ◌<◌, ◌≤◌, ℕ, None, length}
use Rattle.qblocks.specs.Row.{slot_at}
use Rattle.qblocks.proofs.row.free_from.Given as goal

abbrev pub invariant-loop-j : goal.invariant-loop-j
invariant-loop-j l = record {
  long : length l.row ≡ 16;
  before : (q : ℕ) → q < l.first → slot_at l.row q ≡ slot_at l.initial.row q;
  freed : (q : ℕ) → l.first ≤ q → q < l.j → slot_at l.row q ≡ None;
}
