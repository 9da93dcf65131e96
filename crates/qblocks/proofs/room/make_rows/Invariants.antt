use Rattle.std.proofs.Common.{◌≡◌, ℕ, true, false}
use Rattle.qblocks.specs.Row.{in_span}
use Rattle.qblocks.specs.Rows.{SameBlocks, has_row}
use Rattle.qblocks.proofs.room.make_rows.Given as goal

abbrev pub invariant-loop-r : goal.invariant-loop-r
invariant-loop-r l = record {
  same : SameBlocks l.initial.rows l.rows;
  made : (q : ℕ) → in_span l.first l.r q ≡ true → has_row l.rows q ≡ true;
  others : (q : ℕ) → in_span l.first l.r q ≡ false → has_row l.rows q ≡ has_row l.initial.rows q;
}
