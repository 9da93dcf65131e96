use Rattle.std.proofs.Common.{◌≡◌, ◌<◌, ℕ, length}
use Rattle.std.specs.BTreeMap as tree
use Rattle.std.specs.Ordering.{nat_cmp}
use Rattle.qblocks.specs.Rows.{Frees}
use Rattle.qblocks.proofs.cut.pop_rows.Given as goal

abbrev pub invariant-loop-blocks : goal.invariant-loop-blocks
invariant-loop-blocks l = record {
  before : (r : ℕ) → r < l.keep → tree.get nat_cmp l.rows r ≡ tree.get nat_cmp l.initial.rows r;
  frees : Frees l.initial.rows l.rows l.freed;
}

abbrev pub decreases-loop-blocks : goal.decreases-loop-blocks
decreases-loop-blocks l = length l.rows.entries
