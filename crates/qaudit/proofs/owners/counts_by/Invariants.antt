use Rattle.std.proofs.Common.{◌≡◌, ◌++◌, take}
use Rattle.std.specs.Map.{values_of}
use Rattle.qaudit.specs.Owners.{counted_with, keys_with}
use Rattle.qaudit.specs.Recount.{counts_by}
use Rattle.qaudit.proofs.Counting.{AreCounted}
use Rattle.qaudit.proofs.owners.counts_by.Given as goal

abbrev pub invariant-loop-row : goal.invariant-loop-row
invariant-loop-row l = AreCounted l.fn.kind (take l.row-index l.inodes) (keys_with l.counts l.run) (counted_with l.counts l.run)

abbrev pub invariant-loop-row-2 : goal.invariant-loop-row-2
invariant-loop-row-2 l = l.rows.items ++ values_of l.row-iterator ≡ counts_by l.fn.kind l.inodes
