use Rattle.std.proofs.Common.{◌++◌, flat_map, map, IsPermutation}
use Rattle.qstore_tree.specs.Tree.{name_row_of}
use Rattle.qstore_tree.proofs.Rows.{rows_in}
use Rattle.qstore_tree.proofs.tree.Tree.name_rows_unordered.Given as goal

abbrev pub invariant-loop-number : goal.invariant-loop-number
invariant-loop-number l = IsPermutation (map name_row_of l.self.names) (l.rows.items ++ flat_map rows_in l.number-iterator)
