use Rattle.std.proofs.Common.{◌≡◌, ◌++◌, drop, flat_map, map}
use Rattle.qstore_tree.specs.Tree.{name_row_of}
use Rattle.qstore_tree.proofs.Rows.{rows_under}
use Rattle.qstore_tree.proofs.tree.Tree.name_rows.Given as goal

abbrev pub invariant-loop-dir : goal.invariant-loop-dir
invariant-loop-dir l = l.rows.items ++ flat_map rows_under (drop l.dir-index l.dir-items) ≡ map name_row_of l.self.names
