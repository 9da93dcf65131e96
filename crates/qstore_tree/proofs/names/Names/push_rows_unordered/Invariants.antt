use Rattle.std.proofs.Common.{◌++◌, map, IsPermutation}
use Rattle.qstore_tree.specs.Names.{name_row}
use Rattle.qstore_tree.proofs.Rows.{row_to}
use Rattle.qstore_tree.proofs.names.Names.push_rows_unordered.Given as goal

abbrev pub invariant-loop-ino : goal.invariant-loop-ino
invariant-loop-ino l =
    IsPermutation (l.initial.rows.items ++ map (name_row l.dir) l.self.entries) (l.rows.items ++ map (row_to l.dir) l.ino-iterator)
