use Rattle.std.proofs.Common.{◌≡◌, ◌++◌, drop, flat_map, map}
use Rattle.std.specs.Ordering.{nat_cmp}
use Rattle.std.specs.Cmp.Lexicographic.{slice_cmp}
use Rattle.qstore_tree.specs.InOrder.{in_order}
use Rattle.qstore_tree.specs.Names.{name_row}
use Rattle.qstore_tree.proofs.Rows.{row_of_borrowed}
use Rattle.qstore_tree.proofs.names.Names.push_rows.Given as goal

abbrev pub invariant-loop-name : goal.invariant-loop-name
invariant-loop-name l =
    l.rows.items ++ flat_map (row_of_borrowed l.dir) (drop l.name-index l.name-items)
    ≡ l.initial.rows.items ++ map (name_row l.dir) (in_order (slice_cmp nat_cmp) l.self.entries)
