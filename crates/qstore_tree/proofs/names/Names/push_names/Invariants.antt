use Rattle.std.proofs.Common.{◌≡◌, ◌++◌, drop, flat_map, map}
use Rattle.std.specs.Ordering.{nat_cmp}
use Rattle.std.specs.Cmp.Lexicographic.{slice_cmp}
use Rattle.qstore_tree.specs.InOrder.{in_order}
use Rattle.qstore_tree.specs.Listed.{name_entry}
use Rattle.qstore_tree.specs.Tree.{keyed}
use Rattle.qstore_tree.proofs.Listed.{entry_of_borrowed}
use Rattle.qstore_tree.proofs.names.Names.push_names.Given as goal

abbrev pub invariant-loop-name : goal.invariant-loop-name
invariant-loop-name l =
    map name_entry l.all.items ++ flat_map (entry_of_borrowed l.dir) (drop l.name-index l.name-items)
    ≡ map name_entry l.initial.all.items ++ keyed l.dir (in_order (slice_cmp nat_cmp) l.self.entries)
