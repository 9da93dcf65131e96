use Rattle.std.proofs.Common.{◌≡◌, ◌++◌, drop, flat_map, map}
use Rattle.qstore_tree.specs.Listed.{name_entry}
use Rattle.qstore_tree.proofs.Listed.{entries_under}
use Rattle.qstore_tree.proofs.tree.Tree.names.Given as goal

abbrev pub invariant-loop-dir : goal.invariant-loop-dir
invariant-loop-dir l = map name_entry l.all.items ++ flat_map entries_under (drop l.dir-index l.dir-items) ≡ l.self.names
