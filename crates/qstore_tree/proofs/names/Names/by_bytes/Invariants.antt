use Rattle.std.proofs.Common.{◌++◌, map, IsPermutation}
use Rattle.qstore_tree.specs.Names.{borrowed_entry}
use Rattle.qstore_tree.proofs.Sorted.{text_entry}
use Rattle.qstore_tree.proofs.names.Names.by_bytes.Given as goal

abbrev pub invariant-loop-name : goal.invariant-loop-name
invariant-loop-name l = IsPermutation l.self.entries (map borrowed_entry l.names.items ++ map text_entry l.name-iterator)
