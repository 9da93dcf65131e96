use Rattle.std.proofs.Common.{◌++◌, map, IsPermutation}
use Rattle.qstore_tree.specs.Listed.{node_entry}
use Rattle.qstore_tree.proofs.Rows.{seen}
use Rattle.qstore_tree.proofs.tree.Tree.nodes.Given as goal

abbrev pub invariant-loop-number : goal.invariant-loop-number
invariant-loop-number l = IsPermutation l.self.inodes (map node_entry l.nodes.items ++ map seen l.number-iterator)
