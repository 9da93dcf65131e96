use Rattle.qstore_tree.proofs.Gathered.{Gathers}
use Rattle.qstore_tree.proofs.tree.Tree.directories.Given as goal

abbrev pub invariant-loop-number : goal.invariant-loop-number
invariant-loop-number l = Gathers l.self.names l.directories.items l.number-iterator
