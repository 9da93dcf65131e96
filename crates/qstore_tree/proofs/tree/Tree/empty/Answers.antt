use Rattle.std.proofs.Common.{ap}
use Rattle.qstore_tree.specs.InOrder.{read_by}
use Rattle.qstore_tree.specs.Nodes.{inode_of}
use Rattle.qstore_tree.specs.Tree.{all_names}
use Rattle.qstore_tree.proofs.TreeChanges.{in_order-none}
use Rattle.qstore_tree.proofs.tree.Tree.empty.Goals as goal

pub returns-clause-inodes : goal.returns-clause-inodes
returns-clause-inodes c = ap (read_by inode_of) (in_order-none c.new.ensures.empty)

pub returns-clause-names : goal.returns-clause-names
returns-clause-names c = ap all_names (in_order-none c.new.ensures.empty)

pub returns-clause-links : goal.returns-clause-links
returns-clause-links c = ap (read_by (λ n. n.links)) (in_order-none c.new.ensures.empty)
