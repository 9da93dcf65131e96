use Rattle.std.proofs.Common.{refl}
use Rattle.qstore_tree.proofs.TreeChanges.{same_tree-reordered}
use Rattle.qstore_tree.proofs.tree.Tree.make_inode_room.Goals as goal

pub returns-clause-same : goal.returns-clause-same
returns-clause-same c =
    same_tree-reordered c.self.inside.nodes.entries c.reserve.new.self.entries _ _ c.args.self.now c.args.self.now
    c.self.view_is (record { inodes = refl; names = refl; links = refl }) c.reserve.ensures.entries.2
