use Rattle.std.proofs.Common.{ap}
use Rattle.qstore_tree.specs.Nodes.{inode_of}
use Rattle.qstore_tree.proofs.AllNames.{named-in}
use Rattle.qstore_tree.proofs.Numbered.{seen-get}
use Rattle.qstore_tree.proofs.tree.Tree.node.Goals as goal

pub returns-clause-inode : goal.returns-clause-inode
returns-clause-inode c =
    let e = seen-get inode_of c.self.inside.nodes.entries c.args.number in
    let v = ap (λ t. t.inodes) c.self.view_is in
    cc

pub returns-clause-links : goal.returns-clause-links
returns-clause-links c =
    let e = seen-get (λ n. n.links) c.self.inside.nodes.entries c.args.number in
    let v = ap (λ t. t.links) c.self.view_is in
    cc

pub returns-clause-names : goal.returns-clause-names
returns-clause-names c =
    named-in c.self.inside.nodes.entries c.args.self.now.names c.args.number c.get.result (ap (λ t. t.names) c.self.view_is) c.get.ensures.value
