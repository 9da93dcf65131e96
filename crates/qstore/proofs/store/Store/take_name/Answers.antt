use Rattle.std.proofs.Common.{◌≡◌, true, Some, sym, ap, ◌∙◌}
use Rattle.qplain.specs.Rights.{may_remove}
use Rattle.qplain.specs.State.{inode_at}
use Rattle.qstore_tree.specs.Nodes.{inode_of, is_dir_content}
use Rattle.qstore_walk.specs.Paths.{name_in}
use Rattle.qstore.proofs.Calls.{unlink-becomes, unlinked-asked}
use Rattle.qstore.proofs.Deciding.{decision-along}
use Rattle.qstore.proofs.store.Store.take_name.Goals as goal

pub grant_removal-requires-clause-asked : goal.grant_removal-requires-clause-asked
grant_removal-requires-clause-asked c =
    let x = c.args in
    let s = x.self.now in
    let node = c.in-Some.node.now in
    let there : inode_at s.state x.number ≡ Some (inode_of node) = sym (c.in-Some.ensures.there s.state c.tree-tree.ensures) in
    let exchange = c.given_up-exchange.ensures in
    unlinked-asked s c.requires.can.whole x.dir (name_in x.path.now) x.number (inode_of node) c.requires.led there (ap is_dir_content c.in-File.is)
    c.given_up-exchange.result node.links (c.in-Some.ensures.links s.state c.tree-tree.ensures) exchange.more exchange.last

pub grant_removal-requires-clause-can : goal.grant_removal-requires-clause-can
grant_removal-requires-clause-can c =
    let x = c.args in
    let node = c.in-Some.node.now in
    let there : inode_at x.self.now.state x.number ≡ Some (inode_of node) = sym (c.in-Some.ensures.there x.self.now.state c.tree-tree.ensures) in
    record { led = c.requires.led; file = record { inode = inode_of node; there = there; is_file = ap is_dir_content c.in-File.is } }

pub returns : goal.returns
returns c =
    let x = c.args in
    let S = x.self.now.state in
    let inode = inode_of c.in-Some.node.now in
    let there : inode_at S x.number ≡ Some inode = sym (c.in-Some.ensures.there S c.tree-tree.ensures) in
    let may : may_remove S x.request.now.cred.now x.dir x.number ≡ true =
    sym (c.may_remove.ensures S c.tree-tree.ensures there) ∙ c.if-not-may_remove.false in
    decision-along x.self.now c.grant_removal.new.self x.request.now _ _ c.grant_removal.result
    (unlink-becomes S x.request.now.cred.now x.dir (name_in x.path.now) x.number inode c.requires.led there (ap is_dir_content c.in-File.is) may)
    c.grant_removal.ensures
