use Rattle.std.proofs.Common.{◌≡◌, true, Some, ap, sym, ◌∙◌}
use Rattle.qplain.specs.Rights.{may_remove}
use Rattle.qplain.specs.State.{inode_at}
use Rattle.qplain.specs.Use.{is_empty}
use Rattle.qstore_tree.specs.Nodes.{inode_of, is_dir_content}
use Rattle.qstore_walk.specs.Paths.{name_in}
use Rattle.qstore.proofs.Deciding.{decision-along}
use Rattle.qstore.proofs.Directories.{removed-asked, rmdir-becomes}
use Rattle.qstore.proofs.store.Store.take_directory.Goals as goal

pub grant_removal-requires-clause-asked : goal.grant_removal-requires-clause-asked
grant_removal-requires-clause-asked c =
    let x = c.args in
    let s = x.self.now in
    let node = c.in-Some.node.now in
    let there : inode_at s.state x.number ≡ Some (inode_of node) = sym (c.in-Some.ensures.there s.state c.tree-tree.ensures) in
    removed-asked s c.requires.can.whole x.dir (name_in x.path.now) x.number (inode_of node) c.requires.led there
    (ap is_dir_content c.in-Directory.is) c.claim_of.result c.claim_of.ensures.claimed

pub returns : goal.returns
returns c =
    let x = c.args in
    let S = x.self.now.state in
    let inode = inode_of c.in-Some.node.now in
    let there : inode_at S x.number ≡ Some inode = sym (c.in-Some.ensures.there S c.tree-tree.ensures) in
    let may : may_remove S x.request.now.cred.now x.dir x.number ≡ true =
    sym (c.may_remove.ensures S c.tree-tree.ensures there) ∙ c.if-not-may_remove.false in
    let empty : is_empty S x.number ≡ true = sym (c.is_empty.ensures S c.tree-tree.ensures) ∙ c.if-not-is_empty.false in
    decision-along x.self.now c.grant_removal.new.self x.request.now _ _ c.grant_removal.result
    (rmdir-becomes S x.request.now.cred.now x.dir (name_in x.path.now) x.number inode c.requires.led there
    (ap is_dir_content c.in-Directory.is) may empty)
    c.grant_removal.ensures
