use Rattle.std.proofs.Common.{◌≡◌, None, Some, ap, refl, sym, ◌∙◌}
use Rattle.qplain.specs.State.{inode_at}
use Rattle.qplain_laws.proofs.Finding.{led-there}
use Rattle.qstore_tree.specs.Nodes.{inode_of, is_dir_content}
use Rattle.qstore.proofs.Replaced.{directory-asked, file-asked, moved-asked}
use Rattle.qstore.proofs.store.Store.replaced.Goals as goal

pub returns-in_default : goal.returns-in_default
returns-in_default c name r = moved-asked c.args.self.now c.requires.can.whole name c.args.new.now r c.requires.empty c.in_default.is

pub unreachable-requires : goal.unreachable-requires
unreachable-requires c =
    let S = c.args.self.now.state in
    let to = c.args.new.now.to in
    let none : inode_at S c.in-Some.number ≡ None = sym (c.in_default-inode.ensures.there S c.tree.ensures) in
    led-there S c.requires.can.whole.sound.lawful to.dir to.name.now c.in-Some.number (sym c.requires.renaming.1.leads_to ∙ c.in-Some.is) none

pub returns-in-Directory : goal.returns-in-Directory
returns-in-Directory c name r =
    let s = c.args.self.now in
    let replaced = inode_of c.in-Some-inode.node.now in
    let there : inode_at s.state c.in-Some.number ≡ Some replaced = sym (c.in-Some-inode.ensures.there s.state c.tree.ensures) in
    directory-asked s c.requires.can.whole name c.args.new.now r c.requires.empty c.in-Some.number replaced c.in-Some.is there _
    (ap is_dir_content c.in-Directory.is) (record { claim = c.claim_of.result; claimed = c.claim_of.ensures.claimed; is = refl })

pub returns-in-File : goal.returns-in-File
returns-in-File c name r =
    let s = c.args.self.now in
    let node = c.in-Some-inode.node.now in
    let there : inode_at s.state c.in-Some.number ≡ Some (inode_of node) = sym (c.in-Some-inode.ensures.there s.state c.tree.ensures) in
    file-asked s c.requires.can.whole name c.args.new.now r c.requires.empty c.in-Some.number (inode_of node) c.in-Some.is there
    c.given_up.result node.links (ap is_dir_content c.in-File.is) (c.in-Some-inode.ensures.links s.state c.tree.ensures)
    c.given_up.ensures.more c.given_up.ensures.last
