use Rattle.qplain.specs.declared.refusal.Refusal.TheVariants.{EMLINK}
use Rattle.qplain.specs.Names.{owners_by}
use Rattle.qstore.proofs.Deciding.{decision-along, refused-here}
use Rattle.qstore.proofs.Directories.{mkdir-attempt}
use Rattle.qstore.proofs.store.Store.make_directory.Goals as goal

pub returns-then-has_all_links : goal.returns-then-has_all_links
returns-then-has_all_links c =
    let x = c.args in
    let s = x.self.now in
    let cred = x.request.now.cred.now in
    let free = c.requires.free in
    refused-here s c.refused.new.self x.request.now _ c.refused.result EMLINK
    (mkdir-attempt s.state (owners_by s.state cred x.dir) x.dir x.name.now _ c.requires.can.whole.sound.lawful free.absent free.directory
    (c.if-has_all_links.ensures s.state c.tree.ensures free.directory))
    c.refused.ensures.plan c.refused.ensures.reply

pub returns : goal.returns
returns c =
    let x = c.args in
    let s = x.self.now in
    let cred = x.request.now.cred.now in
    let free = c.requires.free in
    decision-along s c.make_inode.new.self x.request.now _ _ c.make_inode.result
    (mkdir-attempt s.state (owners_by s.state cred x.dir) x.dir x.name.now _ c.requires.can.whole.sound.lawful free.absent free.directory
    (c.if-has_all_links.ensures s.state c.tree.ensures free.directory))
    c.make_inode.ensures
