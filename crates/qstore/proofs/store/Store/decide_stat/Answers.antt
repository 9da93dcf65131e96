use Rattle.std.proofs.Common.{sym, ap, ◌∙◌}
use Rattle.qplain.specs.declared.reply.Reply.TheVariants.{Stat}
use Rattle.qplain.specs.Files.{stat_at, stat_of}
use Rattle.qplain.specs.Step.{settle}
use Rattle.qstore_tree.specs.Nodes.{inode_of}
use Rattle.qstore.proofs.store.Store.decide_stat.Goals as goal

pub returns-in-Ok : goal.returns-in-Ok
returns-in-Ok c cred moment =
    let S = c.args.self.now.state in
    let inode = inode_of c.in-Ok.found.node.now in
    let links = (c.in-Ok.ensures.links S c.tree.ensures) in
    (λ i. (S, Stat (c.stat_of.ensures i)))
    ∙ (λ i. (S, Stat (record (stat_of S c.in-Ok.found.number inode) { links = links i })))
    ∙ sym (ap (settle S cred moment) (c.in-Ok.ensures.found S c.tree.ensures (stat_at S)))

pub returns-in-Err : goal.returns-in-Err
returns-in-Err c cred moment =
    let S = c.args.self.now.state in
    sym (ap (settle S cred moment) (c.in-Err.ensures.fault S c.tree.ensures (stat_at S)))
