use Rattle.std.proofs.Common.{ap, ◌∙◌}
use Rattle.std.specs.BTreeMap.{is_at}
use Rattle.std.specs.Map.{lookup}
use Rattle.std.specs.Ordering.{nat_cmp}
use Rattle.qplain.specs.State.{inode_at}
use Rattle.qtext_image_read.specs.Digits.{bytes_of}
use Rattle.qstore_open.proofs.MoreBlocks.{block-put, kept-block, told-block}
use Rattle.qstore_open.proofs.opening.Opening.take_block.Goals as goal

pub invariant_of-self-2 : goal.invariant_of-self-2
invariant_of-self-2 c =
    let number = c.in-Some.number in
    let there = c.in-Some.ensures.there in
    let same = c.ready_write.ensures.same in
    let at = ap (λ t. inode_at t.state number) c.self.view_is ∙ there.1 in
    let put = c.put-new.ensures.inodes there.0 (ap (lookup (is_at (nat_cmp number))) same.inodes ∙ at) in
    kept-block c.self.inside c.args.self.now c.self.view_is c.self.invariant
    (c.args.block.now.index, bytes_of c.args.block.now.digits.now) number there.0 there.1
    c.put-new.new.self
    (block-put c.self.inside.tree.inodes _ _ number c.args.block.now.index (bytes_of c.args.block.now.digits.now) _ there.0 same.inodes c.fill.ensures put)
    (c.put-new.ensures.names ∙ same.names) (c.put-new.ensures.links ∙ same.links)

pub returns-clause-ok : goal.returns-clause-ok
returns-clause-ok c =
    let number = c.in-Some.number in
    let there = c.in-Some.ensures.there in
    let same = c.ready_write.ensures.same in
    let at = ap (λ t. inode_at t.state number) c.self.view_is ∙ there.1 in
    let put = c.put-new.ensures.inodes there.0 (ap (lookup (is_at (nat_cmp number))) same.inodes ∙ at) in
    told-block c.self.inside c.args.self.now c.self.view_is c.self.invariant
    (c.args.block.now.index, bytes_of c.args.block.now.digits.now) number there.0 there.1
    c.put-new.new.self
    (block-put c.self.inside.tree.inodes _ _ number c.args.block.now.index (bytes_of c.args.block.now.digits.now) _ there.0 same.inodes c.fill.ensures put)
    (c.put-new.ensures.names ∙ same.names) (c.put-new.ensures.links ∙ same.links) c.in-Some.ensures.last
