use Rattle.std.proofs.Common.{◌≡◌, arith, length, map, subst, take, ◌∙◌}
use Rattle.std.proofs.lemmas.List.{take_all}
use Rattle.qsession.specs.Inodes.{inode_in}
use Rattle.qsession.proofs.Put.{rows-put}
use Rattle.qsession.proofs.inodes.list_inodes.Goals as goal

pub returns : goal.returns
returns c =
    let rows = c.args.rows.now in
    let end : c.loop-i.i ≡ length rows = omega (arith, c.loop-i.auto.i-end, c.loop-i-test.false) in
    rows-put inode_in rows c.loop-i.list (omega (arith, c.if-rows-list.false, c.loop-i.auto.list))
    (subst (λ k. map inode_in (take k c.loop-i.list) ≡ take k rows) end c.loop-i.invariant ∙ take_all (length rows) rows (omega arith))
