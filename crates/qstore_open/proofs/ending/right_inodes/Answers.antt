use Rattle.std.proofs.Common.{◌≡◌, ℕ, ◌+◌, false, slice_index_or, cond, drop, Some, ap, sym, ◌∙◌, arith, None}
use Rattle.qrules.specs.declared.inode_row.InodeRow.{InodeRow}
use Rattle.qstore_open.specs.Counting.{rows_line}
use Rattle.qstore_open.proofs.Behind.{blocks-behind, rows-behind}
use Rattle.qstore_open.proofs.ending.right_inodes.Goals as goal

-- a row of no inode, which stands past the end of a list
past : InodeRow
past = record { ino = 0; dir = false; uid = 0; gid = 0; project = None; blocks = 0; links = 0 }

pub returns-then-not-has : goal.returns-then-not-has
unfolding past
returns-then-not-has c =
    let rows = c.args.inodes.now in
    let i = c.loop-inode.inode-index in
    let line : ℕ = c.loop-inode.line in
    let found = sym c.has.ensures ∙ c.if-not-has.true in
    c.loop-inode.invariant.lines
    ∙ rows-behind c.args.reach.now line rows i past c.loop-inode-test.true
    ∙ ap (λ b. cond b (rows_line c.args.reach.now (line + 1 + (slice_index_or rows i past).blocks) (drop (i + 1) rows)) (Some line)) found

pub overflow_add-line-in-loop-inode : goal.overflow_add-line-in-loop-inode
unfolding past
overflow_add-line-in-loop-inode c =
    let behind = c.loop-inode.invariant.behind in
    let blocks = blocks-behind c.args.inodes.now c.loop-inode.inode-index past c.loop-inode-test.true in
    omega (arith, behind, blocks)

pub loop-inode-preserved : goal.loop-inode-preserved
unfolding past
loop-inode-preserved c =
    let rows = c.args.inodes.now in
    let i = c.loop-inode.inode-index in
    let line : ℕ = c.loop-inode.line in
    let behind = c.loop-inode.invariant.behind in
    let blocks = blocks-behind rows i past c.loop-inode-test.true in
    let found = sym c.has.ensures ∙ c.if-not-has.false in
    let next : line + 1 + (slice_index_or rows i past).blocks ≡ line + (1 + (slice_index_or rows i past).blocks) = omega arith in
    record {
      behind = omega (arith, behind, blocks);
      lines =
          c.loop-inode.invariant.lines
          ∙ rows-behind c.args.reach.now line rows i past c.loop-inode-test.true
          ∙ ap (λ b. cond b (rows_line c.args.reach.now (line + 1 + (slice_index_or rows i past).blocks) (drop (i + 1) rows)) (Some line)) found
          ∙ ap (λ n. rows_line c.args.reach.now n (drop (i + 1) rows)) next;
    }
