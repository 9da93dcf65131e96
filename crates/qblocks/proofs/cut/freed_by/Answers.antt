use Rattle.std.proofs.Common.{ℕ, ◌+◌, ◌-◌, ◌*◌, ◌/◌, ap, sym, arith, ◌∙◌}
use Rattle.qblocks.specs.declared.block.TheConstants.{BLOCK_SIZE}
use Rattle.qblocks.specs.declared.row.TheConstants.{ROW_BLOCKS}
use Rattle.qblocks.specs.Row.{gaps, row_filled}
use Rattle.qblocks.specs.Rows.{filled, row_of, slots_of}
use Rattle.qblocks.proofs.Past.{all_counted, next_counted}
use Rattle.qblocks.proofs.Spans.{gaps_none}
use Rattle.qblocks.proofs.cut.freed_by.Goals as goal

pub loop-r-init : goal.loop-r-init
loop-r-init c =
    let first = (c.args.size + BLOCK_SIZE - 1) / BLOCK_SIZE in
    record {
      order = omega arith;
      bound = omega arith;
      count = omega (arith, gaps_none (filled c.args.rows.now) first (first - first) (omega arith));
    }

pub loop-r-preserved : goal.loop-r-preserved
loop-r-preserved c =
    let first = (c.args.size + BLOCK_SIZE - 1) / BLOCK_SIZE in
    let r = c.in-Some.r in
    let there = c.in-Some.ensures.next in
    let small = c.requires.bound r there.1 in
    let from = ap (λ (x : ℕ). x - r * ROW_BLOCKS) c.max.ensures in
    let first_slot = c.max.result - r * ROW_BLOCKS in
    let seen = ap (λ row. gaps (row_filled row) first_slot (ROW_BLOCKS - first_slot)) c.deref.ensures
    ∙ ap (λ row. gaps (row_filled (slots_of row)) first_slot (ROW_BLOCKS - first_slot)) (sym c.in-Some.ensures.row) in
    let missing = c.missing.ensures.missing ∙ seen
    ∙ ap (λ (x : ℕ). gaps (row_filled (row_of c.args.rows.now r)) x (ROW_BLOCKS - x)) from in
    let count = next_counted c.args.rows.now first c.loop-r.at r c.loop-r.freed c.missing.result c.loop-r.invariant.order
    there.0 there.2 missing c.loop-r.invariant.count in
    record {
      order = omega (arith, there.0, c.loop-r.invariant.order);
      bound = omega (arith, small);
      count = ap (λ (x : ℕ). c.loop-r.freed + (ROW_BLOCKS - x - c.missing.result)
          + gaps (filled c.args.rows.now) first ((r + 1) * ROW_BLOCKS - first)) from ∙ count;
    }

pub returns : goal.returns
returns c =
    all_counted c.args.rows.now ((c.args.size + BLOCK_SIZE - 1) / BLOCK_SIZE) c.loop-r.at c.loop-r.freed
    c.loop-r.invariant.order c.loop-r.invariant.bound c.in_default.ensures.next c.loop-r.invariant.count
