use Rattle.std.proofs.Common.{◌≡◌, ◌+◌, ◌-◌, ap, ◌∙◌, arith, is_some, ◌/◌, ℕ}
use Rattle.qblocks.specs.declared.block.TheConstants.{BLOCK_SIZE}
use Rattle.qblocks.specs.declared.row.TheConstants.{ROW_BLOCKS}
use Rattle.qblocks.specs.Row.{gaps, row_filled}
use Rattle.qblocks.proofs.Spans.{gaps-same, gaps-split, gaps-all}
use Rattle.qblocks.proofs.row.cut.Goals as goal

pub returns-clause-freed : goal.returns-clause-freed
returns-clause-freed c =
    let first = (c.args.at + BLOCK_SIZE - 1) / BLOCK_SIZE in
    let old = row_filled c.args.row.now in
    let new = row_filled c.zero_tail.new.row in
    let e = c.free_from.ensures in
    let z = c.zero_tail.ensures in
    let kept = gaps-same old new 0 first (λ j _ l. z.filled j ∙ ap is_some (e.before j (omega arith))) in
    let freed = gaps-all new first (ROW_BLOCKS - first) (λ j l _. z.filled j ∙ ap is_some (e.freed j l)) in
    let at : 0 + first ≡ first = omega arith in
    let whole : ROW_BLOCKS ≡ first + (ROW_BLOCKS - first) = omega arith in
    omega (
      arith,
      kept,
      freed,
      ap (gaps old 0) whole,
      ap (gaps new 0) whole,
      gaps-split old 0 first (ROW_BLOCKS - first),
      gaps-split new 0 first (ROW_BLOCKS - first),
      ap (λ (x : ℕ). gaps old x (ROW_BLOCKS - first)) at,
      ap (λ (x : ℕ). gaps new x (ROW_BLOCKS - first)) at,
      c.missing.ensures.missing,
      c.missing.ensures.bound,
    )
