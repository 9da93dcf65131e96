use Rattle.std.proofs.Common.{◌≡◌, arith, ◌^◌, ◌+◌, ◌%◌, ◌/◌, ap, sym, ◌∙◌, subst, is_some}
use Rattle.qblocks.specs.Row.{slot_at}
use Rattle.qblocks.specs.Rows.{Frees, slots_of}
use Rattle.qblocks.specs.declared.row.TheConstants.{ROW_BLOCKS}
use Rattle.qblocks.proofs.Freed.{Frees-more, Frees-none, freed_le}
use Rattle.qblocks.proofs.cut.pop_rows.Goals as goal

pub overflow_add-freed : goal.overflow_add-freed
overflow_add-freed c =
    let both = Frees-more c.args.rows.now c.loop-blocks.rows c.pop_row.new.rows c.loop-blocks.freed
    c.in-Some.blocks c.loop-blocks.invariant.frees c.in-Some.ensures.frees in
    omega (arith, freed_le c.args.rows.now c.pop_row.new.rows (c.loop-blocks.freed + c.in-Some.blocks) (2 ^ 28) both c.requires)

pub loop-blocks-preserved : goal.loop-blocks-preserved
loop-blocks-preserved c = record {
  before = λ r l. c.in-Some.ensures.before r l ∙ c.loop-blocks.invariant.before r l;
  frees = Frees-more c.args.rows.now c.loop-blocks.rows c.pop_row.new.rows c.loop-blocks.freed
      c.in-Some.blocks c.loop-blocks.invariant.frees c.in-Some.ensures.frees;
}

pub returns-clause-bound : goal.returns-clause-bound
returns-clause-bound c =
    omega (arith, freed_le c.args.rows.now c.loop-blocks.rows c.loop-blocks.freed (2 ^ 28) c.loop-blocks.invariant.frees c.requires)

pub returns-clause-frees : goal.returns-clause-frees
returns-clause-frees c =
    let same = c.in_default.ensures.same in
    let last = Frees-none c.loop-blocks.rows c.pop_row.new.rows
    (λ k. ap (λ row. is_some (slot_at (slots_of row) (k % ROW_BLOCKS))) (same (k / ROW_BLOCKS)))
    (λ r there. sym (ap is_some (same r)) ∙ there) in
    let sum : c.loop-blocks.freed + 0 ≡ c.loop-blocks.freed = omega arith in
    subst (Frees c.args.rows.now c.pop_row.new.rows) sum
    (Frees-more c.args.rows.now c.loop-blocks.rows c.pop_row.new.rows c.loop-blocks.freed 0
    c.loop-blocks.invariant.frees last)
