use Rattle.std.proofs.Common.{refl, sym, ◌∙◌}
use Rattle.qshare_boards.specs.Whole.{is_row_of}
use Rattle.qshare_boards.proofs.Found.{found_here, passed_here}
use Rattle.qshare_boards.proofs.sheet.find_row.Goals as goal

pub returns-then-is_row_of : goal.returns-then-is_row_of
returns-then-is_row_of c =
    sym (found_here (is_row_of c.args.kind c.args.id) c.args.rows.now c.loop-row.row-index _ _ c.loop-row.invariant c.loop-row-test.true refl
    (sym c.is_row_of.ensures ∙ c.if-is_row_of.true))

pub loop-row-preserved : goal.loop-row-preserved
loop-row-preserved c =
    passed_here (is_row_of c.args.kind c.args.id) c.args.rows.now c.loop-row.row-index _ _ c.loop-row.invariant c.loop-row-test.true refl
    (sym c.is_row_of.ensures ∙ c.if-is_row_of.false)
