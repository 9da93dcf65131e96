use Rattle.std.proofs.Common.{◌≡◌, false, sym, ap, ◌∙◌, is_some}
use Rattle.qblocks.specs.declared.row.TheConstants.{ROW_BLOCKS}
use Rattle.qblocks.specs.Row.{gaps, row_filled}
use Rattle.qblocks.specs.Rows.{has_row, slots_of}
use Rattle.qblocks.proofs.Freed.{absent_is_unused, used_is_there}
use Rattle.qblocks.proofs.room.is_vacant.Goals as goal

pub returns-in-Some-clause-used : goal.returns-in-Some-clause-used
returns-in-Some-clause-used c used =
    let seen = ap (λ row. gaps (row_filled (slots_of row)) 0 ROW_BLOCKS) c.in-Some.ensures.value in
    let here = ap (λ row. gaps (row_filled row) 0 ROW_BLOCKS) c.deref.ensures in
    used_is_there c.args.rows.now c.args.r (λ all. c.is_vacant.ensures.used used (here ∙ seen ∙ all))

pub returns-in-None-clause-used : goal.returns-in-None-clause-used
returns-in-None-clause-used c used =
    let absent : has_row c.args.rows.now c.args.r ≡ false = ap is_some (sym c.in-None.ensures.value) in
    absent ∙ sym (absent_is_unused c.args.rows.now c.args.r absent)
