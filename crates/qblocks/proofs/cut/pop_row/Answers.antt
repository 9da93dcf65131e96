use Rattle.std.proofs.Common.{ap, ◌∙◌, sym, arith, ⊎_elim, is_some, ◌-◌, None}
use Rattle.std.proofs.lemmas.Bool.{cases_eq}
use Rattle.std.specs.BTreeMap as tree
use Rattle.std.specs.Ordering.{nat_cmp}
use Rattle.qblocks.specs.declared.row.TheConstants.{ROW_BLOCKS}
use Rattle.qblocks.specs.Row.{gaps, row_filled}
use Rattle.qblocks.specs.Rows.{slots_of, has_row}
use Rattle.qblocks.proofs.Freed.{Frees-row, other_rows, gaps_absent}
use Rattle.qblocks.proofs.cut.pop_row.Goals as goal

pub returns-in-Some-pop_last-clause-frees : goal.returns-in-Some-pop_last-clause-frees
returns-in-Some-pop_last-clause-frees c =
    let m = c.args.rows.now in
    let n = c.pop_last.new.self in
    let r = c.in-Some-pop_last.field-0-0 in
    let e = c.in-Some-pop_last.ensures in
    let gone = gaps_absent (tree.get nat_cmp n r) (ap is_some e.updates.1) in
    let seen = ap (λ row. gaps (row_filled row) 0 ROW_BLOCKS) c.deref.ensures in
    let was = ap (λ o. gaps (row_filled (slots_of o)) 0 ROW_BLOCKS) e.value in
    Frees-row m n r (ROW_BLOCKS - c.missing.result)
    (λ q ne. ap slots_of (other_rows m n r None e.updates q ne))
    (omega (arith, gone, was, seen, c.missing.ensures.missing)) (λ q there.
    ⊎_elim
    (λ here. ap (has_row m) here ∙ ap is_some e.value)
    (λ ne. ap is_some (sym (other_rows m n r None e.updates q ne)) ∙ there)
    (cases_eq q r))
