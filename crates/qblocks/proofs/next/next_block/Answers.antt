use Rattle.std.proofs.Common.{ap, sym, ◌∙◌, arith, ◌-◌, ◌*◌, subst, Some, List, ℕ}
use Rattle.qblocks.specs.declared.row.TheConstants.{ROW_BLOCKS}
use Rattle.qblocks.specs.Row.{IsFirstFrom, row_filled, Slot}
use Rattle.qblocks.specs.Rows.{slots_of}
use Rattle.qblocks.proofs.FirstFrom.{next_in_row}
use Rattle.qblocks.proofs.next.next_block.Goals as goal

pub overflow_add-result : goal.overflow_add-result
overflow_add-result c =
    omega (arith, c.requires c.in-Some.r c.in-Some.ensures.next.1, c.in-Some-next_slot.ensures.bound)

pub returns-in-Some-next_slot : goal.returns-in-Some-next_slot
returns-in-Some-next_slot c =
    let next = c.in-Some.ensures.next in
    let slot = c.in-Some-next_slot.slot in
    let first = c.max.result - c.in-Some.r * ROW_BLOCKS in
    let First : List Slot → Type 0 = λ row. IsFirstFrom (row_filled row) first (Some slot) in
    let seen = c.deref.ensures ∙ ap slots_of (sym c.in-Some.ensures.row) in
    let found = subst First seen c.in-Some-next_slot.ensures.next in
    next_in_row c.args.rows.now c.args.from c.loop-r.at c.in-Some.r first slot c.loop-r.invariant.order next.0
    c.in-Some-next_slot.ensures.bound c.loop-r.invariant.none next.2
    (ap (λ (x : ℕ). x - c.in-Some.r * ROW_BLOCKS) c.max.ensures) found
