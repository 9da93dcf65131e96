use Rattle.std.proofs.Common.{◌≡◌, ℕ, ◌+◌, ◌/◌, ◌%◌, ap, sym, ◌∙◌, arith, ⊎_elim, is_some, subst}
use Rattle.std.proofs.lemmas.Bool.{cases_eq, cases_lt}
use Rattle.qblocks.specs.declared.block.TheConstants.{BLOCK_SIZE}
use Rattle.qblocks.specs.declared.row.TheConstants.{ROW_BLOCKS, ROW_SIZE}
use Rattle.qblocks.specs.Row.{slot_at, byte_of, row_byte}
use Rattle.qblocks.specs.Rows.{slots_of, has_row, filled, is_used, Frees}
use Rattle.qblocks.proofs.Table.{byte_at-own, byte_at-same}
use Rattle.qblocks.proofs.Freed.{Frees-row, Frees-none, Frees-more, is_used-same, is_used-row, absent_is_unused, there_if_used}
use Rattle.qblocks.proofs.cut.cut.Goals as goal

pub returns-clause-cuts : goal.returns-clause-cuts
returns-clause-cuts c = record {
  before = λ o l.
      let e = c.cut_row-cut.ensures in
      let kept = c.pop_rows-freed.ensures.before in
      let row = c.args.size / ROW_SIZE in
      ap (λ slot. byte_of slot (o % BLOCK_SIZE)) (c.forget_row.ensures.same.slots (o / BLOCK_SIZE))
      ∙ ⊎_elim
      (λ here.
      byte_at-own c.cut_row-cut.new.rows row o here ∙ e.cuts.before (o % ROW_SIZE) (omega arith)
      ∙ ap (λ r. row_byte (slots_of r) (o % ROW_SIZE)) (kept row (omega arith)) ∙ sym (byte_at-own c.args.rows.now row o here))
      (λ below.
      byte_at-same c.args.rows.now c.cut_row-cut.new.rows o
      (e.only.others (o / BLOCK_SIZE / ROW_BLOCKS) (λ at. below (omega (arith, at))) ∙ ap slots_of (kept (o / BLOCK_SIZE / ROW_BLOCKS) (omega arith))))
      (cases_eq (o / ROW_SIZE) row);
  tail = λ o l.
      let e = c.cut_row-cut.ensures in
      let q = o / BLOCK_SIZE / ROW_BLOCKS in
      ap (λ slot. byte_of slot (o % BLOCK_SIZE)) (c.forget_row.ensures.same.slots (o / BLOCK_SIZE))
      ∙ ⊎_elim
      (λ here. byte_at-own c.cut_row-cut.new.rows (c.args.size / ROW_SIZE) o here ∙ e.cuts.tail (o % ROW_SIZE) (omega arith))
      (λ past.
      ap (λ row. byte_of (slot_at row (o / BLOCK_SIZE % ROW_BLOCKS)) (o % BLOCK_SIZE))
      (e.only.others q (λ at. past (omega (arith, at))) ∙ ap slots_of (c.pop_rows-freed.ensures.none q (omega (arith, past)))))
      (cases_eq (o / ROW_SIZE) (c.args.size / ROW_SIZE));
}

pub returns-clause-used : goal.returns-clause-used
returns-clause-used c = λ r.
    let popped = c.pop_rows-freed.new.rows in
    let cut = c.cut_row-cut.new.rows in
    let new = c.forget_row.new.rows in
    let e = c.cut_row-cut.ensures in
    let row = c.args.size / ROW_SIZE in
    ⊎_elim
    (λ here. ap (has_row new) here ∙ c.forget_row.ensures.used ∙ ap (is_used (filled new)) (sym here))
    (λ other.
    let same = is_used-same (filled cut) (filled new) r (λ k. ap is_some (c.forget_row.ensures.same.slots k))
    ∙ is_used-row popped cut r (e.only.others r other) in
    c.forget_row.ensures.others r other ∙ e.only.rows r
    ∙ ⊎_elim
    (λ below.
    let kept = c.pop_rows-freed.ensures.before r (omega arith) in
    ap is_some kept ∙ c.requires.rows.used r ∙ sym (same ∙ is_used-row c.args.rows.now popped r (ap slots_of kept)))
    (λ past.
    let gone = ap is_some (c.pop_rows-freed.ensures.none r (omega (arith, other))) in
    gone ∙ sym (same ∙ absent_is_unused popped r gone))
    (cases_lt r row))
    (cases_eq r row)

pub returns-clause-frees : goal.returns-clause-frees
returns-clause-frees c =
    let old = c.args.rows.now in
    let popped = c.pop_rows-freed.new.rows in
    let cut = c.cut_row-cut.new.rows in
    let new = c.forget_row.new.rows in
    let e = c.cut_row-cut.ensures in
    let row = c.args.size / ROW_SIZE in
    let same : (k : ℕ) → filled new k ≡ filled cut k = λ k. ap is_some (c.forget_row.ensures.same.slots k) in
    let one = Frees-row popped cut row c.cut_row-cut.result e.only.others e.freed (λ q there. sym (e.only.rows q) ∙ there) in
    let none = Frees-none cut new same (λ q there.
    ⊎_elim
    (λ here. ap (has_row cut) here
    ∙ there_if_used cut row (sym (is_used-same (filled cut) (filled new) row same)
    ∙ sym c.forget_row.ensures.used ∙ ap (has_row new) (sym here) ∙ there))
    (λ other. sym (c.forget_row.ensures.others q other) ∙ there)
    (cases_eq q row)) in
    let sum : c.pop_rows-freed.result + c.cut_row-cut.result + 0 ≡ c.pop_rows-freed.result + c.cut_row-cut.result = omega arith in
    subst (Frees old new) sum
    (Frees-more old cut new (c.pop_rows-freed.result + c.cut_row-cut.result) 0
    (Frees-more old popped cut c.pop_rows-freed.result c.cut_row-cut.result c.pop_rows-freed.ensures.frees
    one) none)
