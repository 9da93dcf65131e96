use Rattle.std.proofs.Common.{◌/◌, ap, arith, sym, ◌∙◌, ℕ}
use Rattle.qblocks.specs.declared.row.TheConstants.{ROW_SIZE}
use Rattle.qblocks.specs.WriteRoom.{WriteRoom, no_room}
use Rattle.qblocks.specs.Row.{in_span}
use Rattle.qblocks.specs.Rows.{is_used, filled}
use Rattle.qblocks.proofs.Spans.{or_no}
use Rattle.qblocks.proofs.Used.{in_no_room}
use Rattle.qblocks.proofs.View.{file_of-same}
use Rattle.qblocks.proofs.Fields.{FieldsFit-same, rows_forgotten}
use Rattle.qblocks.proofs.file.BlockFile.forget_room.Goals as goal

pub invariant_of-self : goal.invariant_of-self
invariant_of-self c =
    let old = c.self.inside.rows in
    let new = c.forget_rows.new.rows in
    let e = c.forget_rows.ensures in
    let room : WriteRoom = record { off = c.self.inside.room_off; len = c.self.inside.room_len } in
    let first = c.self.inside.room_off / ROW_SIZE in
    let used = rows_forgotten old new e.same first c.span_end-end.result e.used e.others (λ r out.
    c.self.invariant.rows r ∙ sym (or_no (is_used (filled old) r) _ (ap (λ (end : ℕ). in_span first end r) (sym c.span_end-end.ensures.end) ∙ out))) in
    FieldsFit-same old new c.self.inside.size c.self.inside.count room no_room e.same (λ r. used r
    ∙ or_no (is_used (filled new) r) _ (in_no_room r)) (omega arith) c.self.invariant

pub returns-clause-same : goal.returns-clause-same
returns-clause-same c =
    file_of-same c.self.inside.rows c.forget_rows.new.rows c.self.inside.size c.forget_rows.ensures.same ∙ ap (λ f. f.file) c.self.view_is
