use Rattle.std.proofs.Common.{◌≡◌, ◌/◌, ◌||◌, ap, arith, sym, ◌∙◌, ℕ, length}
use Rattle.qblocks.specs.declared.row.TheConstants.{ROW_SIZE}
use Rattle.qblocks.specs.File.{with_touched}
use Rattle.qblocks.specs.WriteRoom.{WriteRoom}
use Rattle.qblocks.specs.Row.{in_span}
use Rattle.qblocks.specs.Rows.{is_used, in_room, filled}
use Rattle.qblocks.proofs.Spans.{or_no, in_span_none}
use Rattle.qblocks.proofs.Used.{in_no_room, used-touched}
use Rattle.qblocks.proofs.View.{file_of-same, missing_blocks}
use Rattle.qblocks.proofs.Fields.{FieldsFit-same, rows_forgotten, rows_made, rows_used, used-same}
use Rattle.qblocks.proofs.file.BlockFile.make_room.Goals as goal
use Rattle.qblocks.proofs.file.BlockFile.make_room.Goals.{then-missing-eq0, else-missing-eq0}

pub invariant_of-self : goal.invariant_of-self
invariant_of-self c =
    let old = c.self.inside.rows in
    let made = c.make_rows.new.rows in
    let new = c.forget_rows.new.rows in
    let room : WriteRoom = record { off = c.self.inside.room_off; len = c.self.inside.room_len } in
    let none = ap (λ f. f.room) c.self.view_is ∙ c.requires.room in
    let was = rows_used old c.self.inside.size c.self.inside.count room none c.self.invariant in
    let e = c.in-Err.ensures in
    let f = c.forget_rows.ensures in
    let used = rows_forgotten made new f.same (c.args.off / ROW_SIZE) c.if-missing-eq0.end f.used f.others
    (λ r out. e.others r out ∙ was r ∙ sym (used-same old made e.same r)) in
    FieldsFit-same old new c.self.inside.size c.self.inside.count room room
    (record { slots = λ k. f.same.slots k ∙ e.same.slots k }) (λ r. used r
    ∙ or_no (is_used (filled new) r) _ (ap (λ x. in_room x r) none ∙ in_no_room r))
    c.self.invariant.room_bounded c.self.invariant

pub invariant_of-self-2 : goal.invariant_of-self-2
invariant_of-self-2 c =
    let old = c.self.inside.rows in
    let new = c.make_rows.new.rows in
    let first = c.args.off / ROW_SIZE in
    let room : WriteRoom = record { off = c.args.off; len = c.args.len } in
    let was = rows_used old c.self.inside.size c.self.inside.count _ (ap (λ f. f.room) c.self.view_is ∙ c.requires.room) c.self.invariant in
    let e = c.in_default.ensures in
    let before = ap (λ f. length f.file.allocated) c.self.view_is in
    let after = ap (λ f. length (with_touched f.file.allocated c.args.off c.args.len)) c.self.view_is in
    let gaps = missing_blocks old c.self.inside.size c.args.off c.args.len c.self.invariant.below in
    let covers : (r : ℕ) → (is_used (filled old) r || in_span first c.if-missing-eq0.end r)
    ≡ (is_used (filled old) r || in_room room r) = λ r. elim c.if-missing-eq0.branch [
      | then-missing-eq0 w ↦
          sym (or_no (is_used (filled old) r) _ (in_span_none first c.if-missing-eq0.end r (omega (arith, w.end-is))))
          ∙ used-touched (filled old) c.args.off c.args.len r (omega (arith, before, after, gaps, w.if-missing-eq0.true))
      | else-missing-eq0 w ↦
          ap (λ (end : ℕ). is_used (filled old) r || in_span first end r) (w.end-is ∙ w.span_end-end.ensures.end)
    ] in
    FieldsFit-same old new c.self.inside.size c.self.inside.count _ room e.same
    (rows_made old new e.same room first c.if-missing-eq0.end covers e.made e.others was) (omega arith)
    c.self.invariant

pub returns-in-Err-clause-same : goal.returns-in-Err-clause-same
returns-in-Err-clause-same c =
    file_of-same c.make_rows.new.rows c.forget_rows.new.rows c.self.inside.size c.forget_rows.ensures.same
    ∙ file_of-same c.self.inside.rows c.make_rows.new.rows c.self.inside.size c.in-Err.ensures.same ∙ ap (λ f. f.file) c.self.view_is

pub returns-clause-same : goal.returns-clause-same
returns-clause-same c =
    file_of-same c.self.inside.rows c.make_rows.new.rows c.self.inside.size c.in_default.ensures.same ∙ ap (λ f. f.file) c.self.view_is
