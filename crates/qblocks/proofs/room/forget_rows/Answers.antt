use Rattle.std.proofs.Common.{ap, sym, ◌∙◌, arith, ⊎_elim, is_some}
use Rattle.std.proofs.lemmas.Bool.{cases_eq}
use Rattle.qblocks.specs.Rows.{has_row, is_used, filled}
use Rattle.qblocks.proofs.Spans.{in_span_rest, in_span_out}
use Rattle.qblocks.proofs.Freed.{is_used-same}
use Rattle.qblocks.proofs.room.forget_rows.Goals as goal

pub loop-r-preserved : goal.loop-r-preserved
loop-r-preserved c =
    let r = c.loop-r.r in
    let e = c.forget_row.ensures in
    let i = c.loop-r.invariant in
    record {
      same = record { slots = λ k. e.same.slots k ∙ i.same.slots k };
      used = λ q in'.
          ⊎_elim
          (λ here. ap (has_row c.forget_row.new.rows) here ∙ e.used ∙ ap (is_used (filled c.forget_row.new.rows)) (sym here))
          (λ ne.
          e.others q ne ∙ i.used q (in_span_rest c.args.first r q in' ne)
          ∙ sym (is_used-same (filled c.loop-r.rows) (filled c.forget_row.new.rows) q (λ k. ap is_some (e.same.slots k))))
          (cases_eq q r);
      others = λ q out.
          let apart = in_span_out c.args.first r q (omega arith) out in
          e.others q apart.0 ∙ i.others q apart.1;
    }
