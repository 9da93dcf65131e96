use Rattle.std.proofs.Common.{◌<◌, ◌^◌}
use Rattle.qtext.proofs.Fronts.{rows_go_on, rows_refused}
use Rattle.qtext_image_write.specs.Lines.{record_text}
use Rattle.qtext_image_write.proofs.Typing.{one_more}
use Rattle.qtext_image_write.proofs.record_text.put_rows.Goals as goal

pub loop-row-preserved : goal.loop-row-preserved
loop-row-preserved g c = record {
  written = rows_go_on _ _ _ record_text _ _ c.row-item.result _ c.row-item.is c.loop-row.invariant.written
      c.in_ok-put_record.ensures.writes c.loop-row-test.true;
  held = one_more (λ r. r.id < 2 ^ 32) _ _ c.row-item.result _ c.row-item.is c.loop-row-test.true
      c.in_ok-put_record.ensures.held c.loop-row.invariant.held;
}

pub returns-in_err-put_record-clause-writes : goal.returns-in_err-put_record-clause-writes
returns-in_err-put_record-clause-writes g c =
    rows_refused _ _ _ _ record_text _ _ c.row-item.result _ c.row-item.is c.from_residual.ensures.0
    c.loop-row.invariant.written c.in_err-put_record.ensures.writes c.loop-row-test.true
