use Rattle.qtext.proofs.Fronts.{rows_end, rows_go_on, rows_refused}
use Rattle.qtext_rows.specs.Csv.{csv_record}
use Rattle.qtext_rows.proofs.report_rows.put_records.Goals as goal

pub loop-row-preserved : goal.loop-row-preserved
loop-row-preserved g c = rows_go_on _ _ _ (csv_record c.args.shown.view c.args.kind c.args.shown.moment) _ _ c.row-item.result _
    c.row-item.is c.loop-row.invariant
    c.in_ok-put_shown.ensures c.loop-row-test.true

pub returns-in_err-put_shown : goal.returns-in_err-put_shown
returns-in_err-put_shown g c = rows_refused _ _ _ _ (csv_record c.args.shown.view c.args.kind c.args.shown.moment) _ _ c.row-item.result _ c.row-item.is
    c.from_residual.ensures.0 c.loop-row.invariant c.in_err-put_shown.ensures c.loop-row-test.true

pub returns : goal.returns
returns g c = rows_end _ _ (csv_record c.args.shown.view c.args.kind c.args.shown.moment) _ _ c.loop-row.invariant c.loop-row-test.false
