use Rattle.qtext.proofs.Fronts.{rows_end, rows_go_on, rows_refused}
use Rattle.qtext_outcome.specs.Reports.{shown_row}
use Rattle.qtext_outcome.proofs.shown_report.put_rows.Goals as goal

pub loop-row-preserved : goal.loop-row-preserved
loop-row-preserved g c = rows_go_on _ _ _ (shown_row c.args.shown.view c.args.shown.moment) _ _ c.row-item.result _ c.row-item.is
    c.loop-row.invariant c.in_ok-put_shown_row.ensures c.loop-row-test.true

pub returns-in_err-put_shown_row : goal.returns-in_err-put_shown_row
returns-in_err-put_shown_row g c =
    rows_refused _ _ _ _ (shown_row c.args.shown.view c.args.shown.moment) _ _ c.row-item.result _ c.row-item.is
    c.from_residual.ensures.0 c.loop-row.invariant c.in_err-put_shown_row.ensures c.loop-row-test.true

pub returns : goal.returns
returns g c = rows_end _ _ (shown_row c.args.shown.view c.args.shown.moment) _ _ c.loop-row.invariant c.loop-row-test.false
