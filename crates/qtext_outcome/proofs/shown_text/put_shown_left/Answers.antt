use Rattle.qtext.proofs.Fronts.{appends_then, front_of_first, front_of_second, refused_first, writes_then}
use Rattle.qtext_outcome.specs.Outcomes.{moment_text, rest_text}
use Rattle.qtext_outcome.specs.Reports.{shown_report}
use Rattle.qtext_outcome.proofs.shown_text.put_shown_left.Goals as goal

pub returns-in_err-put_moment : goal.returns-in_err-put_moment
returns-in_err-put_moment g c =
    refused_first _ _ _ _ (rest_text c.args.outcome.now) c.from_residual.ensures.0
    (front_of_first _ _ _ (shown_report c.args.shown.view c.args.outcome.now.records c.args.shown.moment) c.in_err-put_moment.ensures)

pub returns-in_err-put_shown_report : goal.returns-in_err-put_shown_report
returns-in_err-put_shown_report g c =
    refused_first _ _ _ _ (rest_text c.args.outcome.now) c.from_residual-in_err-put_shown_report.ensures.0
    (front_of_second _ _ _ (moment_text c.args.shown.moment) (shown_report c.args.shown.view c.args.outcome.now.records c.args.shown.moment)
    c.in_ok-put_moment.ensures (rw c.as_slice.ensures at c.in_err-put_shown_report.ensures))

pub returns : goal.returns
returns g c =
    writes_then _ _ _ _ _ (rest_text c.args.outcome.now)
    (appends_then _ _ _ (moment_text c.args.shown.moment) (shown_report c.args.shown.view c.args.outcome.now.records c.args.shown.moment)
    c.in_ok-put_moment.ensures (rw c.as_slice.ensures at c.in_ok-put_shown_report.ensures)) c.put_rest.ensures
