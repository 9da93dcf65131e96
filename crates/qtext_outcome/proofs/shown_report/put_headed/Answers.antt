use Rattle.qtext.proofs.Fronts.{refused_first, writes_then}
use Rattle.qtext_outcome.specs.Reports.{heads_text, shown_rows}
use Rattle.qtext_outcome.proofs.shown_report.put_headed.Goals as goal

pub returns-in_err-put_heads : goal.returns-in_err-put_heads
returns-in_err-put_heads g c = refused_first _ _ _ (heads_text c.args.shown.view)
    (shown_rows c.args.shown.view c.args.rows.now c.args.shown.moment) c.from_residual.ensures.0 c.in_err-put_heads.ensures

pub returns : goal.returns
returns g c = writes_then _ _ _ _ (heads_text c.args.shown.view) (shown_rows c.args.shown.view c.args.rows.now c.args.shown.moment)
    c.in_ok-put_heads.ensures c.put_rows.ensures
