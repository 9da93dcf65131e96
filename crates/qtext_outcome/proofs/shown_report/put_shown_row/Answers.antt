use Rattle.qtext.proofs.Fronts.{appends_nothing}
use Rattle.qtext_outcome.proofs.shown_report.put_shown_row.Goals as goal

pub returns-then-not-is_over_any : goal.returns-then-not-is_over_any
returns-then-not-is_over_any g c = rw (c.if-view.true, ← c.if-not-is_over_any.ensures) (appends_nothing _)
