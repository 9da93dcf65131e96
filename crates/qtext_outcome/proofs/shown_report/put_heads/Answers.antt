use Rattle.qtext_outcome.proofs.shown_report.put_heads.Goals as goal

pub returns-then-view : goal.returns-then-view
returns-then-view g c = rw c.if-view.true c.put.ensures

pub returns-else-view : goal.returns-else-view
returns-else-view g c = rw c.if-view.false c.put-else-view.ensures
