use Rattle.std.proofs.Common.{drop}
use Rattle.qtext.specs.Written.{Partly}
use Rattle.qtext_outcome.specs.Reports.{shown_rows}
use Rattle.qtext_outcome.proofs.shown_report.put_rows.Given as goal

abbrev pub invariant-loop-row : goal.invariant-loop-row
invariant-loop-row g l = Partly (g.W.Write.contents l.fn.out) (g.W.Write.contents l.out)
    (shown_rows l.shown.view l.rows l.shown.moment) (shown_rows l.shown.view (drop l.row-index l.rows) l.shown.moment)
