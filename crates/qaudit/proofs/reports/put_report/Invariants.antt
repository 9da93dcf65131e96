use Rattle.std.proofs.Common.{drop}
use Rattle.qaudit.specs.Reports.{report_text}
use Rattle.qtext.specs.Written.{Partly}
use Rattle.qaudit.proofs.reports.put_report.Given as goal

abbrev pub invariant-loop-row : goal.invariant-loop-row
invariant-loop-row g l = Partly (g.W.Write.contents l.fn.out) (g.W.Write.contents l.out)
    (report_text l.rows l.moment) (report_text (drop l.row-index l.rows) l.moment)
