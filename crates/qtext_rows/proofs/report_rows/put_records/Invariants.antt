use Rattle.std.proofs.Common.{drop}
use Rattle.std.specs.List.{flat_map}
use Rattle.qtext_rows.specs.Csv.{csv_record}
use Rattle.qtext.specs.Written.{Partly}
use Rattle.qtext_rows.proofs.report_rows.put_records.Given as goal

abbrev pub invariant-loop-row : goal.invariant-loop-row
invariant-loop-row g l = Partly (g.W.Write.contents l.fn.out) (g.W.Write.contents l.out)
    (flat_map (csv_record l.shown.view l.kind l.shown.moment) l.rows) (flat_map (csv_record l.shown.view l.kind l.shown.moment) (drop l.row-index l.rows))
