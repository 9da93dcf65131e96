use Rattle.std.proofs.Common.{drop}
use Rattle.std.specs.List.{flat_map}
use Rattle.qtext_rows.specs.Records.{shown_object}
use Rattle.qtext.specs.Written.{Partly}
use Rattle.qtext_rows.proofs.record_objects.put_records.Given as goal

abbrev pub invariant-loop-row : goal.invariant-loop-row
invariant-loop-row g l = Partly (g.W.Write.contents l.fn.out) (g.W.Write.contents l.out)
    (flat_map (shown_object l.shown.view l.shown.moment) l.rows) (flat_map (shown_object l.shown.view l.shown.moment) (drop l.row-index l.rows))
