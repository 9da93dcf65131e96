use Rattle.std.proofs.Common.{drop}
use Rattle.std.specs.List.{flat_map}
use Rattle.qtext.specs.Written.{Partly}
use Rattle.qtext_metrics.specs.Metrics.{family_row}
use Rattle.qtext_metrics.proofs.metrics.put_rows.Given as goal

abbrev pub invariant-loop-row : goal.invariant-loop-row
invariant-loop-row g l =
    Partly (g.W.Write.contents l.fn.out) (g.W.Write.contents l.out)
    (flat_map (family_row l.setup l.family) l.rows) (flat_map (family_row l.setup l.family) (drop l.row-index l.rows))
