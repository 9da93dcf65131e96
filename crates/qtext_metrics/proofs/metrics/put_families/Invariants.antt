use Rattle.std.proofs.Common.{drop}
use Rattle.std.specs.List.{flat_map}
use Rattle.qtext.specs.Written.{Partly}
use Rattle.qtext_metrics.specs.Metrics.{family_text}
use Rattle.qtext_metrics.proofs.metrics.put_families.Given as goal

abbrev pub invariant-loop-family : goal.invariant-loop-family
invariant-loop-family g l =
    Partly (g.W.Write.contents l.fn.out) (g.W.Write.contents l.out)
    (flat_map (family_text l.setup l.board) l.families)
    (flat_map (family_text l.setup l.board) (drop l.family-index l.families))
