use Rattle.std.proofs.Common.{drop}
use Rattle.std.specs.List.{flat_map}
use Rattle.qtext.specs.Written.{Partly}
use Rattle.qtext_metrics.specs.Services.{mishap_row}
use Rattle.qtext_metrics.proofs.service.put_mishaps.Given as goal

abbrev pub invariant-loop-mishap : goal.invariant-loop-mishap
invariant-loop-mishap g l =
    Partly (g.W.Write.contents l.fn.out) (g.W.Write.contents l.out)
    (flat_map (mishap_row l.counts) l.mishaps) (flat_map (mishap_row l.counts) (drop l.mishap-index l.mishaps))
