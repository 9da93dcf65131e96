use Rattle.std.proofs.Common.{codes}
use Rattle.std.specs.List.{flat_map}
use Rattle.qtext.proofs.Fronts.{refused_first, writes_then}
use Rattle.qtext_outcome.proofs.CountedLines.{counts_joined, one_count}
use Rattle.qtext_outcome.proofs.counts.put_counts.Goals as goal

pub returns-in_err-put_each : goal.returns-in_err-put_each
returns-in_err-put_each g c =
    rw (← counts_joined c.args.counts.now)
    (refused_first _ _ _ (flat_map one_count c.args.counts.now) (codes "\n") c.from_residual.ensures.0
    c.in_err-put_each.ensures)

pub returns : goal.returns
returns g c =
    rw (← counts_joined c.args.counts.now)
    (writes_then _ _ _ _ (flat_map one_count c.args.counts.now) (codes "\n") c.in_ok-put_each.ensures c.put.ensures)
