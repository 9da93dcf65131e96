use Rattle.std.proofs.Common.{refl}
use Rattle.qtext.proofs.Fronts.{rows_go_on, rows_refused}
use Rattle.qtext_metrics.specs.Metrics.{family_row}
use Rattle.qtext_metrics.proofs.metrics.put_rows.Goals as goal

pub loop-row-preserved : goal.loop-row-preserved
loop-row-preserved g c =
    rows_go_on _ _ _ (family_row c.args.setup.now c.args.family) _ _ _ _ refl c.loop-row.invariant
    c.in_ok-put_row.ensures c.loop-row-test.true

pub returns-in_err-put_row : goal.returns-in_err-put_row
returns-in_err-put_row g c =
    rows_refused _ _ _ _ (family_row c.args.setup.now c.args.family) _ _ _ _ refl
    c.from_residual.ensures.0 c.loop-row.invariant c.in_err-put_row.ensures c.loop-row-test.true
