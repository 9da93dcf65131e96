use Rattle.std.proofs.Common.{refl}
use Rattle.qtext.proofs.Fronts.{rows_go_on, rows_refused}
use Rattle.qtext_metrics.specs.Services.{mishap_row}
use Rattle.qtext_metrics.proofs.service.put_mishaps.Goals as goal

pub loop-mishap-preserved : goal.loop-mishap-preserved
loop-mishap-preserved g c =
    rows_go_on _ _ _ (mishap_row c.args.counts.now) _ _ _ _ refl c.loop-mishap.invariant
    c.in_ok-put_mishap.ensures c.loop-mishap-test.true

pub returns-in_err-put_mishap : goal.returns-in_err-put_mishap
returns-in_err-put_mishap g c =
    rows_refused _ _ _ _ (mishap_row c.args.counts.now) _ _ _ _ refl
    c.from_residual.ensures.0 c.loop-mishap.invariant c.in_err-put_mishap.ensures c.loop-mishap-test.true
