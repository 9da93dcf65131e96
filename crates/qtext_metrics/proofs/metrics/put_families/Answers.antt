use Rattle.std.proofs.Common.{refl}
use Rattle.qtext.proofs.Fronts.{rows_end, rows_go_on, rows_refused}
use Rattle.qtext_metrics.specs.Metrics.{family_text}
use Rattle.qtext_metrics.proofs.metrics.put_families.Goals as goal

pub loop-family-preserved : goal.loop-family-preserved
loop-family-preserved g c =
    rows_go_on _ _ _ (family_text c.args.setup.now c.args.board.now) _ _ _ _ refl c.loop-family.invariant
    c.in_ok-put_family.ensures c.loop-family-test.true

pub returns-in_err-put_family : goal.returns-in_err-put_family
returns-in_err-put_family g c =
    rows_refused _ _ _ _ (family_text c.args.setup.now c.args.board.now) _ _ _ _ refl
    c.from_residual.ensures.0 c.loop-family.invariant c.in_err-put_family.ensures c.loop-family-test.true

pub returns : goal.returns
returns g c =
    rows_end _ _ (family_text c.args.setup.now c.args.board.now) _ _ c.loop-family.invariant c.loop-family-test.false
