use Rattle.qtext.proofs.Fronts.{rows_end, rows_go_on, rows_refused}
use Rattle.qaudit.specs.Audits.{difference_text}
use Rattle.qaudit.proofs.audit_text.put_differences.Goals as goal

pub loop-difference-preserved : goal.loop-difference-preserved
loop-difference-preserved g c =
    rows_go_on _ _ _ difference_text _ _ c.difference-item.result _ c.difference-item.is c.loop-difference.invariant
    c.in_ok-put_difference.ensures c.loop-difference-test.true

pub returns-in_err-put_difference : goal.returns-in_err-put_difference
returns-in_err-put_difference g c =
    rows_refused _ _ _ _ difference_text _ _ c.difference-item.result _ c.difference-item.is c.from_residual.ensures.0
    c.loop-difference.invariant c.in_err-put_difference.ensures c.loop-difference-test.true

pub returns : goal.returns
returns g c = rows_end _ _ difference_text _ _ c.loop-difference.invariant c.loop-difference-test.false
