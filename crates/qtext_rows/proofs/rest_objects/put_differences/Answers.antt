use Rattle.qtext.proofs.Fronts.{rows_end, rows_go_on, rows_refused}
use Rattle.qtext_rows.specs.Rest.{difference_object}
use Rattle.qtext_rows.proofs.rest_objects.put_differences.Goals as goal

pub loop-difference-preserved : goal.loop-difference-preserved
loop-difference-preserved g c = rows_go_on _ _ _ (difference_object) _ _ c.difference-item.result _ c.difference-item.is c.loop-difference.invariant
    c.in_ok-put_difference.ensures c.loop-difference-test.true

pub returns-in_err-put_difference : goal.returns-in_err-put_difference
returns-in_err-put_difference g c = rows_refused _ _ _ _ (difference_object) _ _ c.difference-item.result _ c.difference-item.is
    c.from_residual.ensures.0 c.loop-difference.invariant c.in_err-put_difference.ensures c.loop-difference-test.true

pub returns : goal.returns
returns g c = rows_end _ _ (difference_object) _ _ c.loop-difference.invariant c.loop-difference-test.false
