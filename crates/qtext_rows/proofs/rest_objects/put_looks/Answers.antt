use Rattle.qtext.proofs.Fronts.{rows_end, rows_go_on, rows_refused}
use Rattle.qtext_rows.specs.Rest.{look_object}
use Rattle.qtext_rows.proofs.rest_objects.put_looks.Goals as goal

pub loop-look-preserved : goal.loop-look-preserved
loop-look-preserved g c = rows_go_on _ _ _ (look_object) _ _ c.look-item.result _ c.look-item.is c.loop-look.invariant
    c.in_ok-put_look.ensures c.loop-look-test.true

pub returns-in_err-put_look : goal.returns-in_err-put_look
returns-in_err-put_look g c = rows_refused _ _ _ _ (look_object) _ _ c.look-item.result _ c.look-item.is
    c.from_residual.ensures.0 c.loop-look.invariant c.in_err-put_look.ensures c.loop-look-test.true

pub returns : goal.returns
returns g c = rows_end _ _ (look_object) _ _ c.loop-look.invariant c.loop-look-test.false
