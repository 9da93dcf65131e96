use Rattle.std.proofs.Common.{refl}
use Rattle.qtext.proofs.Fronts.{rows_end, rows_go_on, rows_refused}
use Rattle.qtext_rows.specs.Csv.{next_field}
use Rattle.qtext_rows.proofs.field.put_fields.Goals as goal

pub loop-field-preserved : goal.loop-field-preserved
loop-field-preserved g c = rows_go_on _ _ _ (λ f. next_field f.now) _ _ _ _ refl c.loop-field.invariant
    c.in_ok-put_next.ensures c.loop-field-test.true

pub returns-in_err-put_next : goal.returns-in_err-put_next
returns-in_err-put_next g c = rows_refused _ _ _ _ (λ f. next_field f.now) _ _ _ _ refl
    c.from_residual.ensures.0 c.loop-field.invariant c.in_err-put_next.ensures c.loop-field-test.true

pub returns : goal.returns
returns g c = rows_end _ _ (λ f. next_field f.now) _ _ c.loop-field.invariant c.loop-field-test.false
