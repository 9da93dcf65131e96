use Rattle.std.proofs.Common.{refl}
use Rattle.qtext.proofs.Fronts.{rows_end, rows_go_on, rows_refused}
use Rattle.qtext_rows.specs.Values.{part_text}
use Rattle.qtext_rows.proofs.part.put_parts.Goals as goal

pub loop-part-preserved : goal.loop-part-preserved
loop-part-preserved g c = rows_go_on _ _ _ part_text _ _ _ _ refl c.loop-part.invariant
    c.in_ok-put_part.ensures c.loop-part-test.true

pub returns-in_err-put_part : goal.returns-in_err-put_part
returns-in_err-put_part g c = rows_refused _ _ _ _ part_text _ _ _ _ refl
    c.from_residual.ensures.0 c.loop-part.invariant c.in_err-put_part.ensures c.loop-part-test.true

pub returns : goal.returns
returns g c = rows_end _ _ part_text _ _ c.loop-part.invariant c.loop-part-test.false
