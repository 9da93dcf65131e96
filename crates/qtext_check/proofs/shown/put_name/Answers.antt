use Rattle.std.proofs.Common.{refl}
use Rattle.qtext.proofs.Fronts.{rows_go_on, rows_refused}
use Rattle.qtext_check.specs.Shown.{escaped_byte}
use Rattle.qtext_check.proofs.shown.put_name.Goals as goal

pub loop-byte-preserved : goal.loop-byte-preserved
loop-byte-preserved g c = rows_go_on _ _ _ escaped_byte _ _ _ _ refl c.loop-byte.invariant c.in_ok-put_name_byte.ensures
    c.loop-byte-test.true

pub returns-in_err-put_name_byte : goal.returns-in_err-put_name_byte
returns-in_err-put_name_byte g c = rows_refused _ _ _ _ escaped_byte _ _ _ _ refl c.from_residual.ensures.0
    c.loop-byte.invariant c.in_err-put_name_byte.ensures c.loop-byte-test.true
