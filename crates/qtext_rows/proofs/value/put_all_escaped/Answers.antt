use Rattle.std.proofs.Common.{refl}
use Rattle.json.specs.Print.{escape_byte}
use Rattle.qtext.proofs.Fronts.{rows_go_on, rows_refused}
use Rattle.qtext_rows.proofs.value.put_all_escaped.Goals as goal

pub loop-byte-preserved : goal.loop-byte-preserved
loop-byte-preserved g c = rows_go_on _ _ _ escape_byte _ _ _ _ refl c.loop-byte.invariant c.in_ok-put_escaped.ensures
    c.loop-byte-test.true

pub returns-in_err-put_escaped : goal.returns-in_err-put_escaped
returns-in_err-put_escaped g c = rows_refused _ _ _ _ escape_byte _ _ _ _ refl c.from_residual.ensures.0
    c.loop-byte.invariant c.in_err-put_escaped.ensures c.loop-byte-test.true
