use Rattle.std.proofs.Common.{refl}
use Rattle.qtext.proofs.Fronts.{ends_refused, partly_done, partly_next}
use Rattle.qtext_rows.proofs.Records.{next_byte, no_byte}
use Rattle.qtext_rows.proofs.field.put_doubled.Goals as goal

pub loop-byte-preserved : goal.loop-byte-preserved
loop-byte-preserved g c = partly_next _ _ _ _ _ _ _ c.loop-byte.invariant c.in_ok-put_doubled_byte.ensures
    (next_byte c.args.field.now c.loop-byte.byte-index _ _ refl c.loop-byte-test.true)

pub returns-in_err-put_doubled_byte : goal.returns-in_err-put_doubled_byte
returns-in_err-put_doubled_byte g c = ends_refused _ _ _ _ _ _ _ _ c.from_residual.ensures.0 c.loop-byte.invariant
    c.in_err-put_doubled_byte.ensures (next_byte c.args.field.now c.loop-byte.byte-index _ _ refl c.loop-byte-test.true)

pub returns : goal.returns
returns g c = partly_done _ _ _
    (rw (no_byte c.args.field.now c.loop-byte.byte-index c.loop-byte-test.false) at c.loop-byte.invariant)
