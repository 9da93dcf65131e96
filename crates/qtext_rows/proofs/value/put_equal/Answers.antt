use Rattle.qtext.proofs.Fronts.{ends_refused, partly_done, partly_next}
use Rattle.qtext_rows.proofs.Digits.{none_left, one_more}
use Rattle.qtext_rows.proofs.value.put_equal.Goals as goal

pub returns-in_err-put_pieces : goal.returns-in_err-put_pieces
returns-in_err-put_pieces g c = ends_refused _ _ _ _ _ _ _ _ c.from_residual.ensures.0 c.loop.invariant
    c.in_err-put_pieces.ensures (one_more c.args.count c.loop.counter c.args.byte c.loop-test.true)

pub loop-preserved : goal.loop-preserved
loop-preserved g c = partly_next _ _ _ _ _ _ _ c.loop.invariant c.in_ok-put_pieces.ensures
    (one_more c.args.count c.loop.counter c.args.byte c.loop-test.true)

pub returns : goal.returns
returns g c = partly_done _ _ _
    (rw (none_left c.args.count c.loop.counter c.args.byte c.loop-test.false) at c.loop.invariant)
