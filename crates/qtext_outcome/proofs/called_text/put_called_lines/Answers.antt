use Rattle.std.proofs.Common.{◌+◌, arith}
use Rattle.qtext.proofs.Fronts.{ends_refused, partly_done, partly_next}
use Rattle.qtext_outcome.proofs.CalledLines.{called_next, over}
use Rattle.qtext_outcome.proofs.called_text.put_called_lines.Goals as goal

pub loop-at-preserved : goal.loop-at-preserved
loop-at-preserved g c =
    let at = c.loop-at.at in
    let told = c.args.transcript.now in
    partly_next _ _ _ _ _ _ _ c.loop-at.invariant c.in_ok-put_called.ensures
    (called_next (at + 1) at told.lines told.answers c.line-line.result c.answer-answer.result
    (c.line-line.ensures c.line-line.result) (c.answer-answer.ensures c.answer-answer.result)
    (omega (arith, c.len-at-end.ensures.lines, c.loop-at-test.true)) (omega (arith, c.len-at-end.ensures.answers, c.loop-at-test.true)))

pub returns-in_err-put_called : goal.returns-in_err-put_called
returns-in_err-put_called g c =
    let at = c.loop-at.at in
    let told = c.args.transcript.now in
    ends_refused _ _ _ _ _ _ _ _ c.from_residual.ensures.0 c.loop-at.invariant c.in_err-put_called.ensures
    (called_next (at + 1) at told.lines told.answers c.line-line.result c.answer-answer.result
    (c.line-line.ensures c.line-line.result) (c.answer-answer.ensures c.answer-answer.result)
    (omega (arith, c.len-at-end.ensures.lines, c.loop-at-test.true)) (omega (arith, c.len-at-end.ensures.answers, c.loop-at-test.true)))

pub returns : goal.returns
returns g c =
    let told = c.args.transcript.now in
    partly_done _ _ _
    (rw (over (c.loop-at.at + 1) c.loop-at.at told.lines told.answers
    (omega (arith, c.len-at-end.ensures.lines, c.loop-at-test.false))) at c.loop-at.invariant)
