use Rattle.std.proofs.Common.{◌+◌, arith}
use Rattle.qtext.proofs.Fronts.{ends_refused, partly_done, partly_next}
use Rattle.qtext_rows.proofs.LineObjects.{next_line, over}
use Rattle.qtext_rows.proofs.line_objects.put_transcript.Goals as goal

pub loop-at-preserved : goal.loop-at-preserved
loop-at-preserved g c =
    let at = c.loop-at.at in
    let told = c.args.transcript.now in
    partly_next _ _ _ _ _ _ _ c.loop-at.invariant (rw c.worker-worker.ensures at c.in_ok-put_line.ensures)
    (next_line c.args.calls told.worker (at + 1) at told.lines told.answers c.line-line.result c.answer-answer.result
    (c.line-line.ensures c.line-line.result) (c.answer-answer.ensures c.answer-answer.result)
    (omega (arith, c.len-at-end.ensures.lines, c.loop-at-test.true)) (omega (arith, c.len-at-end.ensures.answers, c.loop-at-test.true)))

pub returns-in_err-put_line : goal.returns-in_err-put_line
returns-in_err-put_line g c =
    let at = c.loop-at.at in
    let told = c.args.transcript.now in
    ends_refused _ _ _ _ _ _ _ _ c.from_residual.ensures.0 c.loop-at.invariant (rw c.worker-worker.ensures at c.in_err-put_line.ensures)
    (next_line c.args.calls told.worker (at + 1) at told.lines told.answers c.line-line.result c.answer-answer.result
    (c.line-line.ensures c.line-line.result) (c.answer-answer.ensures c.answer-answer.result)
    (omega (arith, c.len-at-end.ensures.lines, c.loop-at-test.true)) (omega (arith, c.len-at-end.ensures.answers, c.loop-at-test.true)))

pub returns : goal.returns
returns g c =
    let told = c.args.transcript.now in
    partly_done _ _ _
    (rw (over c.args.calls told.worker (c.loop-at.at + 1) c.loop-at.at told.lines told.answers
    (omega (arith, c.len-at-end.ensures.lines, c.loop-at-test.false))) at c.loop-at.invariant)
