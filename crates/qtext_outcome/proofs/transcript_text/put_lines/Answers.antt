use Rattle.std.proofs.Common.{arith}
use Rattle.qtext.proofs.Fronts.{rows_end, rows_go_on, rows_refused}
use Rattle.qtext_write.specs.Answers.{answer_text}
use Rattle.qtext_outcome.proofs.transcript_text.put_lines.Goals as goal

pub loop-at-preserved : goal.loop-at-preserved
loop-at-preserved g c =
    rows_go_on _ _ _ answer_text _ _ c.answer.result _ (c.answer.ensures c.answer.result) c.loop-at.invariant
    c.in_ok-put_answer.ensures (omega (arith, c.len-at-end.ensures.answers, c.loop-at-test.true))

pub returns-in_err-put_answer : goal.returns-in_err-put_answer
returns-in_err-put_answer g c =
    rows_refused _ _ _ _ answer_text _ _ c.answer.result _ (c.answer.ensures c.answer.result) c.from_residual.ensures.0
    c.loop-at.invariant c.in_err-put_answer.ensures (omega (arith, c.len-at-end.ensures.answers, c.loop-at-test.true))

pub returns : goal.returns
returns g c = rows_end _ _ answer_text _ _ c.loop-at.invariant (omega (arith, c.len-at-end.ensures.answers, c.loop-at-test.false))
