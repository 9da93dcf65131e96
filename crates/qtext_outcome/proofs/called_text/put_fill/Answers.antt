use Rattle.qtext.proofs.Fronts.{partly_on, passes_front}
use Rattle.qtext_outcome.proofs.CalledLines.{fill_joined, fill_rest, rest_joined}
use Rattle.qtext_outcome.proofs.called_text.put_fill.Goals as goal

pub returns-in_err-put_word-clause-passes : goal.returns-in_err-put_word-clause-passes
returns-in_err-put_word-clause-passes g c = passes_front _ _ _ _ _
    (fill_rest c.args.off c.args.count c.args.byte) _ c.from_residual.ensures.0
    (rw (c.text.ensures.text, c.bytes.ensures.bytes) at c.in_err-put_word.ensures.passes)
    (fill_joined c.args.line.now c.args.path.now c.args.off c.args.count c.args.byte)

pub returns-clause-passes : goal.returns-clause-passes
returns-clause-passes g c =
    let passes = rw (c.text.ensures.text, c.bytes.ensures.bytes) at c.in_ok-put_word.ensures.passes in
    rw (
      fill_joined c.args.line.now c.args.path.now c.args.off c.args.count c.args.byte,
      c.digits.ensures.text,
      c.byte.ensures.byte,
      c.field-2.ensures.text,
      c.field.ensures.text,
      rest_joined c.put_word.new.self c.args.off c.args.count c.args.byte,
    )
    (partly_on _ _ _ _ (fill_rest c.args.off c.args.count c.args.byte) passes)
