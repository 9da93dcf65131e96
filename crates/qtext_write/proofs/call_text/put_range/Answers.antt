use Rattle.qtext_write.proofs.Behind.{refused}
use Rattle.qtext_write.proofs.call_text.put_range.Goals as goal

pub returns-in_err-put_at-clause-passes : goal.returns-in_err-put_at-clause-passes
returns-in_err-put_at-clause-passes g c = refused _ _ _ c.args.line.now _ _ _ c.from_residual.ensures.0 c.in_err-put_at.ensures.passes
