use Rattle.qtext_write.proofs.Behind.{refused}
use Rattle.qtext_write.proofs.call_text.put_at.Goals as goal

pub returns-in_err-put_path-clause-passes : goal.returns-in_err-put_path-clause-passes
returns-in_err-put_path-clause-passes g c = refused _ _ _ c.args.line.now _ _ _ c.from_residual.ensures.0 c.in_err-put_path.ensures.passes
