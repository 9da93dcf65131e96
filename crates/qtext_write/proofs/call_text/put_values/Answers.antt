use Rattle.qtext_write.proofs.Behind.{refused}
use Rattle.qtext_write.proofs.call_text.put_values.Goals as goal

pub returns-in_err-put_path-in-Owners-clause-passes : goal.returns-in_err-put_path-in-Owners-clause-passes
returns-in_err-put_path-in-Owners-clause-passes g c =
    rw c.in-Owners.is (refused _ _ _ c.args.line.now _ _ _ c.from_residual.ensures.0 c.in_err-put_path-in-Owners.ensures.passes)
