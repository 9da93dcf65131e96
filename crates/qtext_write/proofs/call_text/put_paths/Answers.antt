use Rattle.qtext.proofs.Fronts.{passes_then}
use Rattle.qtext_write.proofs.Behind.{behind, refused}
use Rattle.qtext_write.proofs.call_text.put_paths.Goals as goal

pub returns-in_err-put_path-clause-passes : goal.returns-in_err-put_path-clause-passes
returns-in_err-put_path-clause-passes g c = refused _ _ _ c.args.line.now _ _ _ c.from_residual.ensures.0 c.in_err-put_path.ensures.passes

pub returns-clause-passes : goal.returns-clause-passes
returns-clause-passes g c = passes_then _ _ _ _ _ _ _ (behind _ _ c.args.line.now _ _ _ c.in_ok-put_path.ensures.passes) c.put_path-2.ensures.passes
