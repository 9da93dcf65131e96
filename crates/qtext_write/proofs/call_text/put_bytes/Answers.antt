use Rattle.std.proofs.Common.{append_assoc, ◌∷◌, []}
use Rattle.qtext.specs.Pieces.{data_text}
use Rattle.qtext.proofs.Fronts.{partly_then, passes_ends, passes_then}
use Rattle.qtext_write.proofs.Behind.{behind, refused}
use Rattle.qtext_write.proofs.call_text.put_bytes.Goals as goal

pub returns-in_err-put_at-clause-passes : goal.returns-in_err-put_at-clause-passes
returns-in_err-put_at-clause-passes g c = refused _ _ _ c.args.line.now _ _ _ c.from_residual.ensures.0 c.in_err-put_at.ensures.passes

pub returns-in_err-put_input-clause-passes : goal.returns-in_err-put_input-clause-passes
returns-in_err-put_input-clause-passes g c = passes_ends _ _ _ _ _ _ _ c.from_residual-in_err-put_input.ensures.0
    (behind _ _ c.args.line.now _ _ _ c.in_ok-put_at.ensures.passes)
    (rw (c.byte.ensures.byte, c.input.ensures, append_assoc c.put_at.new.line (32 ∷ []) (data_text c.args.bytes.now)) at c.in_err-put_input.ensures.passes)

pub returns-clause-passes : goal.returns-clause-passes
returns-clause-passes g c = passes_then _ _ _ _ _ _ _
    (partly_then _ _ _ _ _ _ (behind _ _ c.args.line.now _ _ _ c.in_ok-put_at.ensures.passes)
    (rw (c.byte.ensures.byte, c.input.ensures, append_assoc c.put_at.new.line (32 ∷ []) (data_text c.args.bytes.now)) at c.in_ok-put_input.ensures.passes))
    c.put_full.ensures.passes
