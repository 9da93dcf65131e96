use Rattle.qtext.proofs.Fronts.{refused_first}
use Rattle.qtext_image_write.proofs.Parts.{record_parts, written_after}
use Rattle.qtext_image_write.proofs.record_text.put_record.Goals as goal

pub returns-in_err-put_identity-clause-writes : goal.returns-in_err-put_identity-clause-writes
returns-in_err-put_identity-clause-writes g c = rw (record_parts c.args.row.now)
    (refused_first _ _ _ _ _ c.from_residual.ensures.0 c.in_err-put_identity.ensures.passes)

pub returns-clause-writes : goal.returns-clause-writes
returns-clause-writes g c = rw (record_parts c.args.row.now)
    (written_after _ _ _ _ _ _ _ _ c.in_ok-put_identity.ensures.passes
    (rw c.put_account.ensures.text at c.put_end.ensures))
