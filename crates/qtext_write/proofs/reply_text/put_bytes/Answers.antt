use Rattle.std.proofs.Common.{append_assoc, codes}
use Rattle.qtext.specs.Pieces.{data_text}
use Rattle.qtext.proofs.Fronts.{partly_last}
use Rattle.qtext_write.proofs.Behind.{behind, refused_whole}
use Rattle.qtext_write.proofs.reply_text.put_bytes.Goals as goal

pub returns-in_err-put_data-clause-writes : goal.returns-in_err-put_data-clause-writes
returns-in_err-put_data-clause-writes g c = refused_whole _ _ _ c.args.line.now _ _ c.from_residual.ensures.0
    (rw (c.text.ensures.text, append_assoc c.args.line.now (codes "bytes ") (data_text c.args.bytes.now)) at c.in_err-put_data.ensures.passes)

pub returns-clause-writes : goal.returns-clause-writes
returns-clause-writes g c = partly_last _ _ _ _ _ _
    (behind _ _ c.args.line.now _ _ _
    (rw (c.text.ensures.text, append_assoc c.args.line.now (codes "bytes ") (data_text c.args.bytes.now)) at c.in_ok-put_data.ensures.passes))
    c.put_end.ensures
