use Rattle.qtext.proofs.Fronts.{partly_last, partly_on, refused_first}
use Rattle.qtext_image_write.proofs.Parts.{block_parts}
use Rattle.qtext_image_write.proofs.block_text.put_line.Goals as goal

pub returns-in_err-put_data-clause-writes : goal.returns-in_err-put_data-clause-writes
returns-in_err-put_data-clause-writes g c = rw (block_parts c.args.index c.args.bytes.now)
    (refused_first _ _ _ _ _ c.from_residual.ensures.0
    (rw (c.byte.ensures.byte, c.field.ensures.text, c.text.ensures.text, c.clear.ensures)
    at c.in_err-put_data.ensures.passes))

pub returns-clause-writes : goal.returns-clause-writes
returns-clause-writes g c = rw (block_parts c.args.index c.args.bytes.now)
    (partly_last _ _ _ _ _ _
    (partly_on _ _ _ _ _
    (rw (c.byte.ensures.byte, c.field.ensures.text, c.text.ensures.text, c.clear.ensures)
    at c.in_ok-put_data.ensures.passes))
    c.put_end.ensures)
