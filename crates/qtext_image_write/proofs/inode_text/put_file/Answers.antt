use Rattle.qtext.proofs.Fronts.{refused_first, writes_then}
use Rattle.qtext_image_write.proofs.inode_text.put_file.Goals as goal

pub returns-in_err-put_file_head-clause-writes : goal.returns-in_err-put_file_head-clause-writes
returns-in_err-put_file_head-clause-writes g c = refused_first _ _ _ _ _ c.from_residual.ensures.0
    (rw c.size.ensures.value at c.in_err-put_file_head.ensures)

pub returns-clause-writes : goal.returns-clause-writes
returns-clause-writes g c =
    writes_then _ _ _ _ _ _ (rw c.size.ensures.value at c.in_ok-put_file_head.ensures) c.put_blocks.ensures.writes
