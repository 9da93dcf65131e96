use Rattle.qtext.proofs.Fronts.{front_of_first, refused_first, refused_last, writes_then}
use Rattle.qtext_image_write.proofs.image_text.put_tree.Goals as goal

pub returns-in_err-put_inodes-clause-writes : goal.returns-in_err-put_inodes-clause-writes
returns-in_err-put_inodes-clause-writes g c =
    refused_first _ _ _ _ _ c.from_residual.ensures.0 c.in_err-put_inodes.ensures.writes

pub returns-in_err-put_names-clause-writes : goal.returns-in_err-put_names-clause-writes
returns-in_err-put_names-clause-writes g c =
    refused_last _ _ _ _ _ _ c.from_residual-in_err-put_names.ensures.0 c.in_ok-put_inodes.ensures.writes
    (front_of_first _ _ _ _ c.in_err-put_names.ensures)

pub returns-clause-writes : goal.returns-clause-writes
returns-clause-writes g c = writes_then _ _ _ _ _ _ c.in_ok-put_inodes.ensures.writes
    (writes_then _ _ _ _ _ _ c.in_ok-put_names.ensures c.put.ensures)
