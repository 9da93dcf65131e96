use Rattle.qtext.proofs.Fronts.{front_of_first, refused_first, refused_last, writes_then}
use Rattle.qtext_image_write.proofs.image_text.put_settings.Goals as goal

pub returns-in_err-put_bounds-clause-writes : goal.returns-in_err-put_bounds-clause-writes
returns-in_err-put_bounds-clause-writes g c =
    refused_first _ _ _ _ _ c.from_residual.ensures.0 c.in_err-put_bounds.ensures

pub returns-in_err-put_graces-clause-writes : goal.returns-in_err-put_graces-clause-writes
returns-in_err-put_graces-clause-writes g c =
    refused_last _ _ _ _ _ _ c.from_residual-in_err-put_graces.ensures.0 c.in_ok-put_bounds.ensures
    (front_of_first _ _ _ _ c.in_err-put_graces.ensures)

pub returns-clause-writes : goal.returns-clause-writes
returns-clause-writes g c = writes_then _ _ _ _ _ _ c.in_ok-put_bounds.ensures
    (writes_then _ _ _ _ _ _ c.in_ok-put_graces.ensures c.put_records.ensures.writes)
