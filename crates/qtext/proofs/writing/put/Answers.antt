use Rattle.qtext.proofs.Fronts.{partly_taken}
use Rattle.qtext.proofs.writing.put.Goals as goal

pub loop-rest-preserved : goal.loop-rest-preserved
loop-rest-preserved g c = rw c.split_at.ensures.back (partly_taken _ _ _ _ _ _ c.loop-rest.invariant c.in-Ok.ensures.bytes)
