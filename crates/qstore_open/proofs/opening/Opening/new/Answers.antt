use Rattle.std.proofs.Common.{refl, arith}
use Rattle.qstore_open.proofs.Begun.{kept-begun}
use Rattle.qstore_open.proofs.opening.Opening.new.Goals as goal

pub invariant_of-result : goal.invariant_of-result
invariant_of-result c = kept-begun _ c.empty.ensures.inodes c.empty.ensures.names c.empty.ensures.links c.new-2.ensures refl refl (omega
    (arith, c.file_limit.ensures.range))
