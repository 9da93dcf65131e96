use Rattle.std.proofs.Common.{◌==◌, refl}
use Rattle.qaudit.proofs.Kept.{find_more}
use Rattle.qaudit.proofs.comparison.by_id.Goals as goal

pub loop-count-preserved : goal.loop-count-preserved
loop-count-preserved c = λ q. find_more (λ n. n.id == q) c.args.counts.now c.loop-count.count-index _ _ _ _
    (c.loop-count.invariant q) c.loop-count-test.true refl (c.in_ok-keep_first.ensures q)
