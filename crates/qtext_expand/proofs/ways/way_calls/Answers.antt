use Rattle.std.proofs.Common.{sym}
use Rattle.qtext_expand.proofs.Growing.{no_ways, ways_more}
use Rattle.qtext_expand.proofs.ways.way_calls.Goals as goal

pub loop-before-init : goal.loop-before-init
loop-before-init c = rw c.new-calls.ensures.items (sym (no_ways c.args.path.now))

pub loop-before-preserved : goal.loop-before-preserved
loop-before-preserved c = rw (c.in_ok-put_way.ensures, c.loop-before.invariant) (sym (ways_more c.args.path.now c.loop-before.before))
