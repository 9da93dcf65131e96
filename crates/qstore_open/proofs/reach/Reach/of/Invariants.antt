use Rattle.qplain.specs.State.{State}
use Rattle.qstore_tree.specs.TreeOf.{IsTreeOf}
use Rattle.qstore_open.proofs.Levels.{IsLevel}
use Rattle.qstore_open.proofs.reach.Reach.of.Given as goal

abbrev pub invariant-loop : goal.invariant-loop
invariant-loop l = (S : State) → IsTreeOf S l.tree → IsLevel S l.counter l.reach
