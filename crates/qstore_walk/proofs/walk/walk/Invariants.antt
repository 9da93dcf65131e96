use Rattle.std.proofs.Common.{◌≡◌, ◌+◌, length, fold, option_map, unwrap_or, Ok}
use Rattle.qplain.specs.State.{State}
use Rattle.qplain.specs.Walk.{components, follow, walk}
use Rattle.qstore_tree.specs.TreeOf.{IsTreeOf}
use Rattle.qstore_walk.specs.Paths.{parts_in}
use Rattle.qstore_walk.proofs.walk.walk.Given as goal

-- the walk goes on from what is reached
abbrev pub invariant-loop-behind : goal.invariant-loop-behind
invariant-loop-behind l =
    (S : State) → IsTreeOf S l.tree
    → fold (follow S) (Ok l.reached) (parts_in (option_map (λ names. names.now) l.behind)) ≡ walk S (components l.path)

abbrev pub decreases-loop-behind : goal.decreases-loop-behind
decreases-loop-behind l = unwrap_or (option_map (λ names. length names.now + 1) l.behind) 0
