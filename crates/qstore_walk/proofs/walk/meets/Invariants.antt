use Rattle.std.proofs.Common.{◌≡◌, ◌+◌, length, option_map, unwrap_or, Ok}
use Rattle.qplain.specs.Renames.{meets}
use Rattle.qplain.specs.State.{State}
use Rattle.qplain.specs.Walk.{components}
use Rattle.qplain_laws.proofs.Meeting.{meets_from}
use Rattle.qstore_tree.specs.TreeOf.{IsTreeOf}
use Rattle.qstore_walk.specs.Paths.{parts_in}
use Rattle.qstore_walk.proofs.walk.meets.Given as goal

-- what the walk meets is what it meets from what is reached
abbrev pub invariant-loop-behind : goal.invariant-loop-behind
invariant-loop-behind l =
    (S : State) → IsTreeOf S l.tree → meets S (components l.path) l.number
    ≡ meets_from S l.number (Ok l.reached) (parts_in (option_map (λ names. names.now) l.behind))

abbrev pub decreases-loop-behind : goal.decreases-loop-behind
decreases-loop-behind l = unwrap_or (option_map (λ names. length names.now + 1) l.behind) 0
