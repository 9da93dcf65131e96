use Rattle.std.proofs.Common.{◌≡◌, ◌+◌, ◌∷◌, length, option_map, unwrap_or, Ok}
use denote.Shadow.{shadow}
use denote.Text.{Utf8}
use Rattle.std.specs.List.{slice_split}
use Rattle.qplain.specs.State.{State}
use Rattle.qplain.specs.Walk.{is_slash, last_name}
use Rattle.qstore_tree.specs.TreeOf.{IsTreeOf}
use Rattle.qstore_walk.specs.Paths.{parts_in}
use Rattle.qstore_walk.specs.Parents.{parent}
use Rattle.qstore_walk.proofs.Walks.{parent_from}
use Rattle.qstore_walk.proofs.walk.parent.Given as goal

-- the walk goes on from the directory with the name that waits, and the last name is among those that are left
abbrev pub invariant-loop-behind : goal.invariant-loop-behind
invariant-loop-behind l =
    ((S : State) → IsTreeOf S l.tree
    → parent S (slice_split is_slash l.names) ≡ parent_from S (Ok l.dir) l.name (parts_in (option_map (λ rest. rest.now) l.behind)))
    × (last_name (slice_split is_slash l.names) ≡ last_name (l.name ∷ parts_in (option_map (λ rest. rest.now) l.behind)))
    × shadow (Utf8 l.name)

abbrev pub decreases-loop-behind : goal.decreases-loop-behind
decreases-loop-behind l = unwrap_or (option_map (λ rest. length rest.now + 1) l.behind) 0
