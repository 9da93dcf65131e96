use Rattle.std.proofs.Common.{◌≡◌, ◌+◌, [], ◌∷◌, length, option_map, unwrap_or}
use Rattle.qplain.specs.Walk.{last_name}
use Rattle.qstore_walk.specs.Paths.{parts_in}
use Rattle.qstore_walk.specs.Paths.{name_in}
use Rattle.qstore_walk.proofs.path.last_of.Given as goal
use denote.Shadow.{shadow}
use denote.Text.{Utf8}

-- the last name is among those that are left
abbrev pub invariant-loop-behind : goal.invariant-loop-behind
invariant-loop-behind l =
    (name_in l.path ≡ unwrap_or (last_name (l.name ∷ parts_in (option_map (λ rest. rest.now) l.behind))) []) × shadow (Utf8 l.name)

abbrev pub decreases-loop-behind : goal.decreases-loop-behind
decreases-loop-behind l = unwrap_or (option_map (λ rest. length rest.now + 1) l.behind) 0
