use Rattle.std.proofs.Common.{◌≡◌, ◌+◌, Some, length, option_map, unwrap_or}
use Rattle.std.specs.List.{list_all}
use Rattle.qplain.specs.Walk.{is_name}
use Rattle.qstore_walk.specs.Paths.{parts_in}
use Rattle.qstore_walk.proofs.path.are_names.Given as goal

-- the components that are read are names
abbrev pub invariant-loop-behind : goal.invariant-loop-behind
invariant-loop-behind l = list_all is_name (parts_in (Some l.all)) ≡ list_all is_name (parts_in (option_map (λ names. names.now) l.behind))

abbrev pub decreases-loop-behind : goal.decreases-loop-behind
decreases-loop-behind l = unwrap_or (option_map (λ names. length names.now + 1) l.behind) 0
