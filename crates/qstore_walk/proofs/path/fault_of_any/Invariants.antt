use Rattle.std.proofs.Common.{◌≡◌, ◌+◌, true, ◌||◌, nat_lt, length, take, option_map, unwrap_or}
use Rattle.std.specs.List.{list_all, list_any}
use Rattle.qplain.specs.Walk.{components, is_name, is_slash, is_too_long}
use Rattle.qplain.specs.declared.bounds.TheConstants.{MAX_NAME}
use Rattle.qstore_walk.specs.Paths.{parts_in}
use Rattle.qstore_walk.proofs.path.fault_of_any.Given as goal

-- the components that are read are names, and it is known whether one was too long
abbrev pub invariant-loop-behind : goal.invariant-loop-behind
invariant-loop-behind l =
    (list_any is_slash (take 1 l.path) ≡ true)
    × (list_all is_name (components l.path) ≡ list_all is_name (parts_in (option_map (λ names. names.now) l.behind)))
    × (is_too_long l.path ≡ (l.is_too_long || list_any (λ name. nat_lt MAX_NAME (length name)) (parts_in (option_map (λ names. names.now) l.behind))))

abbrev pub decreases-loop-behind : goal.decreases-loop-behind
decreases-loop-behind l = unwrap_or (option_map (λ names. length names.now + 1) l.behind) 0
