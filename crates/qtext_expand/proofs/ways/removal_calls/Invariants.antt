use Rattle.std.proofs.Common.{◌≡◌, map, take}
use Rattle.qtext_expand.specs.FriendlyCalls.{removal_call}
use Rattle.qtext_expand.proofs.ways.removal_calls.Given as goal

abbrev pub invariant-loop-path : goal.invariant-loop-path
invariant-loop-path l =
    map (λ c. c.items) l.calls.items ≡ map removal_call (map (λ p. p.now) (take l.path-index l.paths))
