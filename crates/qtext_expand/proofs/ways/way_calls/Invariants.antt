use Rattle.std.proofs.Common.{◌≡◌, map}
use Rattle.qtext_expand.specs.FriendlyCalls.{way_calls}
use Rattle.qtext_expand.proofs.ways.way_calls.Given as goal

abbrev pub invariant-loop-before : goal.invariant-loop-before
invariant-loop-before l = map (λ c. c.items) l.calls.items ≡ way_calls l.path l.before
