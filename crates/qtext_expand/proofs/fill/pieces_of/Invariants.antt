use Rattle.std.proofs.Common.{◌≡◌, map}
use Rattle.qtext_expand.specs.FriendlyCalls.{piece_calls}
use Rattle.qtext_expand.proofs.fill.pieces_of.Given as goal

abbrev pub invariant-loop-i : goal.invariant-loop-i
invariant-loop-i l =
    map (λ c. c.items) l.calls.items ≡ piece_calls l.filled.path.now l.filled.byte.now l.filled.off l.filled.count l.i
