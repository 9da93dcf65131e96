use Rattle.std.proofs.Common.{◌≡◌}
use Rattle.qtool.proofs.clashes.all_named.Given as goal

abbrev pub invariant-loop-input : goal.invariant-loop-input
invariant-loop-input l = l.client ≡ l.input-index
