use Rattle.std.specs.Prelude.{◌≡◌}
use Rattle.qshare_history.proofs.history.add_to.Given as goal

abbrev pub invariant-loop : goal.invariant-loop
invariant-loop g l = l.prefix ≡ l.fn.prefix
