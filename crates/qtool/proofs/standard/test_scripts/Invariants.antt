use Rattle.std.proofs.Common.{◌≡◌}
use Rattle.qtool.proofs.standard.test_scripts.Given as goal

abbrev pub invariant-loop-script : goal.invariant-loop-script
invariant-loop-script l = l.number ≡ l.script-index
