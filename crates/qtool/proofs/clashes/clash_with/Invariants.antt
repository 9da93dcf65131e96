use Rattle.std.proofs.Common.{◌≡◌}
use Rattle.qtool.proofs.clashes.clash_with.Given as goal

abbrev pub invariant-loop-other : goal.invariant-loop-other
invariant-loop-other g l = g.F.Files.held l.files ≡ g.F.Files.held l.fn.files
