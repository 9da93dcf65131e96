use Rattle.std.proofs.Common.{◌≡◌}
use Rattle.qtool.proofs.clashes.find_clash.Given as goal

abbrev pub invariant-loop-count : goal.invariant-loop-count
invariant-loop-count g l = g.F.Files.held l.files ≡ g.F.Files.held l.fn.files
