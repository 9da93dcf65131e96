use Rattle.std.proofs.Common.{◌≡◌}
use Rattle.qtool_files.proofs.overwriting.script_under.Given as goal

abbrev pub invariant-loop-script : goal.invariant-loop-script
invariant-loop-script g l =
    (l.number ≡ l.script-index) × (g.F.Files.held l.files ≡ g.F.Files.held l.fn.files)
