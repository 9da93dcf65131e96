use Rattle.std.proofs.Common.{arith, tests}
use Rattle.qtool_runs.proofs.runs.run_with.Goals as goal

pub run_scripts-requires-clause-begun : goal.run_scripts-requires-clause-begun
run_scripts-requires-clause-begun g c κs within =
    c.in_ok-beginning.ensures.has_begun c.args.options.boards (λ some. grind (arith, tests))
