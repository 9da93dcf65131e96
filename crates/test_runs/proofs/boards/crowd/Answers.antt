use Rattle.std.proofs.Common.{refl}
use Rattle.test_runs.proofs.boards.crowd.Goals as goal

pub run_scripts-requires-clause-begun : goal.run_scripts-requires-clause-begun
run_scripts-requires-clause-begun g c κs within = c.in_ok-beginning.ensures.has_begun 1000 (λ some. refl)
