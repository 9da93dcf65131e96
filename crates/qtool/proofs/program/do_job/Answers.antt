use Rattle.std.proofs.Common.{refl, subst}
use Rattle.qtext_job.specs.Jobs.{HasScript}
use Rattle.qtool.specs.Jobs.{HasBatch}
use Rattle.qtool.proofs.program.do_job.Goals as goal

pub run_job-requires-clause-some : goal.run_job-requires-clause-some
run_job-requires-clause-some g c κs within = subst HasScript c.in-Run.is c.requires.some

pub run_job-requires-clause-batch : goal.run_job-requires-clause-batch
run_job-requires-clause-batch g c κs within = subst HasBatch c.in-Run.is c.requires.batch

pub returns-in_ok-check_job-in-Check-clause-printed : goal.returns-in_ok-check_job-in-Check-clause-printed
returns-in_ok-check_job-in-Check-clause-printed g c = rw c.in-Check.is (refl, c.in_ok-check_job-in-Check.ensures, refl)

pub returns-in_ok-serve_job-in-Serve-clause-printed : goal.returns-in_ok-serve_job-in-Serve-clause-printed
returns-in_ok-serve_job-in-Serve-clause-printed g c = rw c.in-Serve.is (refl, c.in_ok-serve_job-in-Serve.ensures)
