use Rattle.std.proofs.Common.{codes}
use Rattle.clap.specs.Words.{found_of, rows_of}
use Rattle.qtext.specs.declared.telling.Telling.{Telling}
use Rattle.qtext_job.specs.declared.job.Job.{Job}
use Rattle.qtext_job.specs.Jobs.{IsNamedBy}
use Rattle.qtext_job.specs.Tellings.{IsTellingIn}
use Rattle.qtext_job.proofs.JobLaws.{its_telling, passed_on}
use Rattle.qtext_job.proofs.job.replay.Goals as goal

pub returns-in_err-telling-clause-err : goal.returns-in_err-telling-clause-err
returns-in_err-telling-clause-err c =
    let rows = rows_of (found_of c.args.matches.now) in
    passed_on c.from_residual-in_err-telling.result ((telling : Telling) × IsTellingIn rows telling) ((job : Job)
    × IsNamedBy (codes "replay") rows job) c.in_err-telling.field-0.0 c.from_residual-in_err-telling.ensures.1
    c.in_err-telling.ensures.err (λ p. its_telling rows p.0 p.1)
