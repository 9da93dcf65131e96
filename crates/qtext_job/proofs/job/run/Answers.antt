use Rattle.std.proofs.Common.{ℕ, codes}
use Rattle.clap.specs.Words.{found_of, rows_of}
use Rattle.qtext_job.specs.declared.job.Job.{Job}
use Rattle.qtext.specs.declared.telling.Telling.{Telling}
use Rattle.qtext_job.specs.Jobs.{AreBoardsIn, IsBatchIn, IsNamedBy}
use Rattle.qtext_job.specs.Tellings.{IsTellingIn}
use Rattle.qtext_job.proofs.JobLaws.{its_numbers, passed_on}
use Rattle.qtext_job.proofs.job.run.Goals as goal

pub returns-in_err-telling-clause-err : goal.returns-in_err-telling-clause-err
returns-in_err-telling-clause-err c =
    let rows = rows_of (found_of c.args.matches.now) in
    passed_on c.from_residual-in_err-telling.result ((telling : Telling) × IsTellingIn rows telling) ((job : Job)
    × IsNamedBy (codes "run") rows job) c.in_err-telling.field-0.0 c.from_residual-in_err-telling.ensures.1
    c.in_err-telling.ensures.err (λ p. (its_numbers rows p.0 p.1).0)

pub returns-in_err-boards-clause-err : goal.returns-in_err-boards-clause-err
returns-in_err-boards-clause-err c =
    let rows = rows_of (found_of c.args.matches.now) in
    passed_on c.from_residual-in_err-boards.result ((boards : ℕ) × AreBoardsIn rows boards) ((job : Job)
    × IsNamedBy (codes "run") rows job) c.in_err-boards.field-0.0 c.from_residual-in_err-boards.ensures.1
    c.in_err-boards.ensures.err (λ p. (its_numbers rows p.0 p.1).1)

pub returns-in_err-batch-clause-err : goal.returns-in_err-batch-clause-err
returns-in_err-batch-clause-err c =
    let rows = rows_of (found_of c.args.matches.now) in
    passed_on c.from_residual-in_err-batch.result ((batch : ℕ) × IsBatchIn rows batch) ((job : Job)
    × IsNamedBy (codes "run") rows job) c.in_err-batch.field-0.0 c.from_residual-in_err-batch.ensures.1
    c.in_err-batch.ensures.err (λ p. (its_numbers rows p.0 p.1).2)
