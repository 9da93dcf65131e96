use Rattle.std.proofs.Common.{ℕ, codes}
use Rattle.clap.specs.Words.{found_of, rows_of}
use Rattle.qtext_job.specs.declared.job.Job.{Job}
use Rattle.qtext_job.specs.declared.share_options.ShareOptions.{ShareOptions}
use Rattle.qtext_job.specs.Jobs.{IsNamedBy}
use Rattle.qtext_job.specs.Shares.{AreSharesIn}
use Rattle.qtext_job.specs.Tellings.{IsMomentIn}
use Rattle.qtext_job.proofs.JobLaws.{its_service, passed_on}
use Rattle.qtext_job.proofs.job.serve.Goals as goal

pub returns-in_err-number-clause-err : goal.returns-in_err-number-clause-err
returns-in_err-number-clause-err c =
    let rows = rows_of (found_of c.args.matches.now) in
    passed_on c.from_residual-in_err-number.result ((at : ℕ) × IsMomentIn rows at) ((job : Job)
    × IsNamedBy (codes "serve") rows job) c.in_err-number.field-0.0 c.from_residual-in_err-number.ensures.1
    c.in_err-number.ensures.err (λ p. (its_service rows p.0 p.1).0)

pub returns-in_err-shares-clause-err : goal.returns-in_err-shares-clause-err
returns-in_err-shares-clause-err c =
    let rows = rows_of (found_of c.args.matches.now) in
    passed_on c.from_residual-in_err-shares.result ((shares : ShareOptions) × AreSharesIn rows shares) ((job : Job)
    × IsNamedBy (codes "serve") rows job) c.in_err-shares.field-0.0 c.from_residual-in_err-shares.ensures.1
    c.in_err-shares.ensures.err (λ p. (its_service rows p.0 p.1).1)
