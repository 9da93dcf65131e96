use Rattle.clap.specs.Words.{found_of, rows_of}
use Rattle.qtext_job.specs.Shares.{AreSharesIn}
use Rattle.qtext_job.specs.declared.share_options.ShareOptions.{ShareOptions}
use Rattle.qtext_job.proofs.JobLaws.{passed_on}
use Rattle.qtext_job.proofs.share_options.shares.Goals as goal

pub returns-in_err-calls-clause-err : goal.returns-in_err-calls-clause-err
returns-in_err-calls-clause-err c =
    passed_on c.from_residual.result _ ((shares : ShareOptions) × AreSharesIn (rows_of (found_of c.args.matches.now)) shares)
    c.in_err-calls.field-0.0 c.from_residual.ensures.1 c.in_err-calls.ensures.err (λ p. (p.0.calls, p.1.calls))

pub returns-in_err-kib-clause-err : goal.returns-in_err-kib-clause-err
returns-in_err-kib-clause-err c =
    passed_on c.from_residual-in_err-kib.result _ ((shares : ShareOptions) × AreSharesIn (rows_of (found_of c.args.matches.now)) shares)
    c.in_err-kib.field-0.0 c.from_residual-in_err-kib.ensures.1 c.in_err-kib.ensures.err (λ p. (p.1.kib, p.1.kib_is))

pub returns-in_err-depth-clause-err : goal.returns-in_err-depth-clause-err
returns-in_err-depth-clause-err c =
    passed_on c.from_residual-in_err-depth.result _ ((shares : ShareOptions) × AreSharesIn (rows_of (found_of c.args.matches.now)) shares)
    c.in_err-depth.field-0.0 c.from_residual-in_err-depth.ensures.1 c.in_err-depth.ensures.err (λ p. (p.0.depth, p.1.depth))

pub returns-in_err-rate-clause-err : goal.returns-in_err-rate-clause-err
returns-in_err-rate-clause-err c =
    passed_on c.from_residual-in_err-rate.result _ ((shares : ShareOptions) × AreSharesIn (rows_of (found_of c.args.matches.now)) shares)
    c.in_err-rate.field-0.0 c.from_residual-in_err-rate.ensures.1 c.in_err-rate.ensures.err (λ p. (p.0.rate, p.1.rate))
