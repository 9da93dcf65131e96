use Rattle.std.proofs.Common.{ℕ, refl}
use Rattle.clap.specs.Words.{found_of, rows_of}
use Rattle.qtext_job.specs.Numbers.{IsNumberAt}
use Rattle.qtext_job.proofs.JobLaws.{unless_weaker}
use Rattle.qtext_job.proofs.number.number.Goals as goal

pub returns-in-None-clause-err : goal.returns-in-None-clause-err
returns-in-None-clause-err c =
    unless_weaker ⊥ ((n : ℕ) × IsNumberAt c.args.id.now c.args.least c.args.most (rows_of (found_of c.args.matches.now)) n)
    c.missing.result (λ m. c.number_at.ensures.none (rw c.in-None.is refl) m.0 m.1) c.missing.ensures
