-- Why words are no moment.
use Rattle.std.proofs.Common.{ℕ, List}
use Rattle.clap.specs.Words.{Row}
use Rattle.qtext.specs.declared.report_moment.ReportMoment.{ReportMoment}
use Rattle.qtext.specs.declared.report_moment.ReportMoment.TheVariants.{At, Last}
use Rattle.qtext_job.specs.declared.line_fault.LineFault.{LineFault}
use Rattle.qtext_job.specs.Jobs.{FailsUnless}
use Rattle.qtext_job.specs.Tellings.{IsMomentIn, IsReportAt}
use Rattle.qtext_job.proofs.JobLaws.{unless_weaker}

-- they are no number, and not `last`
pub no_moment_there : (rows : List Row) (fault : LineFault) → ((n : ℕ) → IsMomentIn rows n → ⊥)
    → (IsReportAt rows Last → ⊥) → FailsUnless ⊥ fault
    → FailsUnless ((at : ReportMoment) × IsReportAt rows at) fault
no_moment_there rows fault no_number not_last h =
    unless_weaker ⊥ ((at : ReportMoment) × IsReportAt rows at) fault (λ m. go m.0 m.1) h
  where
    go : (at : ReportMoment) → IsReportAt rows at → ⊥
    go (At n) is = no_number n is
    go Last is = not_last is
