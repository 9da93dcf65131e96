use Rattle.std.proofs.Common.{IfOk, Result, Ok, Err, subst, sym}
use Rattle.qrun.specs.Serving.{KeepsTime}
use Rattle.qtool.proofs.services.serve_of.Goals as goal

second : {A E : Type 0} (P Q : A → Type 0) (r : Result A E) → IfOk r (λ x. P x × Q x) → IfOk r Q
second P Q (Ok x) both = both.1
second P Q (Err e) both = tt

pub returns-then-job-clause-moments : goal.returns-then-job-clause-moments
returns-then-job-clause-moments g c =
    subst (λ b. IfOk c.serve_by_clock.result (λ left. KeepsTime b left.outcome)) (sym c.if-job.true)
    (second _ _ c.serve_by_clock.result c.serve_by_clock.ensures.outcome)
