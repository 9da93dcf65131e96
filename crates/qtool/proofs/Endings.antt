-- What words that were done, or told of, leave.
use Rattle.std.proofs.Common.{arith, ◌≡◌, ◌⊎◌, ℕ, List, Option, inl, inr, sym, ◌∙◌}
use Rattle.qtext_job.specs.Jobs.{IsAskedBy, IsRefusalOf}
use Rattle.qtext_job.specs.declared.job.Job.{Job}
use Rattle.qtext_job.specs.declared.line_fault.LineFault.{LineFault}
use Rattle.qtext_job.specs.declared.line_fault.LineFault.TheVariants.{Line, Memory}
use Rattle.qtool.specs.declared.ending.Ending.{Ending}
use Rattle.qtool.specs.Endings.{IsFaultStatus, IsLeftUnlessRefused, IsRefusal, IsUntouchedAt, IsUntouchedBy}
use Rattle.qtool.specs.Jobs.{IsService}
use Rattle.qtool.specs.Printed.{AskForHelp, AsksForHelp}

-- what a job leaves is left by the words that ask for it
pub untouched_by_words : (words : List (List ℕ)) (job : Job) (status : ℕ) (old new : Option (List ℕ)) → IsAskedBy words job
    → IsUntouchedAt status old new ⊎ IsService job → IsUntouchedBy words status old new
untouched_by_words words job status old new asked (inl same) = inl same
untouched_by_words words job status old new asked (inr service) = inr (job, asked, service)

-- where a refusal is that help was asked for, the words ask for it
pub help_by_words : (words : List (List ℕ)) (fault : LineFault) → IsRefusalOf words fault → AsksForHelp fault → AskForHelp words
help_by_words words (Line help text) (inl told) asks = (told.0, told.1, sym told.2 ∙ asks)
help_by_words words (Line help text) (inr wrong) asks = absurd (cc (asks, wrong.1.0))
help_by_words words Memory refusal asks = absurd asks

-- words that are no job end with 0 or 1 only where they ask for help, and then with 0
pub printed_help : (words : List (List ℕ)) (fault : LineFault) (status : ℕ) → IsRefusalOf words fault
    → ((status ≡ 0) × AsksForHelp fault) ⊎ IsFaultStatus status → (status ≡ 0) ⊎ (status ≡ 1) → (status ≡ 0) × AskForHelp words
printed_help words fault status refusal (inl asks) done = (asks.0, help_by_words words fault refusal asks.1)
printed_help words fault status refusal (inr bad) done = absurd (grind (arith, bad, done))

-- a status is not 4 and 2 or 3
refused : (status : ℕ) → status ≡ 4 → (status ≡ 2) ⊎ (status ≡ 3) → ⊥
refused status four (inl two) = omega (arith, four, two)
refused status four (inr three) = omega (arith, four, three)

-- an output that has not refused is as it was, whatever the status, and at 4 nothing is said of it
pub untouched_by_ending : (ending : Ending) (job : Job) (status : ℕ) (old new : Option (List ℕ))
    → IsLeftUnlessRefused old new ending ⊎ IsService job → (IsRefusal ending → status ≡ 4) → IsUntouchedAt status old new ⊎ IsService job
untouched_by_ending ending job status old new (inl (inl is)) output =
    inl (λ asked. absurd (refused status (output is) asked))
untouched_by_ending ending job status old new (inl (inr same)) output = inl (λ asked. same)
untouched_by_ending ending job status old new (inr service) output = inr service
