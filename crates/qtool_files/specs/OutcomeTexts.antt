-- What is written of an outcome.
use Rattle.std.specs.Prelude.{ℕ, List}
use Rattle.qrun_replay.specs.declared.outcome.Outcome.{Outcome}
use Rattle.qtext_outcome.specs.Outcomes.{outcome_end}
use Rattle.qtext_rows.specs.Formats.{formatted_text}
use Rattle.qtool_files.specs.declared.finishing.OutcomeText.{OutcomeText}
use Rattle.qtool_files.specs.declared.finishing.OutcomeText.TheVariants.{Whole, Left}

-- all of it, as the view shows it, or its end, with the report as of this moment
abbrev pub told_text : OutcomeText → Outcome → ℕ → List ℕ
told_text (Whole view) outcome at = formatted_text view outcome at
told_text Left outcome at = outcome_end outcome at
