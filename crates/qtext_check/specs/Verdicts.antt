-- What a check of a configuration tells, against what reading it gives.
use Rattle.std.specs.Prelude.{◌≡◌, List, [], ◌∷◌, Option, Some, None, Result, Ok, Err}
use Rattle.qplain.specs.Setups.{IsSetupOf, Setting}
use Rattle.qtext_config.specs.ConfigFaults.{Cause, cause_of}
use Rattle.qtext_check.specs.declared.config.Verdict.{Verdict}
use Rattle.qtext_check.specs.declared.config.Verdict.TheVariants.{Sound, Faulty}
use Rattle.qtext_check.specs.declared.config.ConfigFinding.{ConfigFinding}

-- the cause that the first of the faults tells
abbrev pub first_cause : List ConfigFinding → Option Cause
first_cause [] = None
first_cause (finding ∷ others) = cause_of finding.fault

-- what is sound has the setup of the setting that is written; faults are told where none is, and the first of them is
-- the cause for which there is none
abbrev pub IsVerdictOn : Verdict → Result Setting Cause → Type 0
IsVerdictOn (Sound config) (Ok given) = IsSetupOf given config.setup
IsVerdictOn (Sound config) (Err cause) = ⊥
IsVerdictOn (Faulty findings more) (Ok given) = ⊥
IsVerdictOn (Faulty findings more) (Err cause) = first_cause findings.items ≡ Some cause
