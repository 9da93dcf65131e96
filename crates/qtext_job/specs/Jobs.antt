-- What a job names, as `clap`'s matches give it, and why words are none.
use Rattle.std.specs.Prelude.{◌≡◌, ◌⊎◌, ◌<◌, ◌≤◌, ℕ, Bool, true, false, List, [], map, Option, Some, None, ⊤}
use Rattle.std.specs.Prelude.{codes, length, string_bytes, option_map, unwrap_or}
use Rattle.clap.specs.Words.{IsAmong, Kinds, Row, Text, all_of, fault_of, first_of, subcommand_of}
use Rattle.clap.specs.declared.error.kind.ErrorKind.{ErrorKind}
use Rattle.clap.specs.declared.error.kind.ErrorKind.TheVariants.{DisplayHelp, DisplayVersion}
use Rattle.qtext_job.specs.declared.job.Job.{Job}
use Rattle.qtext_job.specs.declared.job.Job.TheVariants.{Run, Serve, Replay, Expand, Check}
use Rattle.qtext_job.specs.declared.line_fault.LineFault.{LineFault}
use Rattle.qtext_job.specs.declared.line_fault.LineFault.TheVariants.{Line, Memory}
use Rattle.qtext_job.specs.Commands.{quotafs}
use Rattle.qtext_job.specs.Pairs.{AreClientsIn}
use Rattle.qtext_job.specs.Numbers.{IsNumberAt}
use Rattle.qtext_job.specs.Shares.{AreSharesIn}
use Rattle.qtext_job.specs.Tellings.{IsMomentIn, IsTellingIn, is_given}

-- how many boards are taken is the number at `--boards`, at most 1000
abbrev pub AreBoardsIn : List Row → ℕ → Type 0
AreBoardsIn rows boards = IsNumberAt (codes "boards") 0 1000 rows boards

-- how many lines go under one lock is the number at `--batch`, from 1 to 64
abbrev pub IsBatchIn : List Row → ℕ → Type 0
IsBatchIn rows batch = IsNumberAt (codes "batch") 1 64 rows batch

-- the scripts are those that are named, at least one
abbrev pub AreScriptsIn : List Row → List Text → Type 0
AreScriptsIn rows scripts = (all_of (codes "scripts") rows ≡ Some scripts) × (0 < length scripts)

-- the scripts that are named, none where no word names one
abbrev pub checked_in : List Row → List Text
checked_in rows = unwrap_or (all_of (codes "scripts") rows) []

-- the job of a subcommand of this name with these matches
abbrev pub IsNamedBy : Text → List Row → Job → Type 0
IsNamedBy name rows (Run run) = (name ≡ codes "run")
    × (first_of (codes "config") rows ≡ Some (string_bytes run.config))
    × IsTellingIn rows run.telling
    × (first_of (codes "journal") rows ≡ option_map (λ s. string_bytes s) run.journal)
    × (first_of (codes "save") rows ≡ option_map (λ s. string_bytes s) run.save)
    × AreBoardsIn rows run.boards
    × IsBatchIn rows run.batch
    × AreScriptsIn rows (map (λ s. string_bytes s) run.scripts.items)
IsNamedBy name rows (Serve serve) = (name ≡ codes "serve")
    × (first_of (codes "config") rows ≡ Some (string_bytes serve.config))
    × IsMomentIn rows serve.at
    × (serve.clock ≡ is_given (codes "clock") rows)
    × (serve.stop_at_failure ≡ is_given (codes "stop-at-failure") rows)
    × (first_of (codes "journal") rows ≡ option_map (λ s. string_bytes s) serve.journal)
    × (first_of (codes "save") rows ≡ option_map (λ s. string_bytes s) serve.save)
    × (first_of (codes "board") rows ≡ option_map (λ s. string_bytes s) serve.board)
    × AreSharesIn rows serve.shares
    × AreClientsIn rows serve.pairs.items
IsNamedBy name rows (Replay replay) = (name ≡ codes "replay")
    × (first_of (codes "config") rows ≡ Some (string_bytes replay.config))
    × IsTellingIn rows replay.telling
    × (first_of (codes "save") rows ≡ option_map (λ s. string_bytes s) replay.save)
    × (first_of (codes "journal") rows ≡ Some (string_bytes replay.journal))
IsNamedBy name rows (Expand expand) = (name ≡ codes "expand")
    × (first_of (codes "config") rows ≡ Some (string_bytes expand.config))
    × (first_of (codes "script") rows ≡ option_map (λ s. string_bytes s) expand.script)
IsNamedBy name rows (Check check) = (name ≡ codes "check")
    × (first_of (codes "config") rows ≡ Some (string_bytes check.config))
    × (map (λ s. string_bytes s) check.scripts.items ≡ checked_in rows)

-- a run has a script
abbrev pub HasScript : Job → Type 0
HasScript (Run run) = 1 ≤ length run.scripts.items
HasScript job = Unit {0}

-- the job of a subcommand's name and its matches
abbrev pub IsJobOf : Option (Text × List Row) → Job → Type 0
IsJobOf None job = ⊥
IsJobOf (Some p) job = IsNamedBy p.0 p.1 job

-- whether an error of `clap` is a text that was asked for
abbrev pub is_shown : ErrorKind → Bool
is_shown DisplayHelp = true
is_shown DisplayVersion = true
is_shown kind = false

-- out of memory, or what `clap` tells under one of these kinds
abbrev pub IsToldBy : Kinds → LineFault → Type 0
IsToldBy kinds Memory = ⊤
IsToldBy kinds (Line help text) = (kind : ErrorKind) × IsAmong kind kinds × (help ≡ is_shown kind)

-- out of memory, or a mistake, where this does not hold
abbrev pub FailsUnless : Type 0 → LineFault → Type 0
FailsUnless P Memory = ⊤
FailsUnless P (Line help text) = (help ≡ false) × (P → ⊥)

-- `clap` takes the words, and this is the job that its matches name
abbrev pub IsAskedBy : List Text → Job → Type 0
IsAskedBy words job = (fault_of quotafs words ≡ []) × IsJobOf (subcommand_of quotafs words) job

-- memory ran out, or `clap` refuses the words, or it takes them and its matches name no job
abbrev pub IsRefusalOf : List Text → LineFault → Type 0
IsRefusalOf words fault =
    IsToldBy (fault_of quotafs words) fault
    ⊎ ((fault_of quotafs words ≡ []) × FailsUnless ((job : Job) × IsJobOf (subcommand_of quotafs words) job) fault)
