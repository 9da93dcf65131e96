-- What the program prints, and what it keeps, where it ends well.
use Rattle.std.specs.Prelude.{◌≡◌, ◌⊎◌, ℕ, Bool, true, false, List, [], length, map, All, Option, Some, None, Ok}
use Rattle.std.specs.Prelude.{codes, if◌then◌else◌, unwrap_or}
use Rattle.std.specs.Prelude.{IsSome, option_map, string_bytes}
use Rattle.std.specs.Io.KnownBytes.{Appends}
use Rattle.std.specs.Str.{bytes_eq}
use Rattle.clap.specs.Words.{IsAmong, fault_of}
use Rattle.clap.specs.declared.error.kind.ErrorKind.{ErrorKind}
use Rattle.qplain.specs.Setups.{Setting}
use Rattle.qplain.specs.declared.transcript.Transcript.{Transcript}
use Rattle.qrun_replay.specs.declared.outcome.Outcome.{Outcome}
use Rattle.qrun.specs.Serving.{KeepsTime}
use Rattle.qtext.specs.declared.telling.Telling.{Telling}
use Rattle.qtext_outcome.specs.Denials.{IsDone}
use Rattle.qtext_outcome.specs.Moments.{moment_of}
use Rattle.qtext_outcome.specs.Outcomes.{outcome_end}
use Rattle.qtext_rows.specs.Formats.{formatted_text}
use Rattle.qtext_files.specs.Spelling.{CanBeRead}
use Rattle.qtext_config.specs.ConfigClients.{NamedClient}
use Rattle.qtext_image.specs.Images.{image_of}
use Rattle.qtext_expand.specs.Expansions.{expansion}
use Rattle.qtext_check.specs.Faults.{faults_of}
use Rattle.qtext_job.specs.Commands.{quotafs}
use Rattle.qtext_job.specs.Jobs.{IsAskedBy, is_shown}
use Rattle.qtext_job.specs.declared.job.Job.{Job}
use Rattle.qtext_job.specs.declared.job.Job.TheVariants.{Run, Replay, Serve, Expand, Check}
use Rattle.qtext_job.specs.declared.job.ServeJob.{ServeJob}
use Rattle.qtext_job.specs.declared.line_fault.LineFault.{LineFault}
use Rattle.qtext_job.specs.declared.line_fault.LineFault.TheVariants.{Line, Memory}
use Rattle.qtool_files.specs.Held.{Held, IsUnder}
use Rattle.qtool_files.specs.Saved.{IsSaved, image_left}
use Rattle.qtool.specs.Apart.{AreApart}
use Rattle.qtool.specs.Served.{clients_of_job, is_taken}
use Rattle.qtool.specs.Terms.{AreKept, terms_told}
use Rattle.qtool.specs.Under.{IsConfigUnder, IsReplayUnder, IsRunUnder, IsServiceUnder}

-- an outcome's text as it is asked for, as of the moment that is asked for
abbrev pub printed_text : Telling → Outcome → List ℕ
printed_text telling outcome = formatted_text telling.view outcome (moment_of telling.at outcome.transcripts)

-- it is told with 1 where a line was not done and the caller is strict, and else with 0
abbrev pub IsToldWith : Telling → List Transcript → ℕ → Type 0
IsToldWith telling transcripts status =
    ((status ≡ 0) × (telling.strict ≡ true → All IsDone transcripts))
    ⊎ ((status ≡ 1) × (telling.strict ≡ true) × (All IsDone transcripts → ⊥))

-- the output grew by the outcome's text, and this is the status for it
pub record IsTold (telling : Telling) (outcome : Outcome) (status : ℕ) (old new : Option (List ℕ)) : Type 0 where
  pub text : Appends old new (printed_text telling outcome)
  pub status_is : IsToldWith telling outcome.transcripts status

-- the image of the store that is left is read again: as its edition, after the calls of its journal, in its state
abbrev pub IsImageRead : Outcome → Type 0
IsImageRead o = image_of (image_left o)
    ≡ Ok (record { edition = o.setup.edition; place = length o.journal.entries; state = o.store.state })

-- where files are named for them, which are others, the journal was saved, and then an image of the store, and both can
-- be read again
pub record IsKept (files kept : Held) (journal image : Option (List ℕ)) (o : Outcome) : Type 0 where
  pub apart : AreApart journal image
  pub saved : IsSaved files kept journal image o
  pub journal_again : IsSome journal → CanBeRead o.journal
  pub image_again : IsSome image → IsImageRead o

-- an outcome of the run was printed, and its journal and its image are kept where files are named for them
pub record PrintsRun (config : List ℕ) (scripts : List (List ℕ)) (boards : ℕ) (telling : Telling)
    (journal image : Option (List ℕ)) (status : ℕ) (files kept : Held) (old new : Option (List ℕ)) : Type 0 where
  pub outcome : Outcome
  pub is : IsRunUnder files config scripts boards outcome
  pub told : IsTold telling outcome status old new
  pub kept_is : IsKept files kept journal image outcome

-- the outcome of the replay was printed, and its image kept where a file is named for it
pub record PrintsReplay (config journal : List ℕ) (telling : Telling) (image : Option (List ℕ)) (status : ℕ)
    (files kept : Held) (old new : Option (List ℕ)) : Type 0 where
  pub outcome : Outcome
  pub is : IsReplayUnder files config journal outcome
  pub told : IsTold telling outcome status old new
  pub kept_is : IsKept files kept None image outcome

-- the file that is read for a friendly script of this name: what standard input comes from where it is `-`
abbrev pub friendly_file : List ℕ → List ℕ
friendly_file name = if bytes_eq name (codes "-") then codes "/dev/stdin" else name

-- the plain script was printed that the friendly one of this name is written out as
pub record PrintsExpansion (config script : List ℕ) (files : Held) (old new : Option (List ℕ)) : Type 0 where
  pub setting : Setting
  pub text : List ℕ
  pub plain : List ℕ
  pub config_is : IsConfigUnder files config setting
  pub under : IsUnder files (friendly_file script) text
  pub says : expansion setting text ≡ Ok plain
  pub prints : Appends old new plain

-- under the name stands a text that has no fault in any line, under this setting, where one is known
abbrev pub IsSoundUnder : Held → Option Setting → List ℕ → Type 0
IsSoundUnder files setting name = (text : List ℕ) × IsUnder files name text × (faults_of setting text ≡ [])

-- nothing is wrong in the configuration of this name, nor in the scripts of these
pub record IsAllSound (config : List ℕ) (scripts : List (List ℕ)) (files : Held) : Type 0 where
  pub setting : Setting
  pub config_is : IsConfigUnder files config setting
  pub scripts_are : All (IsSoundUnder files (Some setting)) scripts

-- what is seen at one time of files, of the output and of the error output, where they tell it
pub record Scene : Type 0 where
  pub files : Held
  pub output : Option (List ℕ)
  pub errors : Option (List ℕ)

-- it is seen so
abbrev pub seen : Held → Option (List ℕ) → Option (List ℕ) → Scene
seen files output errors = record { files = files; output = output; errors = errors }

-- where it is told what a service left: on the error output where standard output is a client's
abbrev pub told_at : Bool → Scene → Option (List ℕ)
told_at true scene = scene.errors
told_at false scene = scene.output

-- what the service of a job left was printed between these scenes, with the report as of its moment: of the clients of
-- the command line or else of the configuration, on the terms that it tells, and with a clock at its moments
pub record PrintsService (job : ServeJob) (old new : Scene) : Type 0 where
  pub configured : List NamedClient
  pub outcome : Outcome
  pub is : IsServiceUnder old.files (string_bytes job.config) configured outcome
  pub moments : KeepsTime job.clock outcome
  pub kept : AreKept (terms_told job.shares (clients_of_job job configured)) outcome.journal.entries
  pub prints : Appends (told_at (is_taken (clients_of_job job configured)) old)
      (told_at (is_taken (clients_of_job job configured)) new) (outcome_end outcome job.at)

-- what the job asks for was printed between these scenes, where it ended with this status
abbrev pub IsPrinted : Job → ℕ → Scene → Scene → Type 0
IsPrinted (Run run) status old new =
    PrintsRun (string_bytes run.config) (map (λ s. string_bytes s) run.scripts.items) run.boards run.telling
    (option_map (λ s. string_bytes s) run.journal) (option_map (λ s. string_bytes s) run.save) status old.files
    new.files old.output new.output
IsPrinted (Replay replay) status old new =
    PrintsReplay (string_bytes replay.config) (string_bytes replay.journal) replay.telling
    (option_map (λ s. string_bytes s) replay.save) status old.files new.files old.output new.output
IsPrinted (Serve serve) status old new = (status ≡ 0) × PrintsService serve old new
IsPrinted (Expand expand) status old new =
    (status ≡ 0) × PrintsExpansion (string_bytes expand.config)
    (unwrap_or (option_map (λ s. string_bytes s) expand.script) (codes "-")) old.files old.output new.output
IsPrinted (Check check) status old new =
    (status ≡ 0) × IsAllSound (string_bytes check.config) (map (λ s. string_bytes s) check.scripts.items) old.files
    × (new.output ≡ old.output)

-- of what is told of words that are no job: that help or the version was asked for
abbrev pub AsksForHelp : LineFault → Type 0
AsksForHelp (Line help text) = help ≡ true
AsksForHelp Memory = ⊥

-- help or the version was asked for
abbrev pub AskForHelp : List (List ℕ) → Type 0
AskForHelp words = (kind : ErrorKind) × IsAmong kind (fault_of quotafs words) × (is_shown kind ≡ true)

-- what the words ask for was printed between these scenes, where it ended with this status: help or the version, with
-- 0, or what their job asks for
abbrev pub IsPrintedBy : List (List ℕ) → ℕ → Scene → Scene → Type 0
IsPrintedBy words status old new =
    ((status ≡ 0) × AskForHelp words) ⊎ ((job : Job) × IsAskedBy words job × IsPrinted job status old new)
