-- How it is told what came of a job, as `clap`'s matches say.
use Rattle.std.specs.Prelude.{◌≡◌, ◌^◌, ◌||◌, ℕ, Bool, false, true, List, codes, if◌then◌else◌}
use Rattle.std.specs.Option.{option_map_or}
use Rattle.std.specs.Str.{bytes_eq}
use Rattle.clap.specs.Words.{Row, Text, first_of}
use Rattle.qtext.specs.declared.format.Format.{Format}
use Rattle.qtext.specs.declared.format.Format.TheVariants.{Text as TextFormat, Json, Csv}
use Rattle.qtext.specs.declared.report_moment.ReportMoment.{ReportMoment}
use Rattle.qtext.specs.declared.report_moment.ReportMoment.TheVariants.{At, Last}
use Rattle.qtext.specs.declared.telling.Telling.{Telling}
use Rattle.qtext.specs.declared.view.View.{View}
use Rattle.qtext_job.specs.Numbers.{IsNumberAt}

-- the moment is the number at `--at`, at most 2^40
abbrev pub IsMomentIn : List Row → ℕ → Type 0
IsMomentIn rows at = IsNumberAt (codes "at") 0 (2 ^ 40) rows at

-- whether this word stands at an option
abbrev pub is_word_at : Text → Text → List Row → Bool
is_word_at option word rows = option_map_or (λ t. bytes_eq t word) (first_of option rows) false

-- the moment of the report is that number, or the last one where the word is `last`
abbrev pub IsReportAt : List Row → ReportMoment → Type 0
IsReportAt rows (At moment) = IsMomentIn rows moment
IsReportAt rows Last = is_word_at (codes "at") (codes "last") rows ≡ true

-- whether the word at `--format` is one of the formats
abbrev pub has_format : List Row → Bool
has_format rows = is_word_at (codes "format") (codes "text") rows || (is_word_at (codes "format") (codes "json") rows
    || is_word_at (codes "format") (codes "csv") rows)

-- the format of this word, which is one of them
abbrev pub format_of : List Row → Format
format_of rows = if is_word_at (codes "format") (codes "json") rows then Json
    else if is_word_at (codes "format") (codes "csv") rows then Csv else TextFormat

-- whether this flag was given
abbrev pub is_given : Text → List Row → Bool
is_given flag rows = is_word_at flag (codes "true") rows

-- what the flags and the format ask to be shown
abbrev pub view_of : List Row → View
view_of rows = record {
  format = format_of rows;
  quiet = is_given (codes "quiet") rows;
  heads = is_given (codes "heads") rows;
  calls = is_given (codes "calls") rows;
  human_readable = is_given (codes "human-readable") rows;
  over = is_given (codes "over") rows;
}

-- it is told as of the moment that is asked for, in one of the formats, what is asked to be shown, strictly and with
-- the reasons of faults where that is asked for
pub record IsTellingIn (rows : List Row) (telling : Telling) : Type 0 where
  pub at : IsReportAt rows telling.at
  pub format : has_format rows ≡ true
  pub view : telling.view ≡ view_of rows
  pub strict : telling.strict ≡ is_given (codes "strict") rows
  pub verbose : telling.verbose ≡ is_given (codes "verbose") rows
