-- The moment as of which an outcome is reported.
use Rattle.std.specs.Prelude.{ℕ, List, map, fold, max}
use Rattle.std.specs.List.{flat_map}
use Rattle.qplain.specs.declared.transcript.Transcript.{Transcript}
use Rattle.qtext.specs.declared.report_moment.ReportMoment.{ReportMoment}
use Rattle.qtext.specs.declared.report_moment.ReportMoment.TheVariants.{At, Last}

-- the moments of all lines
abbrev pub moments_in : List Transcript → List ℕ
moments_in ts = flat_map (λ t. map (λ l. l.moment) t.lines) ts

-- the moment that is asked for, or the greatest of any line, and 0 where there is no line
abbrev pub moment_of : ReportMoment → List Transcript → ℕ
moment_of (At moment) ts = moment
moment_of Last ts = fold max 0 (moments_in ts)
