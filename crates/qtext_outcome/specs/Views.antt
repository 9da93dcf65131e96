-- Outcomes as a view shows them (profile, after repquota(8)).
use Rattle.std.specs.Prelude.{ℕ, false, List, ◌++◌, if◌then◌else◌}
use Rattle.std.specs.List.{flat_map}
use Rattle.qtext.specs.declared.format.Format.TheVariants.{Text}
use Rattle.qtext.specs.declared.view.View.{View}
use Rattle.qrun_replay.specs.declared.outcome.Outcome.{Outcome}
use Rattle.qtext_outcome.specs.Boards.{boards_text}
use Rattle.qtext_outcome.specs.Calls.{shown_transcript}
use Rattle.qtext_outcome.specs.Reports.{shown_report}
use Rattle.qtext_outcome.specs.Outcomes.{moment_text, rest_text}

-- a view that asks for nothing
abbrev pub plain : View
plain = record { format = Text; quiet = false; heads = false; calls = false; human_readable = false; over = false }

-- what is left at the end, with the report as it is shown
abbrev pub shown_left : View → Outcome → ℕ → List ℕ
shown_left view o moment = moment_text moment ++ shown_report view o.records moment ++ rest_text o

-- what the workers were answered, beside their calls where that is asked for, and then what looks at the boards were
-- given
abbrev pub shown_told : View → Outcome → List ℕ
shown_told view o = flat_map (shown_transcript view.calls) o.transcripts ++ boards_text o.boards

-- an outcome as it is shown: the report alone, or all of its text
abbrev pub shown_text : View → Outcome → ℕ → List ℕ
shown_text view o moment = if view.quiet then shown_report view o.records moment
    else shown_told view o ++ shown_left view o moment
