-- An outcome as lines of JSON, an object a line, and the report alone (profile).
use Rattle.std.specs.Prelude.{ℕ, List, ◌++◌, if◌then◌else◌}
use Rattle.std.specs.List.{flat_map}
use Rattle.qtext.specs.declared.view.View.{View}
use Rattle.qrun_replay.specs.declared.outcome.Outcome.{Outcome}
use Rattle.qtext_rows.specs.Lines.{transcripts_objects}
use Rattle.qtext_rows.specs.Records.{record_objects}
use Rattle.qtext_rows.specs.Rest.{look_object, moment_object, rest_objects}

-- what the workers were answered, and then what looks at the boards were given
abbrev pub told_objects : View → Outcome → List ℕ
told_objects view o = transcripts_objects view.calls o.transcripts ++ flat_map look_object o.boards

-- the records, and what stands below them
abbrev pub records_and_rest : View → Outcome → ℕ → List ℕ
records_and_rest view o moment = record_objects view o.records moment ++ rest_objects o

-- what is left at the end
abbrev pub left_objects : View → Outcome → ℕ → List ℕ
left_objects view o moment = moment_object moment ++ records_and_rest view o moment

-- an outcome as it is shown: the records alone, or all of it
abbrev pub json_text : View → Outcome → ℕ → List ℕ
json_text view o moment = if view.quiet then record_objects view o.records moment
    else told_objects view o ++ left_objects view o moment
