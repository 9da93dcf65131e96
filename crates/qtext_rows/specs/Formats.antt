-- An outcome in the format that a view asks for (profile).
use Rattle.std.specs.Prelude.{ℕ, List}
use Rattle.qtext.specs.declared.format.Format.{Format}
use Rattle.qtext.specs.declared.format.Format.TheVariants.{Text, Json, Csv}
use Rattle.qtext.specs.declared.view.View.{View}
use Rattle.qrun_replay.specs.declared.outcome.Outcome.{Outcome}
use Rattle.qtext_outcome.specs.Views.{shown_text}
use Rattle.qtext_rows.specs.Csv.{csv_text}
use Rattle.qtext_rows.specs.Json.{json_text}

-- the text in this format: as people read it, lines of JSON, or the report alone as records of CSV
abbrev pub text_in : Format → View → Outcome → ℕ → List ℕ
text_in Text view o moment = shown_text view o moment
text_in Json view o moment = json_text view o moment
text_in Csv view o moment = csv_text view o.records moment

-- the text in the format that the view asks for
abbrev pub formatted_text : View → Outcome → ℕ → List ℕ
formatted_text view o moment = text_in view.format view o moment
