-- What is read of a text that is to be a script, and how far that is.
use Rattle.std.specs.Prelude.{◌≡◌, ℕ, ◌+◌, ◌⊎◌, List, [], ◌∷◌, Option, Some, None, Result, Ok, Err}
use Rattle.qplain.specs.declared.line.Line.{Line}
use Rattle.qtext.specs.declared.text_fault.TextFault.{TextFault}
use Rattle.qtext.specs.TextFaults.{want_of_memory}
use Rattle.qtext_files.specs.Scripts.{script_of}
use Rattle.qtool_runs.specs.declared.script_reader.Reading.{Reading}
use Rattle.qtool_runs.specs.declared.script_reader.ScriptFault.{ScriptFault}
use Rattle.qtool_runs.specs.declared.script_reader.Reading.TheVariants.{Begun, Done}

-- what the text says, or that memory was wanting
abbrev pub IsReadFrom : List ℕ → Result (List Line) TextFault → Type 0
IsReadFrom text result = (result ≡ script_of text) ⊎ (result ≡ Err want_of_memory)

-- a thread is at this text, or it was read
abbrev pub IsReading : List ℕ → Reading → Type 0
IsReading text (Begun handle) = handle.promise.text.value.items ≡ text
IsReading text (Done result) = IsReadFrom text result

-- what is wrong with this script, by its number, or else with a later one
abbrev pub fault_or : ℕ → Result (List Line) TextFault → Option ScriptFault → Option ScriptFault
fault_or number (Ok lines) later = later
fault_or number (Err fault) later = Some (record { number = number; fault = fault })

-- the first of these texts that is no script, by its number, where the first of them has this one
abbrev pub first_fault : ℕ → List (List ℕ) → Option ScriptFault
first_fault number [] = None
first_fault number (text ∷ texts) = fault_or number (script_of text) (first_fault (number + 1) texts)
