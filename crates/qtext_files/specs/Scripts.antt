-- Scripts: their lines, or the first line at fault with the first thing wrong in it.
use Rattle.std.specs.Prelude.{ℕ, not, List, [], ◌∷◌, Result, Ok, Err, nat_lt, if◌then◌else◌}
use Rattle.std.specs.List.{list_all}
use Rattle.qplain.specs.declared.line.Line.{Line}
use Rattle.qtext.specs.declared.text_fault.TextKind.{TextKind}
use Rattle.qtext.specs.declared.text_fault.TextKind.TheVariants.{Cut, BadByte, BadNumber, BadCred, TooMany}
use Rattle.qtext.specs.declared.text_fault.TextFault.{TextFault}
use Rattle.qplain.specs.declared.bounds.TheConstants.{MAX_LINES}
use Rattle.qtext.specs.Reading.{◌>>=◌, each_of}
use Rattle.qtext.specs.Words.{is_text_byte, words, number}
use Rattle.qtext_read.specs.Callers.{caller_of}
use Rattle.qtext_read.specs.Calls.{call_in}
use Rattle.qtext_files.specs.RawLines.{RawLine, in_line, raw_lines}

-- CALLER CALL, at that moment
abbrev pub line_at : ℕ → List ℕ → List (List ℕ) → Result Line TextKind
line_at moment c call_words = do
  cred ← caller_of c
  call ← call_in call_words
  Ok (record { cred = cred; moment = moment; call = call })

-- MOMENT CALLER CALL
unfoldable pub line_in : List (List ℕ) → Result Line TextKind
line_in [] = Err BadNumber
line_in (m ∷ []) = do
  moment ← number m
  Err BadCred
line_in (m ∷ c ∷ call_words) = do
  moment ← number m
  line_at moment c call_words

-- what a line says, or the first thing wrong in it
unfoldable pub script_line_of : RawLine → Result Line TextKind
script_line_of l =
    if nat_lt MAX_LINES l.number then Err TooMany
    else if not l.whole then Err Cut
    else if not (list_all is_text_byte l.bytes) then Err BadByte
    else line_in (words l.bytes)

-- what a line says, or the fault that is told of it
unfoldable pub at_line : RawLine → Result Line TextFault
at_line l = in_line l.number (script_line_of l)

-- what a script says: its lines, or the first line at fault
abbrev pub script_of : List ℕ → Result (List Line) TextFault
script_of text = each_of at_line (raw_lines text)
