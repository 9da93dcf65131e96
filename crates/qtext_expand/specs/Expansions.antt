-- What a friendly script is written out as.
use Rattle.std.specs.Prelude.{◌≡◌, ℕ, ◌+◌, Bool, nat_lt, List, [], ◌∷◌, ◌++◌, length, Result, Ok, Err, if◌then◌else◌}
use Rattle.qplain.specs.Setups.{Setting}
use Rattle.qplain.specs.declared.line.Line.{Line}
use Rattle.qplain.specs.declared.bounds.TheConstants.{MAX_LINES}
use Rattle.qtext.specs.declared.text_fault.TextKind.{TextKind}
use Rattle.qtext.specs.declared.text_fault.TextKind.TheVariants.{TooMany}
use Rattle.qtext.specs.declared.text_fault.TextFault.{TextFault}
use Rattle.qtext.specs.Reading.{◌>>=◌}
use Rattle.qtext_files.specs.RawLines.{RawLine, in_line, raw_lines}
use Rattle.qtext_files.specs.Scripts.{script_of}
use Rattle.qtext_expand.specs.FriendlyLines.{Written, line_written}
use Rattle.qtext_expand.specs.FriendlyWords.{ended}

-- what is written for a line, unless that is more than a script may have after so many lines
abbrev pub unless_too_many : ℕ → Written → Result Written TextKind
unless_too_many before w = if nat_lt MAX_LINES (before + length w.lines) then Err TooMany else Ok w

-- what a line, whole or not, is written out as after so many lines, or the first thing wrong in it
abbrev pub written_after : Setting → ℕ → ℕ → List ℕ → Bool → List ℕ → Result Written TextKind
written_after s before when who whole bytes = line_written s when who whole bytes >>= unless_too_many before

-- what a line is written out as after so many lines, or its fault
unfoldable pub line_expansion : Setting → ℕ → ℕ → List ℕ → RawLine → Result Written TextFault
line_expansion s before when who l = in_line l.number (written_after s before when who l.whole l.bytes)

-- what lines are written out as after so many, one after the other, or the first fault
unfoldable pub expansion_from : Setting → ℕ → ℕ → List ℕ → List RawLine → Result (List ℕ) TextFault
expansion_from s before when who [] = Ok []
expansion_from s before when who (l ∷ ls) = do
  w ← line_expansion s before when who l
  others ← expansion_from s (before + length w.lines) w.when w.who ls
  Ok (ended w.lines ++ others)

-- what a friendly script is written out as, or the first line at fault: the clock begins at 0, and nobody calls
abbrev pub expansion : Setting → List ℕ → Result (List ℕ) TextFault
expansion s text = expansion_from s 0 0 [] (raw_lines text)

-- the text is a script
abbrev pub IsScript : List ℕ → Type 0
IsScript text = (lines : List Line) × (script_of text ≡ Ok lines)
