-- Lines as a script has them.
use Rattle.std.specs.Prelude.{ℕ, true, List, Result, Ok}
use Rattle.qplain.specs.declared.line.Line.{Line}
use Rattle.qtext.specs.declared.text_fault.TextKind.{TextKind}
use Rattle.qtext.specs.Reading.{◌>>=◌, each_of}
use Rattle.qtext_files.specs.Scripts.{script_line_of}

-- what a line says by itself in a script
abbrev pub plain_line : List ℕ → Result Line TextKind
plain_line bytes = script_line_of (record { number = 1; bytes = bytes; whole = true })

-- the moment of a plain line
unfoldable pub plain_moment : List ℕ → Result ℕ TextKind
plain_moment bytes = do
  line ← plain_line bytes
  Ok line.moment

-- a line, if it is plain
unfoldable pub judged : List ℕ → Result (List ℕ) TextKind
judged bytes = do
  _ ← plain_moment bytes
  Ok bytes

-- lines, if each is plain
abbrev pub each_judged : List (List ℕ) → Result (List (List ℕ)) TextKind
each_judged lines = each_of judged lines
