-- A line of which the moment was read.
use Rattle.std.specs.Prelude.{◌≡◌, map, Result, Ok, Err}
use Rattle.qplain.specs.declared.line.Line.{Line}
use Rattle.qtext.specs.declared.read_fault.ReadFault.{ReadFault}
use Rattle.qtext.specs.declared.text_fault.TextKind.{TextKind}
use Rattle.qtext.specs.Gives.{Fails}
use Rattle.qtext_files.specs.declared.line.LineWords.{LineWords}
use Rattle.qtext_files.specs.Scripts.{line_at}

-- the line is what its caller and its call say at that moment, or it is at fault
abbrev pub Begins : Result LineWords ReadFault → Result Line TextKind → Type 0
Begins (Ok begun) said = said ≡ line_at begun.moment begun.caller.now (map (λ word. word.now) begun.call.now)
Begins (Err fault) said = Fails fault said
