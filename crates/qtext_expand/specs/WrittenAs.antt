-- What is written for a line, as the code has it.
use Rattle.std.specs.Prelude.{ℕ, List, [], ◌∷◌, map}
use Rattle.qtext_expand.specs.declared.line.Expanded.{Expanded}
use Rattle.qtext_expand.specs.FriendlyLines.{Written}

-- an answer, seen as lists of bytes
abbrev pub written_as : Expanded → Written
written_as w = record { when = w.when; who = w.who.items; lines = map (λ line. line.items) w.lines.items }

-- no line
abbrev pub unchanged : ℕ → List ℕ → Written
unchanged when who = record { when = when; who = who; lines = [] }

-- one line, and its moment
abbrev pub as_it_stands : ℕ → List ℕ → List ℕ → Written
as_it_stands moment who bytes = record { when = moment; who = who; lines = bytes ∷ [] }
