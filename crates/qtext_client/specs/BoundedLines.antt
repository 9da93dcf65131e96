-- How a reader's bytes become lines.
use Rattle.std.specs.Prelude.{◌≡◌, ◌≢◌, ℕ, ◌<◌, ◌+◌, ◌/◌, ◌%◌, List, [], ◌++◌, length, Option, IfSome, ⊤}
use Rattle.std.specs.List.{All}
use Rattle.std.specs.Io.BufRead.{DropsThrough, take_through}
use Rattle.std.specs.Io.KnownBytes.{Consumes}
use Rattle.qtext_client.specs.declared.bounded_line.Got.{Got}
use Rattle.qtext_client.specs.declared.bounded_line.Got.TheVariants.{Text, TooLong as LongLine, NoMemory as Unread}
use Rattle.qtext_client.specs.declared.bounded_line.Got.TheVariants.{End, Refused as Gone}
use Rattle.qtext_client.specs.declared.bounded_line.LinePart.{LinePart}
use Rattle.qtext_client.specs.declared.bounded_line.LinePart.TheVariants.{Last, More, TooLong, NoMemory, Refused}
use Rattle.qtext_client.specs.declared.bounded_line.Passed.{Passed}
use Rattle.qtext_client.specs.declared.bounded_line.Passed.TheVariants as passed
use Rattle.qtext_client.specs.declared.bounded_line.TheConstants.{MAX_LINE}
use Rattle.qtext_client.specs.declared.turns.TheConstants.{KIB}
use Rattle.qtext_client.specs.declared.turns.Turns.{Turns}
use Rattle.qtext_client.specs.Turns.{HaveTaken}

-- a text of one line: one byte or more, and no line end but at its end
abbrev pub IsOneLine : List ℕ → Type 0
IsOneLine text = (take_through 10 text ≡ text) × (0 < length text)

-- a reader has lost its next line, which is this text: all up to its first line end, or all that it had
pub record Passes (old new : Option (List ℕ)) (text : List ℕ) : Type 0 where
  pub one : IsOneLine text
  pub first : IfSome old (λ xs. text ≡ take_through 10 xs)
  pub rest : DropsThrough old new 10

-- what came of a reader's next line: it stands in the room, or was passed over; or there is none
abbrev pub Gets : Option (List ℕ) → Option (List ℕ) → List ℕ → Got → Type 0
Gets old new room Text = Passes old new room
Gets old new room LongLine = (text : List ℕ) × Passes old new text × (MAX_LINE < length text)
Gets old new room Unread = (text : List ℕ) × Passes old new text
Gets old new room End = IfSome old (λ xs. xs ≡ [])
Gets old new room Gone = ⊤

-- of a reader's next line a turn was taken for each KiB where it was passed over, and none where it stands in the room
abbrev pub TakesTurns : Option (List ℕ) → Got → Option Turns → Option Turns → Type 0
TakesTurns old Text before after = after ≡ before
TakesTurns old LongLine before after = IfSome old (λ xs. HaveTaken (length (take_through 10 xs) / KIB) before after)
TakesTurns old Unread before after = IfSome old (λ xs. HaveTaken (length (take_through 10 xs) / KIB) before after)
TakesTurns old End before after = ⊤
TakesTurns old Gone before after = ⊤

-- ---- what no public clause cites

-- the line gained what the reader had up to its first line end, and the reader has lost just that
pub record TakesLast (old new : Option (List ℕ)) (before after : List ℕ) : Type 0 where
  pub shown : List ℕ
  pub ends : after ≡ before ++ take_through 10 shown
  pub line : IfSome old (λ xs. after ≡ before ++ take_through 10 xs)
  pub rest : DropsThrough old new 10

-- the line gained what the reader has lost, and there is no line end in it
abbrev pub TakesMore : Option (List ℕ) → Option (List ℕ) → List ℕ → List ℕ → Type 0
TakesMore old new before after =
    (part : List ℕ) × (after ≡ before ++ part) × All (λ x. x ≢ 10) part × Consumes old new part

-- up to the reader's first line end, the line has more than N bytes
abbrev pub IsLonger : ℕ → Option (List ℕ) → List ℕ → Type 0
IsLonger n old before = IfSome old (λ xs. n < length before + length (take_through 10 xs))

-- what came of the part of a line that a reader shows
abbrev pub TakesPart : Option (List ℕ) → Option (List ℕ) → List ℕ → List ℕ → LinePart → Type 0
TakesPart old new before after Last = TakesLast old new before after
TakesPart old new before after More = TakesMore old new before after
TakesPart old new before after TooLong = TakesMore old new before after × IsLonger MAX_LINE old before
TakesPart old new before after NoMemory = TakesMore old new before after × IsLonger 0 old before
TakesPart old new before after Refused = TakesMore old new before after

-- what came of the part of a line that a reader shows and that was passed over: behind N bytes that had taken no turn
-- one was taken for each KiB of them and of it, and so many bytes have taken none yet
abbrev pub PassesPart : ℕ → Option (List ℕ) → Option (List ℕ) → Option Turns → Option Turns → Passed → Type 0
PassesPart n old new before after passed.Last = (part : List ℕ) × TakesLast old new [] part
    × HaveTaken ((n + length part) / KIB) before after
PassesPart n old new before after (passed.More rest) = (part : List ℕ) × TakesMore old new [] part
    × HaveTaken ((n + length part) / KIB) before after × (rest ≡ (n + length part) % KIB)
PassesPart n old new before after passed.Refused = ⊤

-- a reader has lost the rest of a line of which N bytes were read, and a turn was taken for each KiB of both
pub record PassesOver (n : ℕ) (old new : Option (List ℕ)) (before after : Option Turns) : Type 0 where
  pub rest : DropsThrough old new 10
  pub turns : IfSome old (λ xs. HaveTaken ((n + length (take_through 10 xs)) / KIB) before after)
