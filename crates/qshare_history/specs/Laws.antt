-- The rule of the one history, and what its step tells. No public clause cites this module.
use Rattle.std.specs.Prelude.{ℕ, ◌≡◌, ◌==◌, true, List, [], ◌∷◌, ◌++◌, length, MatchBool}
use Rattle.logbook.specs.Pages.{Cell, Step, View, Book, Named}
use Rattle.qplain.specs.declared.entry.Entry.{Entry}

-- the first word is the length of the history, the second stays 0
abbrev pub IsLengthKept : List Cell → List Entry → Type 0
IsLengthKept cells log = cells ≡ (length log, true) ∷ (0, true) ∷ []

-- the word of a history
abbrev pub head_of : Book → Named
head_of b = record { tracked = true; key = 0; book = b }

-- the entry was added to all that had been seen, if the length was the one that was expected
abbrev pub AddsEntry : Step Entry → View Entry ℕ → ℕ → View Entry ℕ → Type 0
AddsEntry s v found w = MatchBool (found == s.old) (w.0 ≡ v.0 ++ s.ask ∷ []) (Unit {0})
