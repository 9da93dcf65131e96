-- What files hold, where they tell it: under each name a text, or nothing. Of files that do not (`None`), as the
-- machine's, this holds whatever they hold, and so says nothing.
use Rattle.std.specs.Prelude.{◌≡◌, ◌≢◌, ℕ, List, Option, Some, None}

-- what stands under each name, where that is told
abbrev pub Held : Type 0
Held = Option (List ℕ → Option (List ℕ))

-- under this name stands this text
abbrev pub IsUnder : Held → List ℕ → List ℕ → Type 0
IsUnder None name text = Unit {0}
IsUnder (Some held) name text = held name ≡ Some text

-- under this name stands this text, and under any other what stood there
abbrev pub StandsUnder : Held → Held → List ℕ → List ℕ → Type 0
StandsUnder None new name text = Unit {0}
StandsUnder (Some old) None name text = ⊥
StandsUnder (Some old) (Some new) name text =
    (new name ≡ Some text) × ((other : List ℕ) → other ≢ name → new other ≡ old other)
