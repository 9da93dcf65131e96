-- The numbers that words spell.
use Rattle.std.specs.Prelude.{◌≡◌, ◌≤◌, ℕ, List, Some}
use Rattle.std.specs.Str.Parse.{IsNumeral, digits_value, without_leading_plus}
use Rattle.clap.specs.Words.{Row, Text, one_of}

-- the number that a text spells in decimal digits, after a plus or none
abbrev pub Spells : Text → ℕ → Type 0
Spells text n = IsNumeral 10 (without_leading_plus text) × (n ≡ digits_value 10 (without_leading_plus text))

-- the number that the word at this option spells, from the least to the most
abbrev pub IsNumberAt : Text → ℕ → ℕ → List Row → ℕ → Type 0
IsNumberAt option least most rows n =
    (text : Text) × (one_of option rows ≡ Some text) × Spells text n × (least ≤ n) × (n ≤ most)
