-- Hexadecimal digits of many bytes. No public clause cites this module.
use Rattle.std.specs.Prelude.{◌≡◌, ◌<◌, ℕ, ◌+◌, ◌*◌, List, [], ◌∷◌, ◌++◌, drop, map}
use Rattle.std.specs.Prelude.{Option, Some, None, Result, Ok, Err}
use lib.Lanes.{Each1, zip2}
use Rattle.hex.specs.Hex.{decode_pairs, hex_digit_value}
use Rattle.hex.specs.declared.error.FromHexError.{FromHexError}

-- a number, or 255 for none
abbrev pub number_or : Option ℕ → ℕ
number_or (Some n) = n
number_or None = 255

-- what a digit stands for, in either case, and 255 for what is none
abbrev pub digit_or : ℕ → ℕ
digit_or c = number_or (hex_digit_value c)

-- the first of each two digits
abbrev pub uppers_in : List ℕ → List ℕ
uppers_in [] = []
uppers_in (a ∷ []) = []
uppers_in (a ∷ b ∷ rest) = a ∷ uppers_in rest

-- the second of each two
abbrev pub lowers_in : List ℕ → List ℕ
lowers_in [] = []
lowers_in (a ∷ []) = []
lowers_in (a ∷ b ∷ rest) = b ∷ lowers_in rest

-- each two are digits
pub record AreDigits (word : List ℕ) : Type 0 where
  pub uppers : Each1 (λ d. d < 16) (map digit_or (uppers_in word))
  pub lowers : Each1 (λ d. d < 16) (map digit_or (lowers_in word))

-- the bytes of digits
abbrev pub bytes_in : List ℕ → List ℕ
bytes_in word = zip2 (λ u l. u * 16 + l) (map digit_or (uppers_in word)) (map digit_or (lowers_in word))

-- these bytes before those of a rest
abbrev pub before : List ℕ → Result (List ℕ) FromHexError → Result (List ℕ) FromHexError
before front (Ok rest) = Ok (front ++ rest)
before front (Err fault) = Err fault

-- a word's bytes are these, of as many pairs of digits, and those of the rest
abbrev pub Decodes : List ℕ → List ℕ → ℕ → Type 0
Decodes word bytes pairs = decode_pairs 0 word ≡ before bytes (decode_pairs (2 * pairs) (drop (2 * pairs) word))
