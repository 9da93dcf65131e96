-- The words of a friendly line.
use Rattle.std.specs.Prelude.{ℕ, ◌==◌, Bool, false, List, [], ◌∷◌, ◌++◌, length, if◌then◌else◌}
use Rattle.std.specs.List.{flat_map, list_any}

-- the first byte is this one
abbrev pub begins : ℕ → List ℕ → Bool
begins byte [] = false
begins byte (b ∷ bs) = b == byte

-- a word in the place of a caller: it has a colon
abbrev pub is_caller : List ℕ → Bool
is_caller word = list_any (λ b. b == 58) word

-- a word, unless it has no byte: two spaces stand round such a one
abbrev pub some_word : List ℕ → List (List ℕ)
some_word w = if length w == 0 then [] else w ∷ []

-- words up to one that begins with a number sign, and none without a byte
unfoldable pub friendly_words : List (List ℕ) → List (List ℕ)
friendly_words [] = []
friendly_words (w ∷ ws) = if begins 35 w then [] else some_word w ++ friendly_words ws

-- words with a space before each
abbrev pub spaced : List (List ℕ) → List ℕ
spaced ws = flat_map (λ w. 32 ∷ w) ws

-- lines with a line end after each
abbrev pub ended : List (List ℕ) → List ℕ
ended ls = flat_map (λ l. l ++ 10 ∷ []) ls
