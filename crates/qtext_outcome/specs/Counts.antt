-- Lines of words and counts.
use Rattle.std.specs.Prelude.{ℕ, List, [], ◌∷◌, ◌++◌, codes, decimal}
use Rattle.std.specs.List.{concat, flat_map}

-- a line of these words, each with the count behind it
abbrev pub counts_text : List (List ℕ × ℕ) → List ℕ
counts_text counts = concat (flat_map (λ c. c.0 ∷ decimal c.1 ∷ []) counts ++ codes "\n" ∷ [])
