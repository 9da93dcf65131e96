-- Words and counts, one after the other.
use Rattle.std.proofs.Common.{◌≡◌, ◌∙◌, ℕ, List, [], ◌∷◌, ◌++◌, ap, append_assoc, codes, decimal, map, refl}
use Rattle.std.proofs.lemmas.List.{append-nil}
use Rattle.std.specs.Borrow.{Bor}
use Rattle.std.specs.List.{concat, flat_map}
use Rattle.qtext_outcome.specs.Counts.{counts_text}

-- words and the count behind them
abbrev pub one_count : Bor (List ℕ) × ℕ → List ℕ
one_count c = concat (c.0.now ∷ decimal c.1 ∷ [])

-- all of them, and the end of their line
pub counts_joined : (counts : List (Bor (List ℕ) × ℕ))
    → flat_map one_count counts ++ codes "\n" ≡ counts_text (map (λ c. (c.0.now, c.1)) counts)
counts_joined [] = refl
counts_joined (c ∷ counts) =
    ap (λ (digits : List ℕ). ((c.0.now ++ digits) ++ flat_map one_count counts) ++ codes "\n") (append-nil (decimal c.1))
    ∙ append_assoc (c.0.now ++ decimal c.1) (flat_map one_count counts) (codes "\n")
    ∙ append_assoc c.0.now (decimal c.1) (flat_map one_count counts ++ codes "\n")
    ∙ ap (λ (rest : List ℕ). c.0.now ++ (decimal c.1 ++ rest)) (counts_joined counts)
