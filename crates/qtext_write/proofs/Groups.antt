-- A caller's ids, and its further groups with a comma before each.
use Rattle.std.proofs.Common.{◌≡◌, ℕ, List, [], ◌∷◌, ◌++◌, map, sym, ap, decimal}
use Rattle.std.specs.List.{flat_map, join_with_byte}
use Rattle.std.proofs.lemmas.List.{append-nil}
use Rattle.qtext_write.specs.Texts.{group_text}

pub joined : (first : List ℕ) (groups : List ℕ) → join_with_byte 44 (first ∷ map decimal groups) ≡ first ++ flat_map group_text groups
joined first [] = sym (append-nil first)
joined first (g ∷ gs) = ap (λ (l : List ℕ). first ++ 44 ∷ l) (joined (decimal g) gs)
