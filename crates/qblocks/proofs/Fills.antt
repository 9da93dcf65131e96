-- Lists of equal bytes, compared.
use Rattle.std.proofs.Common.{◌≡◌, ℕ, zero, suc, Bool, true, false, ◌==◌, ◌&&◌, nat_eq, List, [], ◌∷◌, length, replicate, refl, sym, ap, ◌∙◌}
use Rattle.std.proofs.Math.Dec.{eqb, eqb-suc-zero, eqb-zero-suc, eqb-suc-suc}
use Rattle.std.specs.List.{list_all}
use Rattle.std.proofs.lemmas.Cmp.{nat_list_eq_equiv}
use Rattle.std.specs.Cmp.Lexicographic.{pointwise}

rotate : (a b c : Bool) → (a && (b && c)) ≡ (b && (a && c))
rotate true b c = refl
rotate false true c = refl
rotate false false c = refl

-- a list compared with N equal bytes
pub equals_fill : (n b : ℕ) (xs : List ℕ) → pointwise nat_eq xs (replicate n b) ≡ (length xs == n && list_all (λ x. x == b) xs)
equals_fill zero b [] = refl
equals_fill zero b (x ∷ xs) = ap (λ t. t && list_all (λ y. y == b) (x ∷ xs)) (sym (eqb-suc-zero (length xs)))
equals_fill (suc n) b [] = ap (λ t. t && true) (sym (eqb-zero-suc n))
equals_fill (suc n) b (x ∷ xs) =
    ap (λ t. nat_eq x b && t) (equals_fill n b xs) ∙ rotate (x == b) (length xs == n) (list_all (λ y. y == b) xs)
    ∙ ap (λ t. t && (x == b && list_all (λ y. y == b) xs)) (sym (eqb-suc-suc (length xs) n))

-- N equal bytes compared with a list
pub fill_equals : (n b : ℕ) (xs : List ℕ) → pointwise nat_eq (replicate n b) xs ≡ (length xs == n && list_all (λ x. x == b) xs)
fill_equals n b xs = nat_list_eq_equiv.symm (replicate n b) xs ∙ equals_fill n b xs
