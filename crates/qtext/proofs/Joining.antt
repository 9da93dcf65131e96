-- Words that are joined by a separator are the parts that it cuts.
use Rattle.std.proofs.Common.{◌≡◌, ℕ, Bool, true, false, not, ◌&&◌, eqb, List, [], ◌∷◌, ◌++◌, refl, ap, ◌∙◌, arith}
use Rattle.std.specs.List.{onto_first, join_with_byte, list_all, AllByRecursion}
use Rattle.std.proofs.lemmas.List.Splits.{slice_split-cons_no, slice_split-cons_yes}
use Rattle.std.proofs.lemmas.Bool.Decides.{nat_tests}
use Rattle.qtext.specs.Words.{parts}

-- no byte is the separator
abbrev pub lacks : ℕ → List ℕ → Bool
lacks s xs = list_all (λ b. not (eqb b s)) xs

pub not_true : (b : Bool) → not b ≡ true → b ≡ false
not_true true e = absurd cc
not_true false e = refl

pub and_true : (a b : Bool) → (a && b) ≡ true → (a ≡ true) × (b ≡ true)
and_true true b e = (refl, e)
and_true false b e = absurd cc

pub and_both : (a b : Bool) → a ≡ true → b ≡ true → (a && b) ≡ true
and_both a b p q = rw (p, q) refl

-- the last word, and a word with a separator after it
pub parts_last : (s : ℕ) (xs : List ℕ) → lacks s xs ≡ true → parts s xs ≡ xs ∷ []
parts_last s [] h = refl
parts_last s (x ∷ xs) h =
    let k = and_true (not (eqb x s)) (lacks s xs) h in
    slice_split-cons_no (λ b. eqb b s) x xs (not_true (eqb x s) k.0) ∙ ap (onto_first x) (parts_last s xs k.1)

same_byte : (s : ℕ) → eqb s s ≡ true
same_byte s = grind (arith, nat_tests)

pub parts_first : (s : ℕ) (xs ys : List ℕ) → lacks s xs ≡ true → parts s (xs ++ s ∷ ys) ≡ xs ∷ parts s ys
parts_first s [] ys h = slice_split-cons_yes (λ b. eqb b s) s ys (same_byte s)
parts_first s (x ∷ xs) ys h =
    let k = and_true (not (eqb x s)) (lacks s xs) h in
    slice_split-cons_no (λ b. eqb b s) x (xs ++ s ∷ ys) (not_true (eqb x s) k.0) ∙ ap (onto_first x) (parts_first s xs ys k.1)

-- ---- joined words

pub parts_join : (s : ℕ) (w : List ℕ) (ws : List (List ℕ)) → AllByRecursion (λ v. lacks s v ≡ true) (w ∷ ws) → parts s (join_with_byte s (w ∷ ws)) ≡ w ∷ ws
parts_join s w [] h = parts_last s w h.0
parts_join s w (v ∷ ws) h = parts_first s w (join_with_byte s (v ∷ ws)) h.0 ∙ ap (λ (l : List (List ℕ)). w ∷ l) (parts_join s v ws h.1)

-- a test of each byte
pub passes_append : (p : ℕ → Bool) (xs ys : List ℕ) → list_all p xs ≡ true → list_all p ys ≡ true → list_all p (xs ++ ys) ≡ true
passes_append p [] ys h k = k
passes_append p (x ∷ xs) ys h k =
    let b = and_true (p x) (list_all p xs) h in
    and_both (p x) (list_all p (xs ++ ys)) b.0 (passes_append p xs ys b.1 k)

pub passes_join : (p : ℕ → Bool) (s : ℕ) (ws : List (List ℕ)) → p s ≡ true
    → AllByRecursion (λ v. list_all p v ≡ true) ws → list_all p (join_with_byte s ws) ≡ true
passes_join p s [] e h = refl
passes_join p s (w ∷ []) e h = h.0
passes_join p s (w ∷ v ∷ ws) e h = passes_append p w (s ∷ join_with_byte s (v ∷ ws)) h.0 (and_both (p s) _ e (passes_join p s (v ∷ ws) e h.1))

pub passes_weaker : (p q : ℕ → Bool) (xs : List ℕ) → ((b : ℕ) → p b ≡ true → q b ≡ true) → list_all p xs ≡ true → list_all q xs ≡ true
passes_weaker p q [] f h = refl
passes_weaker p q (x ∷ xs) f h =
    let b = and_true (p x) (list_all p xs) h in
    and_both (q x) (list_all q xs) (f x b.0) (passes_weaker p q xs f b.1)
