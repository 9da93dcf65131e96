-- The first line of a text that is shown in part.
use Rattle.std.proofs.Common.{◌≡◌, ◌≢◌, ℕ, zero, suc, ◌+◌, ◌≤◌, min, eqb, Bool, true, false, cond, List, [], ◌∷◌}
use Rattle.std.proofs.Common.{◌++◌, length, take, drop, get_or, All, refl, ap, arith, eq-eqb}
use Rattle.std.specs.List.{position_or_len}
use Rattle.std.specs.Io.BufRead.{drop_through, take_through}
use Rattle.std.proofs.lemmas.List.Elements.{All-cons, All-nil}
use Rattle.std.proofs.BufReadLemmas.{take_through-nil}

-- a line has as many bytes as stand before its end, and one more where it has an end
pub through_len : (xs : List ℕ) → length (take_through 10 xs) ≡ min (position_or_len (λ b. eqb b 10) xs + 1) (length xs)
through_len [] = refl
through_len (x ∷ xs) = at (eqb x 10) refl (through_len xs)
  where
    at : (b : Bool) → eqb x 10 ≡ b → length (take_through 10 xs) ≡ min (position_or_len (λ c. eqb c 10) xs + 1) (length xs)
        → length (take_through 10 (x ∷ xs)) ≡ min (position_or_len (λ c. eqb c 10) (x ∷ xs) + 1) (suc (length xs))
    at true e rest = rw e (omega arith)
    at false e rest = rw e (omega (arith, rest))

pub through_within : (xs : List ℕ) → length (take_through 10 xs) ≤ length xs
through_within xs = omega (arith, through_len xs)

-- a line is a beginning of the text
pub taken_through : (xs : List ℕ) → take (length (take_through 10 xs)) xs ≡ take_through 10 xs
taken_through [] = refl
taken_through (x ∷ xs) =
    elim (eqb x 10) as (λ b. take (length (cond b (x ∷ []) (x ∷ take_through 10 xs))) (x ∷ xs) ≡ cond b (x ∷ []) (x ∷ take_through 10 xs)) [
      | true ↦ refl
      | false ↦ ap (λ l. x ∷ l) (taken_through xs)
    ]

-- a line's first line is that line
pub through_again : (xs : List ℕ) → take_through 10 (take_through 10 xs) ≡ take_through 10 xs
through_again [] = refl
through_again (x ∷ xs) = at (eqb x 10) refl (through_again xs)
  where
    at : (b : Bool) → eqb x 10 ≡ b → take_through 10 (take_through 10 xs) ≡ take_through 10 xs
        → take_through 10 (take_through 10 (x ∷ xs)) ≡ take_through 10 (x ∷ xs)
    at true e rest = simp e
    at false e rest = simp (e, rest)

-- with more behind it, the line is no shorter
pub through_grows : (xs ys : List ℕ) → length (take_through 10 xs) ≤ length (take_through 10 (xs ++ ys))
through_grows [] ys = omega arith
through_grows (x ∷ xs) ys =
    elim (eqb x 10) as (λ b. length (cond b (x ∷ []) (x ∷ take_through 10 xs)) ≤ length (cond b (x ∷ []) (x ∷ take_through 10 (xs ++ ys)))) [
      | true ↦ omega arith
      | false ↦ omega (arith, through_grows xs ys)
    ]

-- a shown line that has its end is the first line of all
pub ended_line : (xs ys : List ℕ) (i : ℕ) → suc i ≡ length (take_through 10 xs) → get_or xs i 0 ≡ 10
    → (take_through 10 (xs ++ ys) ≡ take_through 10 xs) × (drop_through 10 (xs ++ ys) ≡ drop (suc i) (xs ++ ys))
ended_line [] ys i is ends = absurd (omega (arith, is))
ended_line (x ∷ xs) ys i is ends = at (ended_line xs ys) (eqb x 10) refl i is ends
  where
    at : ((j : ℕ) → suc j ≡ length (take_through 10 xs) → get_or xs j 0 ≡ 10
        → (take_through 10 (xs ++ ys) ≡ take_through 10 xs) × (drop_through 10 (xs ++ ys) ≡ drop (suc j) (xs ++ ys)))
        → (b : Bool) → eqb x 10 ≡ b → (i : ℕ) → suc i ≡ length (take_through 10 (x ∷ xs)) → get_or (x ∷ xs) i 0 ≡ 10
        → (take_through 10 (x ∷ xs ++ ys) ≡ take_through 10 (x ∷ xs)) × (drop_through 10 (x ∷ xs ++ ys) ≡ drop (suc i) (x ∷ xs ++ ys))
    at more true e zero is ends = rw e (refl, refl)
    at more true e (suc i) is ends = absurd (omega (arith, rw e at is))
    at more false e zero is ends = absurd (let hit : eqb x 10 ≡ true = eq-eqb x 10 ends in cc)
    at more false e (suc i) is ends =
        let rest = more i (omega (arith, rw e at is)) ends in
        rw e (ap (λ l. x ∷ l) rest.0, rest.1)

-- a shown line that has no end is all that is shown
pub open_line : (xs : List ℕ) (i : ℕ) → suc i ≡ length (take_through 10 xs) → eqb (get_or xs i 0) 10 ≡ false
    → (take_through 10 xs ≡ xs) × All (λ x. x ≢ 10) xs
open_line [] i is ends = absurd (omega (arith, is))
open_line (x ∷ xs) i is ends = at (open_line xs) (eqb x 10) refl i is ends
  where
    at : ((j : ℕ) → suc j ≡ length (take_through 10 xs) → eqb (get_or xs j 0) 10 ≡ false → (take_through 10 xs ≡ xs) × All (λ y. y ≢ 10) xs)
        → (b : Bool) → eqb x 10 ≡ b → (i : ℕ) → suc i ≡ length (take_through 10 (x ∷ xs)) → eqb (get_or (x ∷ xs) i 0) 10 ≡ false
        → (take_through 10 (x ∷ xs) ≡ x ∷ xs) × All (λ y. y ≢ 10) (x ∷ xs)
    at more true e zero is ends = absurd (cc)
    at more true e (suc i) is ends = absurd (omega (arith, rw e at is))
    at more false e zero is ends =
        let none : xs ≡ [] = take_through-nil 10 xs (omega (arith, rw e at is)) in
        rw (e, none) (refl, All-cons (λ y. y ≢ 10) x [] (λ same. let hit : eqb x 10 ≡ true = eq-eqb x 10 same in cc) (All-nil (λ y. y ≢ 10)))
    at more false e (suc i) is ends =
        let rest = more i (omega (arith, rw e at is)) ends in
        rw e (ap (λ l. x ∷ l) rest.0, All-cons (λ y. y ≢ 10) x xs (λ same. let hit : eqb x 10 ≡ true = eq-eqb x 10 same in cc) rest.1)
