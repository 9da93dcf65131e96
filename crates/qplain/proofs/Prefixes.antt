-- Bytes that all pass a test.
use Rattle.std.proofs.Common.{◌≡◌, ℕ, zero, suc, ◌+◌, ◌-◌, ◌≤◌, Bool, true, false, eqb, nat_le, List, [], ◌∷◌, length, take, refl, ◌∙◌, inl, inr, arith}
use Rattle.std.specs.List.{prefix_len, list_all}
use Rattle.std.proofs.lemmas.Bool.{cases_Bool}
use Rattle.std.proofs.lemmas.Bool.Decides.{nat_tests}

one_more : (a b : ℕ) → eqb (1 + a) (suc b) ≡ eqb a b
one_more a b = grind (arith, nat_tests)

no_more : (b : ℕ) → eqb 0 (suc b) ≡ false
no_more b = grind (arith, nat_tests)

-- those before the first that fails are all exactly where each passes
pub whole_prefix : {X : Type 0} (p : X → Bool) (xs : List X) → eqb (prefix_len p xs) (length xs) ≡ list_all p xs
whole_prefix p [] = refl
whole_prefix p (x ∷ xs) = elim (cases_Bool (p x)) [
  | inl passes ↦ rw passes (one_more (prefix_len p xs) (length xs) ∙ whole_prefix p xs)
  | inr fails ↦ rw fails (no_more (length xs))
]

le_more : (n b : ℕ) → nat_le (suc n) (1 + b) ≡ nat_le n b
le_more n b = grind (arith, nat_tests)

le_none : (n : ℕ) → nat_le (suc n) 0 ≡ false
le_none n = grind (arith, nat_tests)

none_le : (b : ℕ) → nat_le 0 b ≡ true
none_le b = grind (arith, nat_tests)

-- none of the first N fails exactly where each of them passes
pub passes_up_to : {X : Type 0} (p : X → Bool) (n : ℕ) (xs : List X) → n ≤ length xs → nat_le n (prefix_len p xs) ≡ list_all p (take n xs)
passes_up_to p zero xs within = none_le (prefix_len p xs)
passes_up_to p (suc n) [] within = absurd (omega (arith, within))
passes_up_to p (suc n) (x ∷ xs) within = elim (cases_Bool (p x)) [
  | inl passes ↦ rw passes (le_more n (prefix_len p xs) ∙ passes_up_to p n xs (omega (arith, within)))
  | inr fails ↦ rw fails (le_none n)
]

-- an end behind a start is told as a length
pub le_behind : (from to n : ℕ) → from ≤ to → nat_le to (from + n) ≡ nat_le (to - from) n
le_behind from to n order = grind (arith, nat_tests, order)
