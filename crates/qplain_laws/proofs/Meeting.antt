-- What the walk to the place of a path meets, one name after the other, for the proofs of stores that remember walks.
use Rattle.std.proofs.Common.{◌≡◌, ℕ, zero, suc, ◌+◌, Bool, true, false, ◌||◌, List, [], ◌∷◌, ◌++◌, length, take, fold, Result, Ok, refl, sym, ap, ◌∙◌, arith}
use Rattle.std.specs.List.{list_any, range_with_len}
use Rattle.qplain.specs.declared.bounds.TheConstants.{ROOT}
use Rattle.qplain.specs.declared.refusal.Refusal.{Refusal}
use Rattle.qplain.specs.State.{State}
use Rattle.qplain.specs.Walk.{follow, walk}
use Rattle.qplain.specs.Renames.{is_reached, meets}

-- a walk from what was reached meets the number before its last name
abbrev pub meets_from : State → ℕ → Result ℕ Refusal → List (List ℕ) → Bool
meets_from S number r names = list_any (λ n. is_reached number (fold (follow S) r (take n names))) (range_with_len 0 (length names))

range-shift : (f : ℕ → Bool) (a n : ℕ) → list_any f (range_with_len (a + 1) n) ≡ list_any (λ k. f (k + 1)) (range_with_len a n)
range-shift f a zero = refl
range-shift f a (suc n) = ap (λ b. f (a + 1) || b) (range-shift f (a + 1) n)

-- where it begins, or after its first name
pub meets_from-first : (S : State) (number : ℕ) (r : Result ℕ Refusal) (name : List ℕ) (rest : List (List ℕ))
    → meets_from S number r (name ∷ rest) ≡ (is_reached number r || meets_from S number (follow S r name) rest)
meets_from-first S number r name rest =
    ap (λ b. is_reached number r || b) (range-shift here 0 (length rest)
    ∙ (λ i. list_any (λ k. is_reached number (fold (follow S) r (take (one-more k i) (name ∷ rest)))) (range_with_len 0 (length rest))))
  where
    here : ℕ → Bool
    here n = is_reached number (fold (follow S) r (take n (name ∷ rest)))

    one-more : (k : ℕ) → k + 1 ≡ suc k
    one-more k = omega arith

or-assoc : (a b c : Bool) → (a || (b || c)) ≡ ((a || b) || c)
or-assoc true b c = refl
or-assoc false b c = refl

or-false : (a : Bool) → (a || false) ≡ a
or-false true = refl
or-false false = refl

meets_from-last : (S : State) (number : ℕ) (r : Result ℕ Refusal) (names : List (List ℕ)) (name : List ℕ)
    → meets_from S number r (names ++ name ∷ []) ≡ (meets_from S number r names || is_reached number (fold (follow S) r names))
meets_from-last S number r [] name = meets_from-first S number r name [] ∙ or-false (is_reached number r)
meets_from-last S number r (first ∷ rest) name =
    meets_from-first S number r first (rest ++ name ∷ [])
    ∙ ap (λ b. is_reached number r || b) (meets_from-last S number (follow S r first) rest name)
    ∙ or-assoc (is_reached number r) (meets_from S number (follow S r first) rest) (is_reached number (fold (follow S) (follow S r first) rest))
    ∙ ap (λ b. b || is_reached number (fold (follow S) (follow S r first) rest)) (sym (meets_from-first S number r first rest))

-- no walk to the place of the root meets anything
pub meets-none : (S : State) (number : ℕ) → meets S [] number ≡ false
meets-none S number = refl

-- with one name more the walk to the place meets what it met, and what the walk of the names before led to
pub meets-last : (S : State) (names : List (List ℕ)) (name : List ℕ) (number : ℕ)
    → meets S (names ++ name ∷ []) number ≡ (meets S names number || is_reached number (walk S names))
meets-last S names name number = meets_from-last S number (Ok ROOT) names name
