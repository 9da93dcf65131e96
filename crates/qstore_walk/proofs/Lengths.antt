-- A path of no more bytes than a component may have is not too long, nor is any component of it.
use Rattle.std.proofs.Common.{◌≡◌, ℕ, suc, ◌≤◌, Bool, true, false, cond, nat_lt, ◌||◌, List, [], ◌∷◌, codes, drop, length, All, refl, sym, subst, arith, tests}
use Rattle.std.specs.List.{onto_first, slice_split}
use Rattle.std.proofs.lemmas.List.Elements.{All-cons, All-drop, All-head, All-nil, All-tail, All-weaker}
use Rattle.std.proofs.lemmas.List.Folds.{list_any_none}
use Rattle.std.proofs.lemmas.List.Splits.{slice_split-cons_no, slice_split-cons_yes}
use Rattle.qplain.specs.declared.bounds.TheConstants.{MAX_NAME, MAX_PATH}
use Rattle.qplain.specs.Walk.{components, is_slash, is_text, is_too_long}

-- a name has at most so many bytes
abbrev IsWithin : ℕ → List ℕ → Type 0
IsWithin n name = length name ≤ n

-- one more byte before the first part
within-onto : (b n : ℕ) (parts : List (List ℕ)) → All (IsWithin n) parts → All (IsWithin (suc n)) (onto_first b parts)
within-onto b n [] all = All-cons (IsWithin (suc n)) (b ∷ []) [] (omega arith) (All-nil (IsWithin (suc n)))
within-onto b n (part ∷ parts) all =
    let first = All-head (IsWithin n) part parts all in
    All-cons (IsWithin (suc n)) (b ∷ part) parts (omega (arith, first))
    (All-weaker (IsWithin n) (IsWithin (suc n)) (λ name h. omega (arith, h)) parts (All-tail (IsWithin n) part parts all))

-- no part is longer than the whole
parts-within : (bytes : List ℕ) → All (IsWithin (length bytes)) (slice_split is_slash bytes)
parts-within [] = All-cons (IsWithin 0) [] [] (omega arith) (All-nil (IsWithin 0))
parts-within (b ∷ bytes) = by (is_slash b) refl (parts-within bytes)
  where
    n : ℕ
    n = suc (length bytes)

    by : (slash : Bool) → is_slash b ≡ slash → All (IsWithin (length bytes)) (slice_split is_slash bytes)
        → All (IsWithin n) (slice_split is_slash (b ∷ bytes))
    by true slash rest = subst (All (IsWithin n)) (sym (slice_split-cons_yes is_slash b bytes slash))
        (All-cons (IsWithin n) [] (slice_split is_slash bytes) (omega arith)
        (All-weaker (IsWithin (length bytes)) (IsWithin n) (λ name h. omega (arith, h)) (slice_split is_slash bytes) rest))
    by false other rest = subst (All (IsWithin n)) (sym (slice_split-cons_no is_slash b bytes other))
        (within-onto b (length bytes) (slice_split is_slash bytes) rest)

-- nor is any component
components-within : (path : List ℕ) → All (IsWithin (length path)) (components path)
components-within path = by (is_text (codes "/") path)
  where
    by : (root : Bool) → All (IsWithin (length path)) (cond root [] (drop 1 (slice_split is_slash path)))
    by true = All-nil (IsWithin (length path))
    by false = All-drop (IsWithin (length path)) 1 (slice_split is_slash path) (parts-within path)

pub short-fits : (path : List ℕ) → length path ≤ MAX_NAME → is_too_long path ≡ false
short-fits path short =
    let whole : nat_lt MAX_PATH (length path) ≡ false = grind (arith, tests, short) in
    let fits : (name : List ℕ) → length name ≤ length path → nat_lt MAX_NAME (length name) ≡ false = λ name h. grind (arith, tests, short, h) in
    let none = list_any_none (λ name. nat_lt MAX_NAME (length name)) (components path)
    (All-weaker (IsWithin (length path)) (λ name. nat_lt MAX_NAME (length name) ≡ false) fits (components path) (components-within path)) in
    λ i. whole i || none i
