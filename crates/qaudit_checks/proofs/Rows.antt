-- Lists of rows that are made of a table: sums, tests and filters of them.
use Rattle.std.proofs.Common.{◌≡◌, ℕ, ◌+◌, Bool, false, ◌||◌, cond, List, [], ◌∷◌, map, All, refl, sym, ap, ◌∙◌, sum_by}
use Rattle.std.specs.List.{filter, list_any}
use Rattle.std.specs.Map.{values_of}
use Rattle.std.proofs.lemmas.List.Elements.{All-head, All-tail}
use Rattle.std.proofs.lemmas.List.Sums.{sum_by-cons}

-- a sum over rows, by what they are made of
pub sum_by-map : {A B : Type 0} (f : B → ℕ) (row : A → B) (xs : List A) → sum_by f (map row xs) ≡ sum_by (λ x. f (row x)) xs
sum_by-map f row [] = refl
sum_by-map f row (x ∷ xs) =
    sum_by-cons f (row x) (map row xs) ∙ ap (λ n. f (row x) + n) (sum_by-map f row xs)
    ∙ sym (sum_by-cons (λ y. f (row y)) x xs)

-- a sum over the rows of entries is one over their values, where each row adds what its value adds
pub sum_by-rows : {K X B : Type 0} (f : B → ℕ) (g : X → ℕ) (row : K × X → B) (es : List (K × X))
    → ((e : K × X) → f (row e) ≡ g e.1) → sum_by f (map row es) ≡ sum_by g (values_of es)
sum_by-rows f g row es same =
    sum_by-map f row es ∙ (λ i. sum_by (λ e. same e i) es) ∙ sym (sum_by-map g (λ e. e.1) es)

-- a test of rows, by what they are made of
pub list_any-map : {A B : Type 0} (p : B → Bool) (row : A → B) (xs : List A) → list_any p (map row xs) ≡ list_any (λ x. p (row x)) xs
list_any-map p row [] = refl
list_any-map p row (x ∷ xs) = ap (λ b. p (row x) || b) (list_any-map p row xs)

-- no row passes
pub filter-none : {A B : Type 0} (p : B → Bool) (row : A → B) (xs : List A) → All (λ x. p (row x) ≡ false) xs → filter p (map row xs) ≡ []
filter-none p row [] none = refl
filter-none p row (x ∷ xs) none =
    ap (λ b. cond b (row x ∷ filter p (map row xs)) (filter p (map row xs))) (All-head (λ y. p (row y) ≡ false) x xs none)
    ∙ filter-none p row xs (All-tail (λ y. p (row y) ≡ false) x xs none)

-- rows that are made of rows
pub map-map : {A B C : Type 0} (f : B → C) (row : A → B) (xs : List A) → map f (map row xs) ≡ map (λ x. f (row x)) xs
map-map f row [] = refl
map-map f row (x ∷ xs) = ap (λ ys. f (row x) ∷ ys) (map-map f row xs)
