-- Rows pushed one after another: the steps of a loop, over a list in another order or over the places of a list.
use Rattle.std.proofs.Common.{◌≡◌, ℕ, ◌+◌, ◌<◌, ◌≤◌, List, [], ◌∷◌, ◌++◌, drop, flat_map, get_or, length, map, sym, ap, ◌∙◌, add-one, append_assoc, append-nil, drop-cons, subst, IsPermutation}
use Rattle.std.proofs.lemmas.List.{drop_all}

-- one step: the first of what is left gives the row that is pushed
pub shuffled_step : {A B : Type 0} (f : A → B) (rows more all : List B) (es rest : List A) (e : A) → es ≡ e ∷ rest
    → more ≡ rows ++ f e ∷ [] → IsPermutation all (rows ++ map f es) → IsPermutation all (more ++ map f rest)
shuffled_step f rows more all es rest e first pushed so_far =
    subst (IsPermutation all) (ap (λ xs. rows ++ map f xs) first ∙ sym (ap (λ xs. xs ++ map f rest) pushed ∙ append_assoc rows (f e ∷ []) (map f rest))) so_far

-- nothing is left
pub shuffled_end : {A B : Type 0} (f : A → B) (rows all : List B) (es : List A) → es ≡ [] → IsPermutation all (rows ++ map f es) → IsPermutation all rows
shuffled_end f rows all es none so_far = subst (IsPermutation all) (ap (λ xs. rows ++ map f xs) none ∙ append-nil rows) so_far

-- one step over places: what the element there gives is pushed
pub placed_step : {A B : Type 0} (f : A → List B) (rows more all : List B) (xs : List A) (i : ℕ) (d : A) → i < length xs
    → more ≡ rows ++ f (get_or xs i d) → rows ++ flat_map f (drop i xs) ≡ all → more ++ flat_map f (drop (i + 1) xs) ≡ all
placed_step f rows more all xs i d within pushed so_far =
    ap (λ r. r ++ flat_map f (drop (i + 1) xs)) pushed ∙ append_assoc rows (f (get_or xs i d)) (flat_map f (drop (i + 1) xs))
    ∙ ap (λ n. rows ++ (f (get_or xs i d) ++ flat_map f (drop n xs))) (add-one i)
    ∙ ap (λ l. rows ++ flat_map f l) (sym (drop-cons xs i d within)) ∙ so_far

-- no place is left
pub placed_end : {A B : Type 0} (f : A → List B) (rows all : List B) (xs : List A) (i : ℕ) → length xs ≤ i → rows ++ flat_map f (drop i xs) ≡ all → rows ≡ all
placed_end f rows all xs i past so_far = sym (ap (λ l. rows ++ flat_map f l) (drop_all i xs past) ∙ append-nil rows) ∙ so_far
