-- A loop that appends what it makes of the rows that pass a test.
use Rattle.std.proofs.Common.{◌≡◌, ℕ, ◌+◌, ◌<◌, Bool, true, false, cond, List, [], ◌∷◌, ◌++◌, length, map, take, get_or, Option, Some, None, refl, sym, ap, ◌∙◌, append_assoc, append-nil, add-one}
use Rattle.std.specs.List.{filter, find}
use Rattle.std.specs.Option.{option_or}
use Rattle.std.proofs.Math.Seq.{take-suc}
use Rattle.std.proofs.lemmas.List.Folds.{find-append}

filter-first : {A B : Type 0} (f : A → B) (x : A) (xs : List A) (passes : Bool)
    → map f (cond passes (x ∷ xs) xs) ≡ cond passes (f x ∷ []) [] ++ map f xs
filter-first f x xs true = refl
filter-first f x xs false = refl

-- one row more at the end
filter-push : {A B : Type 0} (f : A → B) (p : A → Bool) (xs : List A) (x : A)
    → map f (filter p (xs ++ x ∷ [])) ≡ map f (filter p xs) ++ cond (p x) (f x ∷ []) []
filter-push f p [] x = filter-first f x [] (p x) ∙ append-nil (cond (p x) (f x ∷ []) [])
filter-push f p (y ∷ ys) x =
    filter-first f y (filter p (ys ++ x ∷ [])) (p y)
    ∙ ap (λ bs. cond (p y) (f y ∷ []) [] ++ bs) (filter-push f p ys x)
    ∙ sym (append_assoc (cond (p y) (f y ∷ []) []) (map f (filter p ys)) (cond (p x) (f x ∷ []) []))
    ∙ ap (λ bs. bs ++ cond (p x) (f x ∷ []) []) (sym (filter-first f y (filter p ys) (p y)))

-- one row more, which is appended where it passes
pub kept_more : {A B : Type 0} (f : A → B) (p : A → Bool) (xs : List A) (count : ℕ) (x d : A) (start old new : List B)
    → old ≡ start ++ map f (filter p (take count xs)) → count < length xs → x ≡ get_or xs count d
    → new ≡ old ++ cond (p x) (f x ∷ []) [] → new ≡ start ++ map f (filter p (take (count + 1) xs))
kept_more f p xs count x d start old new so_far few is more =
    let first : take (count + 1) xs ≡ take count xs ++ x ∷ [] = rw (add-one, is) (take-suc xs count d few) in
    more ∙ ap (λ bs. bs ++ cond (p x) (f x ∷ []) []) so_far
    ∙ append_assoc start (map f (filter p (take count xs))) (cond (p x) (f x ∷ []) [])
    ∙ ap (λ bs. start ++ bs) (sym (filter-push f p (take count xs) x) ∙ ap (λ ys. map f (filter p ys)) (sym first))

-- the same where something else told whether it passes
pub kept_told : {A B : Type 0} (f : A → B) (p : A → Bool) (xs : List A) (count : ℕ) (x d : A) (start old new : List B) (passes : Bool)
    → old ≡ start ++ map f (filter p (take count xs)) → count < length xs → x ≡ get_or xs count d → passes ≡ p x
    → new ≡ old ++ cond passes (f x ∷ []) [] → new ≡ start ++ map f (filter p (take (count + 1) xs))
kept_told f p xs count x d start old new passes so_far few is told more =
    kept_more f p xs count x d start old new so_far few is (more ∙ ap (λ b. old ++ cond b (f x ∷ []) []) told)

-- one row more, which is found where none before it was
pub find_more : {A : Type 0} (p : A → Bool) (xs : List A) (count : ℕ) (x d : A) (old new : Option A)
    → old ≡ find p (take count xs) → count < length xs → x ≡ get_or xs count d
    → new ≡ option_or old (cond (p x) (Some x) None) → new ≡ find p (take (count + 1) xs)
find_more p xs count x d old new so_far few is more =
    let first : take (count + 1) xs ≡ take count xs ++ x ∷ [] = rw (add-one, is) (take-suc xs count d few) in
    more ∙ ap (λ o. option_or o (cond (p x) (Some x) None)) so_far
    ∙ sym (find-append p (take count xs) (x ∷ [])) ∙ ap (find p) (sym first)
