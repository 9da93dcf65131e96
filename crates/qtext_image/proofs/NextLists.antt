-- Lists with one more at their end, and tests that are the same.
use Rattle.std.proofs.Common.{◌≡◌, ◌⊎◌, ◌≤◌, Bool, true, false, ◌&&◌, ◌||◌, List, [], ◌∷◌, ◌++◌, length, map, inl, inr, refl, sym, ap, ◌∙◌, arith}
use Rattle.std.specs.List.{list_all, list_any, starts_with}
use Rattle.std.specs.declared.cmp.Ordering.{Ordering}
use Rattle.std.specs.Ordering.{is_lt}
use Rattle.std.proofs.lemmas.Bool.{and_parts}
use Rattle.std.proofs.lemmas.List.Folds.{list_all-append, list_any-append}
use Rattle.qtext_image.specs.Faults.{do_rise}
use Rattle.qtext_image.specs.NextFaults.{is_behind}

-- ---- tests

-- two tests that pass together are the same
pub both-ways : (a b : Bool) → (a ≡ true → b ≡ true) → (b ≡ true → a ≡ true) → a ≡ b
both-ways true b to back = sym (to refl)
both-ways false true to back = back refl
both-ways false false to back = refl

pub and-last : (a b : Bool) → a ≡ true → (a && b) ≡ b
and-last a b is = ap (λ c. c && b) is

pub and-true : (a : Bool) → (a && true) ≡ a
and-true true = refl
and-true false = refl

pub or-false : (a : Bool) → (a || false) ≡ a
or-false true = refl
or-false false = refl

-- ---- one more at the end

pub all-end : {X : Type 0} (p : X → Bool) (xs : List X) (x : X) → list_all p xs ≡ true → list_all p (xs ++ x ∷ []) ≡ p x
all-end p xs x all = list_all-append p xs (x ∷ []) ∙ and-last (list_all p xs) (p x && true) all ∙ and-true (p x)

pub any-end : {X : Type 0} (p : X → Bool) (xs : List X) (x : X) → list_any p xs ≡ false → list_any p (xs ++ x ∷ []) ≡ p x
any-end p xs x none = list_any-append p xs (x ∷ []) ∙ ap (λ b. b || (p x || false)) none ∙ or-false (p x)

pub map-end : {A B : Type 0} (f : A → B) (xs : List A) (x : A) → map f (xs ++ x ∷ []) ≡ map f xs ++ f x ∷ []
map-end f [] x = refl
map-end f (y ∷ xs) x = ap (λ l. f y ∷ l) (map-end f xs x)

-- those that rise do so with one that stands behind them, and only so
pub rise-end : {K : Type 0} (cmp : K → K → Ordering) (ks : List K) (k : K) → do_rise cmp ks ≡ true → do_rise cmp (ks ++ k ∷ []) ≡ is_behind cmp ks k
rise-end cmp [] k rise = refl
rise-end cmp (x ∷ ks) k rise =
    let parts = and_parts (list_all (λ other. is_lt (cmp x other)) ks) (do_rise cmp ks) rise in
    (λ i. all-end (λ other. is_lt (cmp x other)) ks k parts.0 i && rise-end cmp ks k parts.1 i)

-- a list is empty or has a last
pub last-of : {X : Type 0} (xs : List X) → (xs ≡ []) ⊎ ((init : List X) × (x : X) × (xs ≡ init ++ x ∷ []))
last-of [] = inl refl
last-of {X} (x ∷ xs) = by (last-of xs)
  where
    by : (xs ≡ []) ⊎ ((init : List X) × (y : X) × (xs ≡ init ++ y ∷ [])) → (x ∷ xs ≡ []) ⊎ ((init : List X) × (y : X) × (x ∷ xs ≡ init ++ y ∷ []))
    by (inl none) = inr ([], x, ap (λ l. x ∷ l) none)
    by (inr some) = inr (x ∷ some.0, some.1, ap (λ l. x ∷ l) some.2)

-- ---- beginnings

-- behind as many others
pub starts-behind : {X : Type 0} (eq : X → X → Bool) (ps qs xs ys : List X) → length ps ≡ length qs → starts_with eq (ps ++ xs) (qs ++ ys) ≡ true
    → starts_with eq xs ys ≡ true
starts-behind eq [] [] xs ys same e = e
starts-behind eq [] (q ∷ qs) xs ys same e = absurd (omega (arith, same))
starts-behind eq (p ∷ ps) [] xs ys same e = absurd (omega (arith, same))
starts-behind eq (p ∷ ps) (q ∷ qs) xs ys same e =
    starts-behind eq ps qs xs ys (omega (arith, same)) (and_parts (eq q p) (starts_with eq (ps ++ xs) (qs ++ ys)) e).1

-- a beginning is not longer
pub starts-longer : {X : Type 0} (eq : X → X → Bool) (xs ys : List X) → starts_with eq xs ys ≡ true → length ys ≤ length xs
starts-longer eq xs [] e = omega arith
starts-longer eq [] (y ∷ ys) e = absurd (cc e)
starts-longer eq (x ∷ xs) (y ∷ ys) e = omega (arith, starts-longer eq xs ys (and_parts (eq y x) (starts_with eq xs ys) e).1)
