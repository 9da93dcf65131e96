-- What tests of lists have told, and what passes them.
use Rattle.std.proofs.Common.{◌≡◌, Bool, true, List, [], ◌∷◌, ◌++◌, All, refl, sym, ap, subst, ◌∙◌}
use Rattle.std.specs.List.{list_all, AllByRecursion}
use Rattle.std.specs.List.Sorted.{IsStrictlySortedBy}
use Rattle.std.specs.Ordering.{is_lt}
use Rattle.std.specs.declared.cmp.Ordering.{Ordering}
use Rattle.std.specs.declared.cmp.Ordering.TheVariants.{Less, Equal, Greater}
use Rattle.std.proofs.lemmas.Bool.{and_parts}
use Rattle.std.proofs.lemmas.List.Elements.{All-from_recursion, recursion_from_All}
use Rattle.std.proofs.lemmas.List.Folds.{list_all-append}
use Rattle.qtext.proofs.Joining.{and_both}
use Rattle.qtext_image.specs.Faults.{do_rise}

-- ---- all pass

pub each-passes : {X : Type 0} (p : X → Bool) (xs : List X) → AllByRecursion (λ x. p x ≡ true) xs → list_all p xs ≡ true
each-passes p [] all = refl
each-passes p (x ∷ xs) all = and_both (p x) (list_all p xs) all.0 (each-passes p xs all.1)

pub all-pass : {X : Type 0} (p : X → Bool) (xs : List X) → All (λ x. p x ≡ true) xs → list_all p xs ≡ true
all-pass {X} p xs all = each-passes p xs (recursion_from_All (λ (x : X). p x ≡ true) xs all)

pub passed-each : {X : Type 0} (p : X → Bool) (xs : List X) → list_all p xs ≡ true → AllByRecursion (λ x. p x ≡ true) xs
passed-each p [] e = tt
passed-each p (x ∷ xs) e = let parts = and_parts (p x) (list_all p xs) e in (parts.0, passed-each p xs parts.1)

pub all-passed : {X : Type 0} (p : X → Bool) (xs : List X) → list_all p xs ≡ true → All (λ x. p x ≡ true) xs
all-passed {X} p xs e = All-from_recursion (λ (x : X). p x ≡ true) xs (passed-each p xs e)

-- the first of those that pass do
pub first-pass : {X : Type 0} (p : X → Bool) (first rest whole : List X) → first ++ rest ≡ whole → list_all p whole ≡ true → list_all p first ≡ true
first-pass p first rest whole are e =
    (and_parts (list_all p first) (list_all p rest) (sym (list_all-append p first rest) ∙ ap (list_all p) are ∙ e)).0

-- ---- all rise

is-less : (o : Ordering) → is_lt o ≡ true → o ≡ Less
is-less Less e = refl
is-less Equal e = absurd (cc e)
is-less Greater e = absurd (cc e)

below-first : {K : Type 0} (cmp : K → K → Ordering) (k : K) (first rest : List K) → AllByRecursion (λ other. cmp k other ≡ Less) (first ++ rest)
    → list_all (λ other. is_lt (cmp k other)) first ≡ true
below-first cmp k [] rest below = refl
below-first cmp k (x ∷ first) rest below =
    and_both (is_lt (cmp k x)) (list_all (λ other. is_lt (cmp k other)) first) (ap is_lt below.0) (below-first cmp k first rest below.1)

first-rise-of : {K : Type 0} (cmp : K → K → Ordering) (first rest : List K) → IsStrictlySortedBy cmp (first ++ rest) → do_rise cmp first ≡ true
unfolding IsStrictlySortedBy
first-rise-of cmp [] rest sorted = refl
first-rise-of cmp (k ∷ first) rest sorted =
    and_both (list_all (λ other. is_lt (cmp k other)) first) (do_rise cmp first) (below-first cmp k first rest sorted.0) (first-rise-of cmp first rest sorted.1)

-- the first of those that rise do
pub first-rise : {K : Type 0} (cmp : K → K → Ordering) (first rest whole : List K) → first ++ rest ≡ whole → IsStrictlySortedBy cmp whole
    → do_rise cmp first ≡ true
first-rise {K} cmp first rest whole are sorted = first-rise-of cmp first rest (subst (λ (ks : List K). IsStrictlySortedBy cmp ks) (sym are) sorted)

below-all : {K : Type 0} (cmp : K → K → Ordering) (k : K) (ks : List K) → list_all (λ other. is_lt (cmp k other)) ks ≡ true
    → AllByRecursion (λ other. cmp k other ≡ Less) ks
below-all cmp k [] e = tt
below-all cmp k (x ∷ ks) e =
    let parts = and_parts (is_lt (cmp k x)) (list_all (λ other. is_lt (cmp k other)) ks) e in
    (is-less (cmp k x) parts.0, below-all cmp k ks parts.1)

pub rise-sorted : {K : Type 0} (cmp : K → K → Ordering) (ks : List K) → do_rise cmp ks ≡ true → IsStrictlySortedBy cmp ks
unfolding IsStrictlySortedBy
rise-sorted cmp [] e = tt
rise-sorted cmp (k ∷ ks) e =
    let parts = and_parts (list_all (λ other. is_lt (cmp k other)) ks) (do_rise cmp ks) e in
    (below-all cmp k ks parts.0, rise-sorted cmp ks parts.1)
