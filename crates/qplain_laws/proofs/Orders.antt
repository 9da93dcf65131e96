-- Tables in order: what an edit of the entries leaves in order, and what a sum and a look-up become.
use Rattle.std.proofs.Common.{◌≡◌, ℕ, ◌+◌, suc, ◌<◌, ◌≤◌, ◌==◌, Bool, true, false, nat_lt, cond, List, [], ◌∷◌, All, sum_by, Some, refl, ap, subst, ◌∙◌, tests, arith}
use Rattle.std.specs.List.{AllByRecursion}
use Rattle.std.specs.List.Sorted.{IsStrictlySortedBy}
use Rattle.std.specs.Map.{keys_of, lookup, remove_entry, set_value}
use Rattle.std.specs.declared.cmp.Ordering.{Ordering}
use Rattle.std.specs.declared.cmp.Ordering.TheVariants.{Less, Equal, Greater}
use Rattle.std.specs.Ordering.{match_ordering, nat_cmp, ordering_reverse}
use Rattle.std.specs.BTreeMap.{insert_entry}
use Rattle.std.specs.Cmp.{IsTotalOrder}
use Rattle.std.proofs.lemmas.List.Sums.{sum_by-cons}
use Rattle.std.proofs.lemmas.List.Elements.{All-cons, All-head, All-tail}
use Rattle.qblocks.proofs.Indexes.{Rises}

-- what follows for each
pub each-map : {X : Type 0} {P Q : X → Type 0} → ((x : X) → P x → Q x) → (xs : List X) → AllByRecursion P xs → AllByRecursion Q xs
each-map f [] h = tt
each-map f (x ∷ xs) h = (f x h.0, each-map f xs h.1)

module _ {K X : Type 0} where
  -- ---- a new entry

  each-insert : (P : K → Type 0) (R : K → K → Ordering) (es : List (K × X)) (k : K) (v : X) → AllByRecursion P (keys_of es) → P k
      → AllByRecursion P (keys_of (insert_entry R es k v))
  each-insert P R [] k v all new = (new, tt)
  each-insert P R (e ∷ es) k v all new =
      elim (R k e.0) as (λ r. AllByRecursion P (keys_of (match_ordering r ((k, v) ∷ e ∷ es) ((e.0, v) ∷ es) (e ∷ insert_entry R es k v)))) [
        | Less ↦ (new, all)
        | Equal ↦ all
        | Greater ↦ (all.0, each-insert P R es k v all.1 new)
      ]

  -- an entry under a new key goes to its place
  pub sorted-insert : {R : K → K → Ordering} → IsTotalOrder R → (es : List (K × X)) (k : K) (v : X) → IsStrictlySortedBy R (keys_of es)
      → IsStrictlySortedBy R (keys_of (insert_entry R es k v))
  unfolding IsStrictlySortedBy
  sorted-insert o [] k v sorted = (tt, tt)
  sorted-insert {R} o (e ∷ es) k v sorted =
      elim (R k e.0) as (λ r. R k e.0 ≡ r → IsStrictlySortedBy R (keys_of (match_ordering r ((k, v) ∷ e ∷ es) ((e.0, v) ∷ es) (e ∷ insert_entry R es k v)))) [
        | Less ↦ λ p. ((p, each-map (λ y l. o.trans k e.0 y p l) (keys_of es) sorted.0), sorted)
        | Equal ↦ λ p. sorted
        | Greater ↦ λ p. (each-insert (λ y. R e.0 y ≡ Less) R es k v sorted.0 (o.antisymm e.0 k ∙ ap ordering_reverse p), sorted-insert o es k v sorted.1)
      ] refl

  -- ---- an entry less

  each-remove : (P : K → Type 0) (test : K → Bool) (es : List (K × X)) → AllByRecursion P (keys_of es) → AllByRecursion P (keys_of (remove_entry test es))
  each-remove P test [] all = tt
  each-remove P test (e ∷ es) all =
      elim (test e.0) as (λ b. AllByRecursion P (keys_of (cond b es (e ∷ remove_entry test es)))) [
        | true ↦ all.1
        | false ↦ (all.0, each-remove P test es all.1)
      ]

  -- the other entries stay in order
  pub sorted-remove : (R : K → K → Ordering) (test : K → Bool) (es : List (K × X)) → IsStrictlySortedBy R (keys_of es)
      → IsStrictlySortedBy R (keys_of (remove_entry test es))
  unfolding IsStrictlySortedBy
  sorted-remove R test [] sorted = tt
  sorted-remove R test (e ∷ es) sorted =
      elim (test e.0) as (λ b. IsStrictlySortedBy R (keys_of (cond b es (e ∷ remove_entry test es)))) [
        | true ↦ sorted.1
        | false ↦ (each-remove (λ y. R e.0 y ≡ Less) test es sorted.0, sorted-remove R test es sorted.1)
      ]

  -- what holds of all entries holds of the others
  pub All-remove : (P : K × X → Type 0) (test : K → Bool) (es : List (K × X)) → All P es → All P (remove_entry test es)
  All-remove P test [] all = all
  All-remove P test (e ∷ es) all =
      elim (test e.0) as (λ b. All P (cond b es (e ∷ remove_entry test es))) [
        | true ↦ All-tail P e es all
        | false ↦ All-cons P e (remove_entry test es) (All-head P e es all) (All-remove P test es (All-tail P e es all))
      ]

  -- a sum over the entries loses the term of the one that goes
  pub sum-remove : (f : X → ℕ) (test : K → Bool) (es : List (K × X)) (v : X) → lookup test es ≡ Some v
      → sum_by (λ e. f e.1) (remove_entry test es) + f v ≡ sum_by (λ e. f e.1) es
  sum-remove f test [] v there = cc
  sum-remove f test (e ∷ es) v there =
      elim (test e.0) as (λ b. cond b (Some e.1) (lookup test es) ≡ Some v
      → sum_by (λ x. f x.1) (cond b es (e ∷ remove_entry test es)) + f v ≡ sum_by (λ x. f x.1) (e ∷ es)) [
        | true ↦ λ h. let same : e.1 ≡ v = cc in omega (arith, sum_by-cons (λ (x : K × X). f x.1) e es, ap f same)
        | false ↦ λ h. omega (
          arith,
          sum_by-cons (λ (x : K × X). f x.1) e es,
          sum_by-cons (λ (x : K × X). f x.1) e
              (remove_entry test es),
          sum-remove f test es v h,
        )
      ] there

  -- and rises by no term
  pub sum-remove-le : (f : K × X → ℕ) (test : K → Bool) (es : List (K × X)) → sum_by f (remove_entry test es) ≤ sum_by f es
  sum-remove-le f test [] = omega arith
  sum-remove-le f test (e ∷ es) =
      elim (test e.0) as (λ b. sum_by f (cond b es (e ∷ remove_entry test es)) ≤ sum_by f (e ∷ es)) [
        | true ↦ omega (arith, sum_by-cons f e es)
        | false ↦ omega (arith, sum_by-cons f e es, sum_by-cons f e (remove_entry test es), sum-remove-le f test es)
      ]

  -- ---- a changed value

  -- what holds of all entries holds with another value too, where it holds of that in place of the old one
  pub All-changed : (P : K × X → Type 0) (test : K → Bool) (es : List (K × X)) (v w : X) → lookup test es ≡ Some v → ((k : K) → P (k, v) → P (k, w))
      → All P es → All P (set_value test es w)
  All-changed P test [] v w there follows all = all
  All-changed P test (e ∷ es) v w there follows all =
      elim (test e.0) as (λ b. cond b (Some e.1) (lookup test es) ≡ Some v → All P (cond b ((e.0, w) ∷ es) (e ∷ set_value test es w))) [
        | true ↦ λ h. let same : e.1 ≡ v = cc in
            All-cons P (e.0, w) es (follows e.0 (subst (λ (x : X). P (e.0, x)) same (All-head P e es all))) (All-tail P e es all)
        | false ↦ λ h. All-cons P e (set_value test es w) (All-head P e es all) (All-changed P test es v w h follows (All-tail P e es all))
      ] there

-- ---- numbers

less-yes : (x y : ℕ) → x < y → nat_cmp x y ≡ Less
less-yes x y l = let t : nat_lt x y ≡ true = grind (arith, tests, l) in rw t refl

less-from : (x y : ℕ) → nat_cmp x y ≡ Less → x < y
less-from x y h = by (nat_lt x y) (x == y) refl h
  where
    by : (b c : Bool) → nat_lt x y ≡ b → cond b Less (cond c Equal Greater) ≡ Less → x < y
    by true c t e = grind (arith, tests, t)
    by false true t e = cc
    by false false t e = cc

-- a number that is below another comes before it
pub nat_cmp-below : (x y : ℕ) → x < y → nat_cmp x y ≡ Less
nat_cmp-below = less-yes

rises-above : (x b : ℕ) (xs : List ℕ) → x < b → Rises b xs → AllByRecursion (λ y. nat_cmp x y ≡ Less) xs
rises-above x b [] l rises = tt
rises-above x b (y ∷ ys) l rises = (less-yes x y (omega (arith, rises.0)), rises-above x (suc y) ys (omega (arith, rises.0)) rises.1)

-- indexes that rise are in order
pub sorted-rises : (b : ℕ) (xs : List ℕ) → Rises b xs → IsStrictlySortedBy nat_cmp xs
unfolding IsStrictlySortedBy
sorted-rises b [] rises = tt
sorted-rises b (x ∷ xs) rises = (rises-above x (suc x) xs (omega arith) rises.1, sorted-rises (suc x) xs rises.1)

-- indexes in order rise
pub rises-sorted : (b : ℕ) (xs : List ℕ) → AllByRecursion (λ y. b ≤ y) xs → IsStrictlySortedBy nat_cmp xs → Rises b xs
unfolding IsStrictlySortedBy
rises-sorted b [] above sorted = tt
rises-sorted b (x ∷ xs) above sorted =
    (above.0, rises-sorted (suc x) xs (each-map (λ y l. let r : x < y = less-from x y l in omega arith) xs sorted.0) sorted.1)

-- all numbers are above none
pub above-zero : (xs : List ℕ) → AllByRecursion (λ y. 0 ≤ y) xs
above-zero [] = tt
above-zero (x ∷ xs) = (omega arith, above-zero xs)
