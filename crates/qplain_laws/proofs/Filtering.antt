-- Tables that a test leaves whole, or but for the entry of one number, and what a sum over them becomes.
use Rattle.std.proofs.Common.{◌≡◌, ℕ, ◌+◌, ◌==◌, Bool, true, false, not, cond, List, [], ◌∷◌, All, filter, sum_by, Some, refl, sym, ap, subst, ◌∙◌, arith}
use Rattle.std.specs.List.{AllByRecursion}
use Rattle.std.specs.List.Sorted.{IsStrictlySortedBy}
use Rattle.std.specs.Map.{keys_of, lookup, remove_entry, values_of}
use Rattle.std.specs.Option.{option_map, unwrap_or}
use Rattle.std.specs.declared.cmp.Ordering.{Ordering}
use Rattle.std.specs.declared.cmp.Ordering.TheVariants.{Less}
use Rattle.std.specs.Ordering.{is_eq, nat_cmp}
use Rattle.std.specs.Cmp.{unsigned_ties}
use Rattle.std.specs.BTreeMap.{is_at}
use Rattle.std.proofs.lemmas.List.Elements.{All-cons, All-head, All-tail}
use Rattle.std.proofs.lemmas.List.Sums.{sum_by-cons}
use Rattle.std.proofs.lemmas.Map.Entries.{sum_by-remove_entry}
use Rattle.qplain_laws.proofs.Tables.{same-number}

-- where all pass, all are kept
pub filter-all : {X : Type 0} (test : X → Bool) (xs : List X) → All (λ x. test x ≡ true) xs → filter test xs ≡ xs
filter-all test [] all = refl
filter-all test (x ∷ xs) all =
    let here : test x ≡ true = All-head (λ y. test y ≡ true) x xs all in
    let rest : filter test xs ≡ xs = filter-all test xs (All-tail (λ y. test y ≡ true) x xs all) in
    (λ i. cond (here i) (x ∷ rest i) (rest i))

-- a number that comes later is another
apart-above : (m n : ℕ) → nat_cmp m n ≡ Less → (m == n) ≡ false
apart-above m n l = unsigned_ties m n ∙ ap is_eq l

-- where all but one number pass, and the one is not among these, all are kept
others-pass : {X : Type 0} (p : ℕ → Bool) (number : ℕ) (es : List (ℕ × X)) → AllByRecursion (λ y. nat_cmp number y ≡ Less) (keys_of es)
    → All (λ e. p e.0 ≡ not (number == e.0)) es → filter (λ e. p e.0) es ≡ es
others-pass p number [] above each = refl
others-pass p number (e ∷ es) above each =
    let here : p e.0 ≡ not (number == e.0) = All-head (λ x. p x.0 ≡ not (number == x.0)) e es each in
    let pass : p e.0 ≡ true = here ∙ ap not (apart-above number e.0 above.0) in
    let rest : filter (λ x. p x.0) es ≡ es =
    others-pass p number es above.1 (All-tail (λ x. p x.0 ≡ not (number == x.0)) e es each) in
    λ i. cond (pass i) (e ∷ rest i) (rest i)

-- where all but one number pass, the entry of that number goes
pub filter-other : {X : Type 0} (p : ℕ → Bool) (number : ℕ) (es : List (ℕ × X)) → IsStrictlySortedBy nat_cmp (keys_of es)
    → All (λ e. p e.0 ≡ not (number == e.0)) es → filter (λ e. p e.0) es ≡ remove_entry (is_at (nat_cmp number)) es
unfolding IsStrictlySortedBy
filter-other p number [] sorted each = refl
filter-other {X} p number (e ∷ es) sorted each =
    by (is_at (nat_cmp number) e.0) refl (filter-other p number es sorted.1 later)
  where
    here : p e.0 ≡ not (number == e.0)
    here = All-head (λ x. p x.0 ≡ not (number == x.0)) e es each

    later : All (λ x. p x.0 ≡ not (number == x.0)) es
    later = All-tail (λ x. p x.0 ≡ not (number == x.0)) e es each

    by : (b : Bool) → is_at (nat_cmp number) e.0 ≡ b → filter (λ x. p x.0) es ≡ remove_entry (is_at (nat_cmp number)) es
        → cond (p e.0) (e ∷ filter (λ x. p x.0) es) (filter (λ x. p x.0) es) ≡ cond b es (e ∷ remove_entry (is_at (nat_cmp number)) es)
    by true at rest =
        let fails : p e.0 ≡ false = here ∙ ap not (unsigned_ties number e.0 ∙ at) in
        let same : number ≡ e.0 = same-number number e.0 at in
        let above : AllByRecursion (λ y. nat_cmp number y ≡ Less) (keys_of es) =
        subst (λ n. AllByRecursion (λ y. nat_cmp n y ≡ Less) (keys_of es)) (sym same) sorted.0 in
        let all : filter (λ x. p x.0) es ≡ es = others-pass p number es above later in
        λ i. cond (fails i) (e ∷ all i) (all i)
    by false at rest =
        let pass : p e.0 ≡ true = here ∙ ap not (unsigned_ties number e.0 ∙ at) in
        λ i. cond (pass i) (e ∷ rest i) (rest i)

-- a sum over the values loses the term of the one that goes
pub sum-less : {X : Type 0} (f : X → ℕ) (number : ℕ) (es rest : List (ℕ × X)) (v : X) → lookup (is_at (nat_cmp number)) es ≡ Some v
    → rest ≡ remove_entry (is_at (nat_cmp number)) es → sum_by f (values_of rest) + f v ≡ sum_by f (values_of es) + 0
sum-less f number es rest v there same =
    let all = sum_by-remove_entry f (is_at (nat_cmp number)) es in
    let term : unwrap_or (option_map f (lookup (is_at (nat_cmp number)) es)) 0 ≡ f v = ap (λ o. unwrap_or (option_map f o) 0) there in
    let sums : sum_by f (values_of rest) ≡ sum_by f (values_of (remove_entry (is_at (nat_cmp number)) es)) = ap (λ l. sum_by f (values_of l)) same in
    omega (arith, all, term, sums)

-- a sum over the entries loses the term of the one that is found
pub sum-remove-entry : {K X : Type 0} (f : K × X → ℕ) (test : K → Bool) (es : List (K × X)) (v : X) → lookup test es ≡ Some v
    → (k : K) × (test k ≡ true) × (sum_by f (remove_entry test es) + f (k, v) ≡ sum_by f es)
sum-remove-entry f test [] v there = cc
sum-remove-entry {K} {X} f test (e ∷ es) v there =
    elim (test e.0) as (λ b. test e.0 ≡ b → cond b (Some e.1) (lookup test es) ≡ Some v
    → (k : K) × (test k ≡ true) × (sum_by f (cond b es (e ∷ remove_entry test es)) + f (k, v) ≡ sum_by f (e ∷ es))) [
      | true ↦ λ t h.
          let value : e.1 ≡ v = cc in
          let term : f (e.0, v) ≡ f e = ap (λ (x : X). f (e.0, x)) (sym value) in
          (e.0, t, omega (arith, sum_by-cons f e es, term))
      | false ↦ λ t h.
          let later = sum-remove-entry f test es v h in
          (later.0, later.1, let sum = later.2 in omega (arith, sum_by-cons f e es, sum_by-cons f e (remove_entry test es), sum))
    ] refl there

module _ {K X : Type 0} (test : K × X → Bool) where
  each-filter : (P : K → Type 0) (es : List (K × X)) → AllByRecursion P (keys_of es) → AllByRecursion P (keys_of (filter test es))
  each-filter P [] all = tt
  each-filter P (e ∷ es) all =
      elim (test e) as (λ b. AllByRecursion P (keys_of (cond b (e ∷ filter test es) (filter test es)))) [
        | true ↦ (all.0, each-filter P es all.1)
        | false ↦ each-filter P es all.1
      ]

  -- what passes a test stays in order
  pub sorted-filter : (R : K → K → Ordering) (es : List (K × X)) → IsStrictlySortedBy R (keys_of es) → IsStrictlySortedBy R (keys_of (filter test es))
  unfolding IsStrictlySortedBy
  sorted-filter R [] sorted = tt
  sorted-filter R (e ∷ es) sorted =
      elim (test e) as (λ b. IsStrictlySortedBy R (keys_of (cond b (e ∷ filter test es) (filter test es)))) [
        | true ↦ (each-filter (λ y. R e.0 y ≡ Less) es sorted.0, sorted-filter R es sorted.1)
        | false ↦ sorted-filter R es sorted.1
      ]

  -- what holds of all values holds of those that pass
  pub All-values-filter : (P : X → Type 0) (es : List (K × X)) → All P (values_of es) → All P (values_of (filter test es))
  All-values-filter P [] all = all
  All-values-filter P (e ∷ es) all =
      elim (test e) as (λ b. All P (values_of (cond b (e ∷ filter test es) (filter test es)))) [
        | true ↦ All-cons P e.1 (values_of (filter test es)) (All-head P e.1 (values_of es) all) (All-values-filter P es (All-tail P e.1 (values_of es) all))
        | false ↦ All-values-filter P es (All-tail P e.1 (values_of es) all)
      ]

module _ {X : Type 0} where
  -- what holds of all entries holds of what a look-up finds
  pub All-lookup : (P : ℕ × X → Type 0) (es : List (ℕ × X)) (q : ℕ) (v : X) → All P es → lookup (is_at (nat_cmp q)) es ≡ Some v → P (q, v)
  All-lookup P [] q v all there = cc
  All-lookup P (e ∷ es) q v all there =
      elim (is_at (nat_cmp q) e.0) as (λ b. is_at (nat_cmp q) e.0 ≡ b → cond b (Some e.1) (lookup (is_at (nat_cmp q)) es) ≡ Some v → P (q, v)) [
        | true ↦ λ s h. let here : P e = All-head P e es all in
            let value : e.1 ≡ v = cc in
            let key : q ≡ e.0 = same-number q e.0 s in
            subst (λ (x : X). P (q, x)) value (subst (λ (n : ℕ). P (n, e.1)) (sym key) here)
        | false ↦ λ s h. All-lookup P es q v (All-tail P e es all) h
      ] refl there
