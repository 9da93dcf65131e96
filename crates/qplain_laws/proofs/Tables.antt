-- What a new entry and a changed one do to the tables of a state.
use Rattle.std.proofs.Common.{◌≡◌, ℕ, Bool, true, false, ◌||◌, nat_lt, cond, count_by, List, [], ◌∷◌, All, Option, Some, None, ◌+◌, sum_by, refl, sym, ap, ◌∙◌, tests, arith}
use Rattle.std.specs.List.{list_any}
use Rattle.std.specs.Map.{lookup, set_value, values_of}
use Rattle.std.specs.declared.cmp.Ordering.{Ordering}
use Rattle.std.specs.declared.cmp.Ordering.TheVariants.{Less, Equal, Greater}
use Rattle.std.specs.Ordering.{nat_cmp, is_eq, eq_by_cmp, match_ordering}
use Rattle.std.specs.BTreeMap.{insert_entry, is_at}
use Rattle.std.specs.Cmp.{IsTotalOrder, IsEquivalence, eq_by_cmp_equiv, nat_cmp_total, unsigned_ties, then_total, on_total}
use Rattle.std.specs.Cmp.Lexicographic.{nat_list_cmp_total}
use Rattle.std.proofs.lemmas.Bool.{eqb-true}
use Rattle.std.proofs.lemmas.List.Sums.{sum_by-cons}
use Rattle.std.proofs.lemmas.List.Elements.{All-cons, All-head, All-nil, All-tail}
use Rattle.qplain.specs.State.{Inode, name_key_cmp}

-- names are in a total order
pub name_key_total : IsTotalOrder name_key_cmp
name_key_total = then_total (on_total (λ t. t.0) nat_cmp_total) (on_total (λ t. t.1) nat_list_cmp_total)

-- a number is at itself
pub at-itself : (n : ℕ) → is_at (nat_cmp n) n ≡ true
at-itself n = sym (unsigned_ties n n) ∙ grind (arith, tests)

-- two numbers that are at each other are the same
pub same-number : (m n : ℕ) → is_at (nat_cmp m) n ≡ true → m ≡ n
same-number m n h = eqb-true m n (unsigned_ties m n ∙ h)

-- a number above all others is not there
pub absent-fresh : (es : List (ℕ × Inode)) (next : ℕ) → All (λ e. nat_lt e.0 next ≡ true) es → lookup (is_at (nat_cmp next)) es ≡ None
absent-fresh [] next fresh = refl
absent-fresh (e ∷ es) next fresh =
    let below : nat_lt e.0 next ≡ true = All-head (λ x. nat_lt x.0 next ≡ true) e es fresh in
    let other : is_at (nat_cmp next) e.0 ≡ false = sym (unsigned_ties next e.0) ∙ grind (arith, tests, below) in
    rw other (absent-fresh es next (All-tail (λ x. nat_lt x.0 next ≡ true) e es fresh))

both_tied_not : (r : Ordering) → r ≡ Greater → is_eq r ≡ true → ⊥
both_tied_not r p q = let h : is_eq Greater ≡ true = rw p at q in cc

swap_cond : {A : Type 0} (a b : Bool) (x y z : A) → (a ≡ true → b ≡ true → ⊥) → cond a x (cond b y z) ≡ cond b y (cond a x z)
swap_cond true true x y z apart = absurd (apart refl refl)
swap_cond true false x y z apart = refl
swap_cond false b x y z apart = refl

-- a look-up after a new entry
pub lookup-insert_new : {K X : Type 0} {R : K → K → Ordering} (o : IsTotalOrder R) (es : List (K × X)) (k : K) (v : X) (q : K)
    → lookup (is_at (R k)) es ≡ None → lookup (is_at (R q)) (insert_entry R es k v) ≡ cond (is_at (R q) k) (Some v) (lookup (is_at (R q)) es)
lookup-insert_new o [] k v q none = refl
lookup-insert_new {K} {X} {R} o (e ∷ es) k v q none =
    elim (R k e.0) as (λ r. R k e.0 ≡ r → cond (is_eq r) (Some e.1) (lookup (is_at (R k)) es) ≡ None
    → lookup (is_at (R q)) (match_ordering r ((k, v) ∷ e ∷ es) ((e.0, v) ∷ es) (e ∷ insert_entry R es k v))
    ≡ cond (is_at (R q) k) (Some v) (lookup (is_at (R q)) (e ∷ es))) [
      | Less ↦ λ p h. refl
      | Equal ↦ λ p h. cc
      | Greater ↦ λ p h. ap (cond (is_at (R q) e.0) (Some e.1)) (lookup-insert_new o es k v q h)
          ∙ swap_cond (is_at (R q) e.0) (is_at (R q) k) (Some e.1) (Some v) (lookup (is_at (R q)) es) (λ s t. both_tied_not (R k e.0) p (tied s t))
    ] refl none
  where
    laws : IsEquivalence (eq_by_cmp R)
    laws = eq_by_cmp_equiv o

    tied : is_at (R q) e.0 ≡ true → is_at (R q) k ≡ true → eq_by_cmp R k e.0 ≡ true
    tied s t = sym (laws.congr q k e.0 t) ∙ s

-- what holds of all entries and of a new one
pub All-insert_new : {K X : Type 0} (P : K × X → Type 0) (R : K → K → Ordering) (es : List (K × X)) (k : K) (v : X)
    → lookup (is_at (R k)) es ≡ None → All P es → P (k, v) → All P (insert_entry R es k v)
All-insert_new P R [] k v none all new = All-cons P (k, v) [] new (All-nil P)
All-insert_new P R (e ∷ es) k v none all new =
    elim (R k e.0) as (λ r. cond (is_eq r) (Some e.1) (lookup (is_at (R k)) es) ≡ None
    → All P (match_ordering r ((k, v) ∷ e ∷ es) ((e.0, v) ∷ es) (e ∷ insert_entry R es k v))) [
      | Less ↦ λ h. All-cons P (k, v) (e ∷ es) new all
      | Equal ↦ λ h. cc
      | Greater ↦ λ h. All-cons P e (insert_entry R es k v) (All-head P e es all) (All-insert_new P R es k v h (All-tail P e es all) new)
    ] none

or_swap : (a b c : Bool) → (a || (b || c)) ≡ (b || (a || c))
or_swap true true c = refl
or_swap true false c = refl
or_swap false true c = refl
or_swap false false c = refl

-- a test of all entries and of a new one
pub list_any-insert_new : {K X : Type 0} (p : K × X → Bool) (R : K → K → Ordering) (es : List (K × X)) (k : K) (v : X)
    → lookup (is_at (R k)) es ≡ None → list_any p (insert_entry R es k v) ≡ (p (k, v) || list_any p es)
list_any-insert_new p R [] k v none = refl
list_any-insert_new p R (e ∷ es) k v none =
    elim (R k e.0) as (λ r. cond (is_eq r) (Some e.1) (lookup (is_at (R k)) es) ≡ None
    → list_any p (match_ordering r ((k, v) ∷ e ∷ es) ((e.0, v) ∷ es) (e ∷ insert_entry R es k v)) ≡ (p (k, v) || list_any p (e ∷ es))) [
      | Less ↦ λ h. refl
      | Equal ↦ λ h. cc
      | Greater ↦ λ h. ap (λ b. p e || b) (list_any-insert_new p R es k v h) ∙ or_swap (p e) (p (k, v)) (list_any p es)
    ] none

-- a changed value keeps what holds of the keys
pub All-keys-set_value : {K X : Type 0} (P : K → Type 0) (test : K → Bool) (es : List (K × X)) (w : X)
    → All (λ e. P e.0) es → All (λ e. P e.0) (set_value test es w)
All-keys-set_value P test [] w all = all
All-keys-set_value P test (e ∷ es) w all =
    let here : P e.0 = All-head (λ x. P x.0) e es all in
    let rest : All (λ x. P x.0) es = All-tail (λ x. P x.0) e es all in
    elim (test e.0) as (λ b. All (λ x. P x.0) (cond b ((e.0, w) ∷ es) (e ∷ set_value test es w))) [
      | true ↦ All-cons (λ x. P x.0) (e.0, w) es here rest
      | false ↦ All-cons (λ x. P x.0) e (set_value test es w) here (All-keys-set_value P test es w rest)
    ]

-- what is seen of a value, where the changed one looks the same
pub seen-set_value : {X : Type 0} (g : Option X → Bool) (test : ℕ → Bool) (es : List (ℕ × X)) (v w : X) (q : ℕ) → lookup test es ≡ Some v
    → g (Some w) ≡ g (Some v) → g (lookup (is_at (nat_cmp q)) (set_value test es w)) ≡ g (lookup (is_at (nat_cmp q)) es)
seen-set_value g test [] v w q found same = refl
seen-set_value {X} g test (e ∷ es) v w q found same =
    elim (test e.0) as (λ b. cond b (Some e.1) (lookup test es) ≡ Some v
    → g (lookup (is_at (nat_cmp q)) (cond b ((e.0, w) ∷ es) (e ∷ set_value test es w)))
    ≡ g (cond (is_at (nat_cmp q) e.0) (Some e.1) (lookup (is_at (nat_cmp q)) es))) [
      | true ↦ λ h. seen_here (is_at (nat_cmp q) e.0) h
      | false ↦ λ h. seen_later (is_at (nat_cmp q) e.0) (seen-set_value g test es v w q h same)
    ] found
  where
    seen_here : (b : Bool) → Some e.1 ≡ Some v → g (cond b (Some w) (lookup (is_at (nat_cmp q)) es)) ≡ g (cond b (Some e.1) (lookup (is_at (nat_cmp q)) es))
    seen_here true h = same ∙ ap g (sym h)
    seen_here false h = refl

    seen_later : (b : Bool) → g (lookup (is_at (nat_cmp q)) (set_value test es w)) ≡ g (lookup (is_at (nat_cmp q)) es)
        → g (cond b (Some e.1) (lookup (is_at (nat_cmp q)) (set_value test es w))) ≡ g (cond b (Some e.1) (lookup (is_at (nat_cmp q)) es))
    seen_later true h = refl
    seen_later false h = h

-- a new entry adds its own term to a sum over the entries
pub sum_by-insert_new : {K X : Type 0} (f : K × X → ℕ) (R : K → K → Ordering) (es : List (K × X)) (k : K) (v : X)
    → lookup (is_at (R k)) es ≡ None → sum_by f (insert_entry R es k v) ≡ sum_by f es + f (k, v)
sum_by-insert_new f R [] k v none = refl
sum_by-insert_new f R (e ∷ es) k v none =
    elim (R k e.0) as (λ r. cond (is_eq r) (Some e.1) (lookup (is_at (R k)) es) ≡ None
    → sum_by f (match_ordering r ((k, v) ∷ e ∷ es) ((e.0, v) ∷ es) (e ∷ insert_entry R es k v)) ≡ sum_by f (e ∷ es) + f (k, v)) [
      | Less ↦ λ h. omega (arith, sum_by-cons f (k, v) (e ∷ es))
      | Equal ↦ λ h. cc
      | Greater ↦ λ h. omega (arith, sum_by-cons f e (insert_entry R es k v), sum_by-cons f e es, sum_by-insert_new f R es k v h)
    ] none

-- a new entry adds the term of its value to a sum over the values
pub sum_by-values-insert_new : {K X : Type 0} (f : X → ℕ) (R : K → K → Ordering) (es : List (K × X)) (k : K) (v : X)
    → lookup (is_at (R k)) es ≡ None → sum_by f (values_of (insert_entry R es k v)) ≡ sum_by f (values_of es) + f v
sum_by-values-insert_new f R [] k v none = refl
sum_by-values-insert_new {K} {X} f R (e ∷ es) k v none =
    elim (R k e.0) as (λ r. cond (is_eq r) (Some e.1) (lookup (is_at (R k)) es) ≡ None
    → sum_by f (values_of (match_ordering r ((k, v) ∷ e ∷ es) ((e.0, v) ∷ es) (e ∷ insert_entry R es k v))) ≡ sum_by f (values_of (e ∷ es)) + f v) [
      | Less ↦ λ h. omega (arith, sum_by-cons f v (values_of (e ∷ es)))
      | Equal ↦ λ h. cc
      | Greater ↦ λ h. omega (
        arith,
        sum_by-cons f e.1 (values_of (insert_entry R es k v)),
        sum_by-cons f e.1 (values_of es),
        sum_by-values-insert_new f R es k v h,
      )
    ] none

-- two tests that agree on all elements count alike
pub count_by-agree : {X : Type 0} (p q : X → Bool) (xs : List X) → All (λ x. p x ≡ q x) xs → count_by p xs ≡ count_by q xs
count_by-agree p q [] agree = refl
count_by-agree p q (x ∷ xs) agree =
    let here : p x ≡ q x = All-head (λ y. p y ≡ q y) x xs agree in
    let rest : count_by p xs ≡ count_by q xs = count_by-agree p q xs (All-tail (λ y. p y ≡ q y) x xs agree) in
    sum_by-cons (λ y. cond (p y) 1 0) x xs ∙ (λ i. cond (here i) 1 0 + rest i) ∙ sym (sum_by-cons (λ y. cond (q y) 1 0) x xs)

-- a test that no element passes counts none
pub count_by-none : {X : Type 0} (p : X → Bool) (xs : List X) → All (λ x. p x ≡ false) xs → count_by p xs ≡ 0
count_by-none p [] none = refl
count_by-none p (x ∷ xs) none =
    let here : p x ≡ false = All-head (λ y. p y ≡ false) x xs none in
    let rest : count_by p xs ≡ 0 = count_by-none p xs (All-tail (λ y. p y ≡ false) x xs none) in
    sum_by-cons (λ y. cond (p y) 1 0) x xs ∙ (λ i. cond (here i) 1 0 + rest i)
