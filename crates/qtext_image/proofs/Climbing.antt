-- Names that lead up to the root are those of walks down from it.
use Rattle.std.proofs.Common.{◌≡◌, ◌⊎◌, ℕ, zero, suc, ◌+◌, ◌≤◌, ◌<◌, ◌==◌, Bool, true, false, ◌&&◌, ◌||◌, cond, List, [], ◌∷◌, All, count_by, fold, length, Option, Some, None, Ok, Err, is_some, slice_index_or, inl, inr, refl, sym, ap, subst, ◌∙◌, arith, tests, ⊎_elim}
use Rattle.std.specs.List.{list_any, AllByRecursion}
use Rattle.std.specs.Ordering.{nat_cmp}
use Rattle.std.specs.BTreeMap.{is_at}
use Rattle.std.proofs.lemmas.Bool.{and_parts, cases_eq, eqb-true}
use Rattle.std.proofs.lemmas.List.Elements.{All-from_recursion, recursion_from_All}
use Rattle.std.proofs.lemmas.List.Sums.{count_by-le-length, sum_by-cons}
use Rattle.qplain.specs.declared.bounds.TheConstants.{ROOT}
use Rattle.qplain.specs.declared.refusal.Refusal.{Refusal}
use Rattle.qplain.specs.declared.refusal.Refusal.TheVariants.{ENOENT, ENOTDIR}
use Rattle.qplain.specs.State.{Inode, NameKey, State, inode_at, is_directory, named, name_key_cmp}
use Rattle.qplain.specs.Walk.{follow, led_to}
use Rattle.qplain_laws.specs.Laws.{AllReached, FitsTogether, IsReached, leads}
use Rattle.qplain_laws.proofs.Finding.{each-found-by, found-key}
use Rattle.qplain_laws.proofs.Fitting.{or_right, some-is_dir}
use Rattle.qplain_laws.proofs.Reaching.{reached-further}
use Rattle.qplain_laws.proofs.Sweeping.{key-dir}
use Rattle.qplain_laws.proofs.Tables.{name_key_total, same-number}
use Rattle.qtext.proofs.Joining.{and_both}
use Rattle.qtext_image.specs.Counts.{is_below_root, is_in_tree}

-- ---- lists

either : (a b : Bool) → (a || b) ≡ true → (a ≡ true) ⊎ (b ≡ true)
either true b e = inl refl
either false b e = inr e

left-of : (a b : Bool) → a ≡ true → (a || b) ≡ true
left-of a b e = rw e refl

-- what passes, where one does
any-found : {X : Type 0} (P : X → Type 0) (q : X → Bool) (xs : List X) → AllByRecursion P xs → list_any q xs ≡ true → (x : X) × P x × (q x ≡ true)
any-found P q [] all found = absurd (cc found)
any-found {X} P q (x ∷ xs) all found =
    ⊎_elim
    (λ here. (x, all.0, here))
    (λ later. any-found P q xs all.1 later)
    (either (q x) (list_any q xs) found)

any-weaker : {X : Type 0} (p q : X → Bool) → ((x : X) → p x ≡ true → q x ≡ true) → (xs : List X) → list_any p xs ≡ true → list_any q xs ≡ true
any-weaker p q weaker [] found = absurd (cc found)
any-weaker p q weaker (x ∷ xs) found =
    ⊎_elim
    (λ here. left-of (q x) (list_any q xs) (weaker x here))
    (λ later. or_right (q x) (list_any q xs) (any-weaker p q weaker xs later))
    (either (p x) (list_any p xs) found)

any-same : {X : Type 0} (p q : X → Bool) (xs : List X) → AllByRecursion (λ x. p x ≡ q x) xs → list_any p xs ≡ list_any q xs
any-same p q [] same = refl
any-same p q (x ∷ xs) same = λ i. same.0 i || any-same p q xs same.1 i

-- each of a list passes what finds any that a test finds of it
passes-any : {X : Type 0} (q : X → Bool) (xs : List X) → AllByRecursion (λ x. q x ≡ true → list_any q xs ≡ true) xs
passes-any q [] = tt
passes-any q (x ∷ xs) = (left-of (q x) (list_any q xs), each xs (passes-any q xs))
  where
    each : (ys : List _) → AllByRecursion (λ y. q y ≡ true → list_any q xs ≡ true) ys → AllByRecursion (λ y. q y ≡ true → (q x || list_any q xs) ≡ true) ys
    each [] all = tt
    each (y ∷ ys) all = (λ e. or_right (q x) (list_any q xs) (all.0 e), each ys all.1)

-- how much a test counts
abbrev counted : Bool → ℕ
counted b = cond b 1 0

test-le : (a b : Bool) → (a ≡ true → b ≡ true) → counted a ≤ counted b
test-le true b weaker = rw (weaker refl) (omega arith)
test-le false b weaker = omega arith

counts-weaker : {X : Type 0} (p q : X → Bool) → ((x : X) → p x ≡ true → q x ≡ true) → (xs : List X) → count_by p xs ≤ count_by q xs
counts-weaker p q weaker [] = omega arith
counts-weaker {X} p q weaker (x ∷ xs) =
    omega (
      arith,
      sum_by-cons (λ (y : X). cond (p y) 1 0) x xs,
      sum_by-cons (λ (y : X). cond (q y) 1 0) x xs,
      test-le (p x) (q x) (weaker x),
      counts-weaker p q weaker xs,
    )

-- where one test passes all that another does, it passes the same, or more
same-or-more : {X : Type 0} (p q : X → Bool) → ((x : X) → p x ≡ true → q x ≡ true) → (xs : List X)
    → AllByRecursion (λ x. q x ≡ p x) xs ⊎ (count_by p xs + 1 ≤ count_by q xs)
same-or-more p q weaker [] = inl tt
same-or-more {X} p q weaker (x ∷ xs) =
    by (p x) (q x) refl refl (weaker x) (same-or-more p q weaker xs) (counts-weaker p q weaker xs)
    (sum_by-cons (λ (y : X). cond (p y) 1 0) x xs) (sum_by-cons (λ (y : X). cond (q y) 1 0) x xs)
  where
    by : (a b : Bool) → p x ≡ a → q x ≡ b → (p x ≡ true → q x ≡ true) → AllByRecursion (λ y. q y ≡ p y) xs ⊎ (count_by p xs + 1 ≤ count_by q xs)
        → count_by p xs ≤ count_by q xs → count_by p (x ∷ xs) ≡ counted (p x) + count_by p xs → count_by q (x ∷ xs) ≡ counted (q x) + count_by q xs
        → AllByRecursion (λ y. q y ≡ p y) (x ∷ xs) ⊎ (count_by p (x ∷ xs) + 1 ≤ count_by q (x ∷ xs))
    by true false one other weak rest le c d = absurd (cc (sym other ∙ weak one))
    by false true one other weak rest le c d = inr (omega (arith, le, c, d, ap counted one, ap counted other))
    by true true one other weak rest le c d =
        let same : q x ≡ p x = other ∙ sym one in
        ⊎_elim (λ all. inl (same, all)) (λ many. inr (omega (arith, c, d, ap counted same, many))) rest
    by false false one other weak rest le c d =
        let same : q x ≡ p x = other ∙ sym one in
        ⊎_elim (λ all. inl (same, all)) (λ many. inr (omega (arith, c, d, ap counted same, many))) rest

-- where as many pass as there are, all do
all-counted : {X : Type 0} (p : X → Bool) (xs : List X) → length xs ≤ count_by p xs → AllByRecursion (λ x. p x ≡ true) xs
all-counted p [] many = tt
all-counted {X} p (x ∷ xs) many =
    let few = count_by-le-length p xs in
    let sum = sum_by-cons (λ (y : X). cond (p y) 1 0) x xs in
    (by (p x) refl few sum, all-counted p xs (omega (arith, many, sum, test-le (p x) true (λ _. refl))))
  where
    by : (b : Bool) → p x ≡ b → count_by p xs ≤ length xs → count_by p (x ∷ xs) ≡ counted (p x) + count_by p xs → p x ≡ true
    by true is few sum = is
    by false is few sum = absurd (omega (arith, many, few, sum, ap counted is))

module _ (S : State) (fits : FitsTogether S) where
  -- the name leads to the inode, from a directory that is so far below the root
  abbrev leads_from : ℕ → ℕ → NameKey × ℕ → Bool
  leads_from k n e = e.1 == n && is_below_root S k e.0.0

  -- ---- more names

  more : (k n : ℕ) → is_below_root S k n ≡ true → is_below_root S (suc k) n ≡ true
  more zero n e = left-of (n == ROOT) _ e
  more (suc k) n e =
      ⊎_elim
      (λ root. left-of (n == ROOT) _ root)
      (λ found. or_right (n == ROOT) _ (any-weaker (leads_from k n) (leads_from (suc k) n)
      (λ x passes.
      let parts = and_parts (x.1 == n) (is_below_root S k x.0.0) passes in
      and_both (x.1 == n) (is_below_root S (suc k) x.0.0) parts.0 (more k x.0.0 parts.1)) S.names found))
      (either (n == ROOT) (list_any (leads_from k n) S.names) e)

  upto : (k m n : ℕ) → k ≤ m → is_below_root S k n ≡ true → is_below_root S m n ≡ true
  upto k zero n l e = let none : k ≡ zero = omega (arith, l) in subst (λ x. is_below_root S x n ≡ true) none e
  upto k (suc m) n l e =
      ⊎_elim
      (λ same. subst (λ x. is_below_root S x n ≡ true) same e)
      (λ other. more m n (upto k m n (omega (arith, l, other)) e))
      (cases_eq k (suc m))

  -- ---- walks

  no-walk : (names : List (List ℕ)) (r : Refusal) (n : ℕ) → fold (follow S) (Err r) names ≡ Ok n → ⊥
  no-walk [] r n w = cc w
  no-walk (name ∷ names) r n w = no-walk names r n w

  -- where the name leads there, some name does
  abbrev Finds : ℕ → ℕ → NameKey × ℕ → Type 0
  Finds k n e = leads_from k n e ≡ true → list_any (leads_from k n) S.names ≡ true

  one-more : (k d m : ℕ) (name : List ℕ) → named S d name ≡ Some m → is_below_root S k d ≡ true → is_below_root S (suc k) m ≡ true
  one-more k d m name led below =
      let each : All (Finds k m) S.names = All-from_recursion (Finds k m) S.names (passes-any (leads_from k m) S.names) in
      let key = found-key (Finds k m) (is_at (name_key_cmp (d, name))) S.names m each led in
      let from : is_below_root S k key.0.0 ≡ true = subst (λ x. is_below_root S k x ≡ true) (key-dir d name key.0 key.1) below in
      or_right (m == ROOT) _ (key.2 (and_both (m == m) (is_below_root S k key.0.0) (grind (arith, tests)) from))

  below-walk : (names : List (List ℕ)) (d k n : ℕ) → is_below_root S k d ≡ true → fold (follow S) (Ok d) names ≡ Ok n → (m : ℕ) × (is_below_root S m n ≡ true)
  below-walk [] d k n e w = let same : d ≡ n = cc w in (k, subst (λ x. is_below_root S k x ≡ true) same e)
  below-walk (name ∷ names) d k n e w =
      by (is_directory S d) (named S d name) refl w (λ m below later. below-walk names m (suc k) n below later)
    where
      by : (at : Bool) (o : Option ℕ) → named S d name ≡ o → fold (follow S) (cond at (led_to o) (Err ENOTDIR)) names ≡ Ok n
          → ((m : ℕ) → is_below_root S (suc k) m ≡ true → fold (follow S) (Ok m) names ≡ Ok n → (x : ℕ) × (is_below_root S x n ≡ true))
          → (x : ℕ) × (is_below_root S x n ≡ true)
      by false o led w later = absurd (no-walk names ENOTDIR n w)
      by true None led w later = absurd (no-walk names ENOENT n w)
      by true (Some m) led w later = later m (one-more k d m name led e) w

  -- ---- from some number of names on, no more inodes are found

  abbrev IsStable : ℕ → Type 0
  IsStable k = AllByRecursion (λ (e : ℕ × Inode). is_below_root S (suc k) e.0 ≡ is_below_root S k e.0) S.inodes

  -- so it is for any number that is a directory's
  directory-stable : (k d : ℕ) → IsStable k → is_directory S d ≡ true → is_below_root S (suc k) d ≡ is_below_root S k d
  directory-stable k d stable at = by (inode_at S d) refl (some-is_dir (inode_at S d) at)
    where
      by : (o : Option Inode) → inode_at S d ≡ o → is_some o ≡ true → is_below_root S (suc k) d ≡ is_below_root S k d
      by None there some = absurd (cc some)
      by (Some inode) there some =
          let key = found-key (λ (e : ℕ × Inode). is_below_root S (suc k) e.0 ≡ is_below_root S k e.0) (is_at (nat_cmp d)) S.inodes inode
          (All-from_recursion (λ (e : ℕ × Inode). is_below_root S (suc k) e.0 ≡ is_below_root S k e.0) S.inodes stable) there in
          subst (λ x. is_below_root S (suc k) x ≡ is_below_root S k x) (sym (same-number d key.0 key.1)) key.2

  -- and with one name more for any number
  next-stable : (k : ℕ) → IsStable k → (n : ℕ) → is_below_root S (suc (suc k)) n ≡ is_below_root S (suc k) n
  next-stable k stable n =
      ap (λ b. n == ROOT || b) (any-same (leads_from (suc k) n) (leads_from k n) S.names
      (recursion_from_All (λ (e : NameKey × ℕ). leads_from (suc k) n e ≡ leads_from k n e) S.names (λ j d below.
      let e : NameKey × ℕ = slice_index_or S.names j d in
      ap (λ b. e.1 == n && b) (directory-stable k e.0.0 stable (and_parts (is_directory S e.0.0) _ (fits.names.lead j d below)).0))))

  all-stable : (k : ℕ) → ((n : ℕ) → is_below_root S (suc k) n ≡ is_below_root S k n) → IsStable k
  all-stable k same = by S.inodes
    where
      by : (es : List (ℕ × Inode)) → AllByRecursion (λ (e : ℕ × Inode). is_below_root S (suc k) e.0 ≡ is_below_root S k e.0) es
      by [] = tt
      by (e ∷ es) = (same e.0, by es)

  stays-stable : (k m : ℕ) → IsStable k → suc k ≤ m → (n : ℕ) → is_below_root S (suc m) n ≡ is_below_root S m n
  stays-stable k zero stable l n = absurd (omega (arith, l))
  stays-stable k (suc m) stable l n =
      ⊎_elim
      (λ same. subst (λ x. is_below_root S (suc (suc x)) n ≡ is_below_root S (suc x) n) (omega (arith, same)) (next-stable k stable n))
      (λ other. next-stable m (all-stable m (stays-stable k m stable (omega (arith, l, other)))) n)
      (cases_eq (suc k) (suc m))

  same-above : (k m n : ℕ) → IsStable k → suc k ≤ m → is_below_root S m n ≡ is_below_root S (suc k) n
  same-above k zero n stable l = absurd (omega (arith, l))
  same-above k (suc m) n stable l =
      ⊎_elim
      (λ same. ap (λ x. is_below_root S x n) (sym same))
      (λ other. stays-stable k m stable (omega (arith, l, other)) n ∙ same-above k m n stable (omega (arith, l, other)))
      (cases_eq (suc k) (suc m))

  -- with each name more inodes are found, until no more are
  grows : (k : ℕ) → (k ≤ count_by (λ e. is_below_root S k e.0) S.inodes) ⊎ ((j : ℕ) × (j < k) × IsStable j)
  grows zero = inl (omega arith)
  grows (suc k) =
      ⊎_elim
      (λ many.
      ⊎_elim (λ same. inr (k, omega arith, same)) (λ further. inl (omega (arith, many, further)))
      (same-or-more (λ (e : ℕ × Inode). is_below_root S k e.0) (λ e. is_below_root S (suc k) e.0) (λ e below. more k e.0 below) S.inodes))
      (λ found. inr (found.0, omega (arith, found.1), found.2))
      (grows k)

  -- an inode to which a walk leads is in the tree
  pub walked-in_tree : AllReached S → All (λ e. is_in_tree S e.0 ≡ true) S.inodes
  walked-in_tree reached = λ j d below.
      let e : ℕ × Inode = slice_index_or S.inodes j d in
      let walked = reached j d below in
      let up = below-walk walked.0 ROOT 0 e.0 (grind (arith, tests)) walked.1 in
      ⊎_elim
      (λ many. All-from_recursion (λ (x : ℕ × Inode). is_in_tree S x.0 ≡ true) S.inodes
      (all-counted (λ (x : ℕ × Inode). is_in_tree S x.0) S.inodes many) j d below)
      (λ found.
      let far : is_below_root S (up.0 + suc found.0) e.0 ≡ true = upto up.0 (up.0 + suc found.0) e.0 (omega arith) up.1 in
      let near : is_below_root S (suc found.0) e.0 ≡ true = sym (same-above found.0 (up.0 + suc found.0) e.0 found.2 (omega arith)) ∙ far in
      upto (suc found.0) (length S.inodes) e.0 (omega (arith, found.1)) near)
      (grows (length S.inodes))

  -- and to one that is in the tree a walk leads
  below-reached : (k n : ℕ) → is_below_root S k n ≡ true → IsReached S n
  below-reached zero n e = let same : n ≡ ROOT = eqb-true n ROOT e in ([], ap (λ x. Ok x) (sym same))
  below-reached (suc k) n e =
      ⊎_elim
      (λ root. let same : n ≡ ROOT = eqb-true n ROOT root in ([], ap (λ x. Ok x) (sym same)))
      (λ found.
      let x = any-found (λ (e : NameKey × ℕ). (leads S e ≡ true) × (named S e.0.0 e.0.1 ≡ Some e.1)) (leads_from k n) S.names
      (recursion_from_All (λ (e : NameKey × ℕ). (leads S e ≡ true) × (named S e.0.0 e.0.1 ≡ Some e.1)) S.names (λ j d below. (
        fits.names.lead j d below,
        All-from_recursion (λ (e : NameKey × ℕ). named S e.0.0 e.0.1 ≡ Some e.1) S.names
            (each-found-by name_key_total S.names fits.names.in_order) j d below,
      ))) found in
      let parts = and_parts (x.0.1 == n) (is_below_root S k x.0.0.0) x.2 in
      let at : is_directory S x.0.0.0 ≡ true = (and_parts (is_directory S x.0.0.0) _ x.1.0).0 in
      reached-further S x.0.0.0 x.0.0.1 n (below-reached k x.0.0.0 parts.1) at (x.1.1 ∙ ap (λ m. Some m) (eqb-true x.0.1 n parts.0)))
      (either (n == ROOT) (list_any (leads_from k n) S.names) e)

  pub in_tree-walked : All (λ e. is_in_tree S e.0 ≡ true) S.inodes → AllReached S
  in_tree-walked all = λ j d below. below-reached (length S.inodes) (slice_index_or S.inodes j d).0 (all j d below)
