-- After so many steps those inodes are found from which so many names or fewer lead up to the root.
use Rattle.std.proofs.Common.{◌≡◌, ◌⊎◌, ℕ, zero, suc, ◌==◌, Bool, true, false, not, ◌&&◌, ◌||◌, cond, nat_eq, List, [], ◌∷◌, map, inl, inr, refl, sym, ap, subst, ◌∙◌, arith, tests, ⊎_elim}
use Rattle.std.specs.HashMap.{HashMap}
use Rattle.std.specs.List.{filter, list_any}
use Rattle.std.specs.declared.vec.Vec.{Vec}
use Rattle.std.proofs.lemmas.Bool.{and_parts, eqb-true}
use Rattle.std.proofs.lemmas.List.Folds.{list_any-append}
use Rattle.qrules.specs.declared.name_row.NameRow.{NameRow}
use Rattle.qplain.specs.declared.bounds.TheConstants.{ROOT}
use Rattle.qplain.specs.State.{NameKey, State}
use Rattle.qtext_image.specs.Counts.{is_below_root}
use Rattle.qstore_tree.specs.Tree.{name_row_of}
use Rattle.qstore_open.specs.Reaching.{IsStep, has, inos_at, inos_in, inos_of_all, is_among, is_in_front}
use Rattle.qstore_open.specs.declared.reach.Reach.{Reach}

-- ---- tests

pub either : (a b : Bool) → (a || b) ≡ true → (a ≡ true) ⊎ (b ≡ true)
either true b e = inl refl
either false b e = inr e

left-of : (a b : Bool) → a ≡ true → (a || b) ≡ true
left-of a b e = rw e refl

right-of : (a b : Bool) → b ≡ true → (a || b) ≡ true
right-of true b e = refl
right-of false b e = e

pub both : (a b : Bool) → a ≡ true → b ≡ true → (a && b) ≡ true
both a b e f = rw (e, f) refl

-- two tests that pass the same are the same
pub same-test : (a b : Bool) → (a ≡ true → b ≡ true) → (b ≡ true → a ≡ true) → a ≡ b
same-test true b to from = sym (to refl)
same-test false true to from = from refl
same-test false false to from = refl

eq-swap : (a b : ℕ) → (a == b) ≡ (b == a)
eq-swap a b = same-test (a == b) (b == a) (λ e. let same = eqb-true a b e in grind (arith, tests, same)) (λ e. let same = eqb-true b a e in grind
    (arith, tests, same))

eq-same : (a : ℕ) → (a == a) ≡ true
eq-same a = grind (arith, tests)

and-true : (a b : Bool) → b ≡ true → (a && b) ≡ a
and-true true b e = e
and-true false b e = refl

and-false : (a b : Bool) → b ≡ false → (a && b) ≡ false
and-false true b e = e
and-false false b e = refl

-- ---- lists

any-weaker : {X : Type 0} (p q : X → Bool) → ((x : X) → p x ≡ true → q x ≡ true) → (xs : List X) → list_any p xs ≡ true → list_any q xs ≡ true
any-weaker p q weaker [] found = absurd (cc found)
any-weaker p q weaker (x ∷ xs) found =
    ⊎_elim
    (λ here. left-of (q x) (list_any q xs) (weaker x here))
    (λ later. right-of (q x) (list_any q xs) (any-weaker p q weaker xs later))
    (either (p x) (list_any p xs) found)

-- what passes, where one does: another test that it passes is passed by one of the list
pub any-found : {X : Type 0} (p : X → Bool) (xs : List X) → list_any p xs ≡ true
    → (x : X) × (p x ≡ true) × ((q : X → Bool) → q x ≡ true → list_any q xs ≡ true)
any-found p [] found = absurd (cc found)
any-found {X} p (x ∷ xs) found =
    ⊎_elim
    (λ here. (x, here, λ q e. left-of (q x) (list_any q xs) e))
    (λ later. let more = any-found p xs later in (more.0, more.1, λ q e. right-of (q x) (list_any q xs) (more.2 q e)))
    (either (p x) (list_any p xs) found)

-- ---- names in directories

-- the name leads from the directory to the number
abbrev is_from : ℕ → ℕ → NameKey × ℕ → Bool
is_from dir number e = e.1 == number && e.0.0 == dir

-- what a list of names leads to from one directory
inos-from : (dir number : ℕ) (es : List (NameKey × ℕ)) → is_among number (inos_in dir (map name_row_of es)) ≡ list_any (is_from dir number) es
inos-from dir number [] = refl
inos-from dir number (e ∷ es) = by (dir == e.0.0) refl (inos-from dir number es)
  where
    by : (b : Bool) → (dir == e.0.0) ≡ b → is_among number (inos_in dir (map name_row_of es)) ≡ list_any (is_from dir number) es
        → is_among number (map (λ (n : NameRow). n.ino)
        (cond b (name_row_of e ∷ filter (λ n. dir == n.dir) (map name_row_of es)) (filter (λ n. dir == n.dir) (map name_row_of es))))
        ≡ (is_from dir number e || list_any (is_from dir number) es)
    by true at later =
        let there : (e.0.0 == dir) ≡ true = eq-swap e.0.0 dir ∙ at in
        (λ i. eq-swap number e.1 i || later i) ∙ ap (λ b. b || list_any (is_from dir number) es) (sym (and-true (e.1 == number) (e.0.0 == dir) there))
    by false at later =
        let there : (e.0.0 == dir) ≡ false = eq-swap e.0.0 dir ∙ at in
        later ∙ ap (λ b. b || list_any (is_from dir number) es) (sym (and-false (e.1 == number) (e.0.0 == dir) there))

module _ {A H : Type 0} (inos : HashMap ℕ (Vec ℕ A) H) (es : List (NameKey × ℕ)) (are : (dir : ℕ) → inos_at inos dir ≡ inos_in dir (map name_row_of es)) where
  from-one : (dir number : ℕ) → is_among number (inos_at inos dir) ≡ list_any (is_from dir number) es
  from-one dir number = ap (is_among number) (are dir) ∙ inos-from dir number es

  -- the name leads to the number from one of these directories
  abbrev pub is_from_any : List ℕ → ℕ → NameKey × ℕ → Bool
  is_from_any dirs number e = e.1 == number && is_among e.0.0 dirs

  to-names : (dirs : List ℕ) (number : ℕ) → is_among number (inos_of_all inos dirs) ≡ true → list_any (is_from_any dirs number) es ≡ true
  to-names [] number found = absurd (cc found)
  to-names (d ∷ dirs) number found =
      ⊎_elim
      (λ here. any-weaker (is_from d number) (is_from_any (d ∷ dirs) number)
      (λ e is.
      let parts = and_parts (e.1 == number) (e.0.0 == d) is in
      both (e.1 == number) (is_among e.0.0 (d ∷ dirs)) parts.0 (left-of (e.0.0 == d) (is_among e.0.0 dirs) parts.1)) es (sym (from-one d number) ∙ here))
      (λ later. any-weaker (is_from_any dirs number) (is_from_any (d ∷ dirs) number)
      (λ e is.
      let parts = and_parts (e.1 == number) (is_among e.0.0 dirs) is in
      both (e.1 == number) (is_among e.0.0 (d ∷ dirs)) parts.0 (right-of (e.0.0 == d) (is_among e.0.0 dirs) parts.1)) es (to-names dirs number later))
      (either (is_among number (inos_at inos d)) (is_among number (inos_of_all inos dirs))
      (sym (list_any-append (nat_eq number) (inos_at inos d) (inos_of_all inos dirs)) ∙ found))

  from-name : (dirs : List ℕ) (number : ℕ) (e : NameKey × ℕ) → (e.1 == number) ≡ true → ((q : NameKey × ℕ → Bool) → q e ≡ true → list_any q es ≡ true)
      → is_among e.0.0 dirs ≡ true → is_among number (inos_of_all inos dirs) ≡ true
  from-name [] number e to any among = absurd (cc among)
  from-name (d ∷ dirs) number e to any among =
      list_any-append (nat_eq number) (inos_at inos d) (inos_of_all inos dirs)
      ∙ ⊎_elim
      (λ here. left-of (is_among number (inos_at inos d)) (is_among number (inos_of_all inos dirs))
      (from-one d number ∙ any (is_from d number) (both (e.1 == number) (e.0.0 == d) to here)))
      (λ later. right-of (is_among number (inos_at inos d)) (is_among number (inos_of_all inos dirs)) (from-name dirs number e to any later))
      (either (e.0.0 == d) (is_among e.0.0 dirs) among)

-- ---- levels

-- with as many steps as names those inodes are found that are so many names or fewer below the root; and what names in
-- directories lead to that are not in front any more is found too
pub record IsLevel (S : State) (names : ℕ) (reach : Reach) : Type 0 where
  pub found : (number : ℕ) → has reach number ≡ is_below_root S names number
  pub passed : (dir number : ℕ) → is_below_root S names dir ≡ true → is_in_front reach dir ≡ false
      → list_any (is_from dir number) S.names ≡ true → is_below_root S names number ≡ true
  pub front : (number : ℕ) → is_in_front reach number ≡ true → is_below_root S names number ≡ true

module _ (S : State) where
  -- the name leads to the inode, from a directory that is so far below the root
  abbrev leads_from : ℕ → ℕ → NameKey × ℕ → Bool
  leads_from k n e = e.1 == n && is_below_root S k e.0.0

  more : (k n : ℕ) → is_below_root S k n ≡ true → is_below_root S (suc k) n ≡ true
  more zero n e = left-of (n == ROOT) _ e
  more (suc k) n e =
      ⊎_elim
      (λ root. left-of (n == ROOT) _ root)
      (λ found. right-of (n == ROOT) _ (any-weaker (leads_from k n) (leads_from (suc k) n)
      (λ x passes.
      let parts = and_parts (x.1 == n) (is_below_root S k x.0.0) passes in
      both (x.1 == n) (is_below_root S (suc k) x.0.0) parts.0 (more k x.0.0 parts.1)) S.names found))
      (either (n == ROOT) (list_any (leads_from k n) S.names) e)

  root-below : (k n : ℕ) → (n == ROOT) ≡ true → is_below_root S k n ≡ true
  root-below zero n e = e
  root-below (suc k) n e = left-of (n == ROOT) _ e

  pub level-none : (reach : Reach) → ((number : ℕ) → has reach number ≡ nat_eq number ROOT) → reach.front.items ≡ ROOT ∷ [] → IsLevel S 0 reach
  level-none reach found front = record {
    found = found;
    passed = λ dir number below away from. absurd (cc (sym (left-of (dir == ROOT) false below) ∙ sym (ap (is_among dir) front) ∙ away));
    front = λ number in_front.
        let at : (number == ROOT || false) ≡ true = sym (ap (is_among number) front) ∙ in_front in
        ⊎_elim (λ root. root) (λ none. absurd (cc none)) (either (number == ROOT) false at);
  }

  module _ {A H : Type 0} (inos : HashMap ℕ (Vec ℕ A) H) (are : (dir : ℕ) → inos_at inos dir ≡ inos_in dir (map name_row_of S.names))
      (k : ℕ) (old new : Reach) (level : IsLevel S k old) (step : IsStep inos old new) where
    found-below : (number : ℕ) → has new number ≡ true → is_below_root S (suc k) number ≡ true
    found-below number found =
        ⊎_elim
        (λ before. more k number (sym (level.found number) ∙ before))
        (λ now. right-of (number == ROOT) _ (any-weaker (is_from_any inos S.names are old.front.items number) (leads_from k number)
        (λ e is.
        let parts = and_parts (e.1 == number) (is_among e.0.0 old.front.items) is in
        both (e.1 == number) (is_below_root S k e.0.0) parts.0 (level.front e.0.0 parts.1)) S.names
        (to-names inos S.names are old.front.items number now)))
        (either (has old number) (is_among number (inos_of_all inos old.front.items)) (sym (step.found number) ∙ found))

    kept : (number : ℕ) → is_below_root S k number ≡ true → has new number ≡ true
    kept number below = step.found number ∙ left-of (has old number) _ (level.found number ∙ below)

    below-found : (number : ℕ) → is_below_root S (suc k) number ≡ true → has new number ≡ true
    below-found number below =
        ⊎_elim
        (λ root. kept number (root-below k number root))
        (λ led.
        let e = any-found (leads_from k number) S.names led in
        let parts = and_parts (e.0.1 == number) (is_below_root S k e.0.0.0) e.1 in
        by e.0 parts.0 parts.1 e.2 (is_in_front old e.0.0.0) refl)
        (either (number == ROOT) (list_any (leads_from k number) S.names) below)
      where
        by : (e : NameKey × ℕ) → (e.1 == number) ≡ true → is_below_root S k e.0.0 ≡ true → ((q : NameKey × ℕ → Bool) → q e ≡ true → list_any q S.names ≡ true)
            → (b : Bool) → is_in_front old e.0.0 ≡ b → has new number ≡ true
        by e to up any true front =
            step.found number ∙ right-of (has old number) _ (from-name inos S.names are old.front.items number e to any front)
        by e to up any false front =
            kept number (level.passed e.0.0 number up front (any (is_from e.0.0 number) (both (e.1 == number) (e.0.0 == e.0.0) to (eq-same e.0.0))))

    passed-next : (dir number : ℕ) → is_below_root S (suc k) dir ≡ true → is_in_front new dir ≡ false
        → list_any (is_from dir number) S.names ≡ true → is_below_root S (suc k) number ≡ true
    passed-next dir number below away from =
        let before : has old dir ≡ true = known (has new dir) (has old dir) (below-found dir below) (sym (step.front dir) ∙ away) in
        let up : is_below_root S k dir ≡ true = sym (level.found dir) ∙ before in
        right-of (number == ROOT) _ (any-weaker (is_from dir number) (leads_from k number)
        (λ e is.
        let parts = and_parts (e.1 == number) (e.0.0 == dir) is in
        both (e.1 == number) (is_below_root S k e.0.0) parts.0 (subst (λ d. is_below_root S k d ≡ true) (sym (eqb-true e.0.0 dir parts.1)) up)) S.names from)
      where
        known : (a b : Bool) → a ≡ true → (a && not b) ≡ false → b ≡ true
        known true true e none = refl
        known true false e none = absurd (cc none)
        known false b e none = absurd (cc e)

    pub level-more : IsLevel S (suc k) new
    level-more = record {
      found = λ number. same-test (has new number) (is_below_root S (suc k) number) (found-below number) (below-found number);
      passed = passed-next;
      front = λ number in_front. found-below number (and_parts (has new number) (not (has old number)) (sym (step.front number) ∙ in_front)).0;
    }
