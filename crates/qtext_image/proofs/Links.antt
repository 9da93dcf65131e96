-- With the first of its names a state has no more names and links of any inode.
use Rattle.std.proofs.Common.{◌≡◌, ℕ, ◌+◌, ◌≤◌, ◌==◌, Bool, true, false, ◌&&◌, cond, nat_le, nat_lt, List, [], ◌∷◌, ◌++◌, count_by, refl, subst, arith, tests}
use Rattle.std.specs.List.{list_all, list_any}
use Rattle.std.proofs.lemmas.Bool.{or_parts}
use Rattle.std.proofs.lemmas.List.Sums.{sum_by-append}
use Rattle.qplain.specs.declared.bounds.TheConstants.{MAX_LINKS, ROOT}
use Rattle.qplain.specs.State.{Inode, NameKey, State, is_directory}
use Rattle.qplain.specs.Use.{links_of, names_to}
use Rattle.qplain_laws.specs.Laws.{has_right_names}
use Rattle.qtext.proofs.Joining.{and_both}
use Rattle.qtext_image.specs.Faults.{has_few_names}

-- where no name stands, no inode has too many links
no-links : (S : State) (number : ℕ) (dir : Bool) → nat_lt MAX_LINKS (links_of (record S { names = [] }) number dir) ≡ false
no-links S number true = refl
no-links S number false = refl

pub few-links : (S : State) (es : List (ℕ × Inode)) → list_any (λ e. nat_lt MAX_LINKS (links_of (record S { names = [] }) e.0 e.1.dir)) es ≡ false
few-links S [] = refl
few-links S (e ∷ es) = rw (no-links S e.0 e.1.dir, few-links S es) refl

counts-fewer : {X : Type 0} (p : X → Bool) (first rest : List X) → count_by p first ≤ count_by p (first ++ rest)
counts-fewer {X} p first rest = omega (arith, sum_by-append (λ (x : X). cond (p x) 1 0) first rest)

pub few-named : (S : State) (es : List (ℕ × Inode)) → list_all (has_few_names (record S { names = [] })) es ≡ true
few-named S [] = refl
few-named S (e ∷ es) = and_both (has_few_names (record S { names = [] }) e) _ (by (e.0 == ROOT) e.1.dir) (few-named S es)
  where
    by : (root dir : Bool) → cond root true (cond dir true true) ≡ true
    by true dir = refl
    by false true = refl
    by false false = refl

-- with the first of the names each has as few names
pub names-few : (S : State) (first rest : List (NameKey × ℕ)) → first ++ rest ≡ S.names → (e : ℕ × Inode) → has_right_names S e ≡ true
    → has_few_names (record S { names = first }) e ≡ true
names-few S first rest are e right = by (e.0 == ROOT) e.1.dir right
  where
    fewer : count_by (λ (x : NameKey × ℕ). x.1 == e.0) first ≤ names_to S e.0
    fewer = subst (λ (names : List (NameKey × ℕ)). count_by (λ x. x.1 == e.0) first ≤ count_by (λ x. x.1 == e.0) names) are
        (counts-fewer (λ (x : NameKey × ℕ). x.1 == e.0) first rest)

    by : (root dir : Bool) → cond root (names_to S e.0 == 0) (cond dir (names_to S e.0 == 1) (nat_lt 0 (names_to S e.0))) ≡ true
        → cond root (names_to (record S { names = first }) e.0 == 0) (cond dir (nat_le (names_to (record S { names = first }) e.0) 1) true) ≡ true
    by true dir none = grind (arith, tests, fewer, none)
    by false true one = grind (arith, tests, fewer, one)
    by false false some = refl

-- with the first of the names no inode has more links
links-fewer : (S : State) (first rest : List (NameKey × ℕ)) → first ++ rest ≡ S.names → (number : ℕ) (dir : Bool)
    → links_of (record S { names = first }) number dir ≤ links_of S number dir
links-fewer S first rest are number false =
    subst (λ (names : List (NameKey × ℕ)). count_by (λ e. e.1 == number) first ≤ count_by (λ e. e.1 == number) names) are
    (counts-fewer (λ (e : NameKey × ℕ). e.1 == number) first rest)
links-fewer S first rest are number true =
    let counts : NameKey × ℕ → Bool = λ e. e.0.0 == number && is_directory S e.1 in
    subst (λ (names : List (NameKey × ℕ)). 2 + count_by counts first ≤ 2 + count_by counts names) are
    (omega (arith, counts-fewer counts first rest))

pub links-fewer-any : (S : State) (first rest : List (NameKey × ℕ)) → first ++ rest ≡ S.names → (es : List (ℕ × Inode))
    → list_any (λ e. nat_lt MAX_LINKS (links_of S e.0 e.1.dir)) es ≡ false
    → list_any (λ e. nat_lt MAX_LINKS (links_of (record S { names = first }) e.0 e.1.dir)) es ≡ false
links-fewer-any S first rest are [] few = refl
links-fewer-any S first rest are (e ∷ es) few =
    let parts = or_parts (nat_lt MAX_LINKS (links_of S e.0 e.1.dir)) (list_any (λ x. nat_lt MAX_LINKS (links_of S x.0 x.1.dir)) es) few in
    let less = links-fewer S first rest are e.0 e.1.dir in
    let here : nat_lt MAX_LINKS (links_of (record S { names = first }) e.0 e.1.dir) ≡ false = grind (arith, tests, less, parts.0) in
    rw (here, links-fewer-any S first rest are es parts.1) refl
