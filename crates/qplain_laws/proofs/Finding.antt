-- What is found in a table in order: each entry under its key, and after a name more or less what was found before.
use Rattle.std.proofs.Common.{◌≡◌, ℕ, ◌+◌, ◌==◌, Bool, true, false, nat_lt, cond, is_some, List, [], ◌∷◌, All, count_by, Option, Some, None, refl, sym, ap, subst, ◌∙◌, arith}
use Rattle.std.specs.List.{AllByRecursion}
use Rattle.std.specs.List.Sorted.{IsStrictlySortedBy}
use Rattle.std.specs.Map.{keys_of, lookup, remove_entry}
use Rattle.std.specs.declared.cmp.Ordering.{Ordering}
use Rattle.std.specs.declared.cmp.Ordering.TheVariants.{Less, Equal, Greater}
use Rattle.std.specs.Ordering.{eq_by_cmp, is_eq, nat_cmp, ordering_reverse}
use Rattle.std.specs.BTreeMap.{insert_entry, is_at}
use Rattle.std.specs.Cmp.{IsEquivalence, IsTotalOrder, eq_by_cmp_equiv, nat_cmp_total}
use Rattle.std.proofs.lemmas.Bool.{and_parts, cond-false, cond-true}
use Rattle.std.proofs.lemmas.List.Elements.{All-from_recursion, All-head, All-tail}
use Rattle.std.proofs.lemmas.List.Sums.{sum_by-cons}
use Rattle.std.proofs.lemmas.Map.{lookup-remove_entry}
use Rattle.std.proofs.lemmas.Map.Keys.{IsDistinct-from_sorted}
use Rattle.qplain.specs.State.{Inode, NameKey, State, inode_at, is_directory, name_key_cmp, named}
use Rattle.qplain_laws.specs.Laws.{IsLawful, leads}
use Rattle.qplain_laws.proofs.Tables.{lookup-insert_new, name_key_total}
use Rattle.qplain_laws.proofs.Fitting.{not_both}
use Rattle.qplain_laws.proofs.Sweeping.{key-dir}

-- a name that leads to a number, where one does
pub some-named : (P : NameKey × ℕ → Type 0) (es : List (NameKey × ℕ)) (q : ℕ) → AllByRecursion P es → nat_lt 0 (count_by (λ e. e.1 == q) es) ≡ true
    → (e : NameKey × ℕ) × P e × ((e.1 == q) ≡ true)
some-named P [] q all h = cc
some-named P (e ∷ es) q all h = by (some-named P es q all.1) (e.1 == q) refl (sum_by-cons (λ (x : NameKey × ℕ). cond (x.1 == q) 1 0) e es)
  where
    by : (nat_lt 0 (count_by (λ x. x.1 == q) es) ≡ true → (x : NameKey × ℕ) × P x × ((x.1 == q) ≡ true)) → (b : Bool) → (e.1 == q) ≡ b
        → count_by (λ x. x.1 == q) (e ∷ es) ≡ cond (e.1 == q) 1 0 + count_by (λ x. x.1 == q) es → (x : NameKey × ℕ) × P x × ((x.1 == q) ≡ true)
    by later true here sum = (e, all.0, here)
    by later false here sum =
        let none : ◌≡◌ {A = ℕ} (cond (e.1 == q) 1 0) 0 = rw here refl in
        let rest : nat_lt 0 (count_by (λ x. x.1 == q) es)
        ≡ true = positive (count_by (λ x. x.1 == q) (e ∷ es)) (count_by (λ x. x.1 == q) es) (omega (arith, sum, none)) h in
        later rest
      where
        positive : (n m : ℕ) → n ≡ m → nat_lt 0 n ≡ true → nat_lt 0 m ≡ true
        positive n m same l = ap (λ k. nat_lt 0 k) (sym same) ∙ l

reverse-less : (r : Ordering) → r ≡ Less → is_eq (ordering_reverse r) ≡ false
reverse-less Less h = refl
reverse-less Equal h = cc
reverse-less Greater h = cc

found-later : {K X : Type 0} {R : K → K → Ordering} → IsTotalOrder R → (e : K × X) (es xs : List (K × X)) → AllByRecursion (λ y. R e.0 y ≡ Less) (keys_of xs)
    → AllByRecursion (λ x. lookup (is_at (R x.0)) es ≡ Some x.1) xs → AllByRecursion (λ x. lookup (is_at (R x.0)) (e ∷ es) ≡ Some x.1) xs
found-later o e es [] above found = tt
found-later {R = R} o e es (x ∷ xs) above found = (
  cond-false (is_at (R x.0) e.0) (Some e.1) (lookup (is_at (R x.0)) es) (ap is_eq (o.antisymm x.0 e.0) ∙ reverse-less (R e.0 x.0) above.0) ∙ found.0,
  found-later o e es xs above.1 found.1,
)

-- each entry of a table in order is found under its key
pub each-found-by : {K X : Type 0} {R : K → K → Ordering} → IsTotalOrder R → (es : List (K × X)) → IsStrictlySortedBy R (keys_of es)
    → AllByRecursion (λ e. lookup (is_at (R e.0)) es ≡ Some e.1) es
unfolding IsStrictlySortedBy
each-found-by o [] sorted = tt
each-found-by {R = R} o (e ∷ es) sorted = (
  cond-true (is_at (R e.0) e.0) (Some e.1) (lookup (is_at (R e.0)) es) ((eq_by_cmp_equiv o).refl e.0),
  found-later o e es es sorted.0 (each-found-by o es sorted.1),
)

-- so each inode is found under its number
pub found-at : (S : State) → IsStrictlySortedBy nat_cmp (keys_of S.inodes) → All (λ e. inode_at S e.0 ≡ Some e.1) S.inodes
found-at S sorted = All-from_recursion (λ (e : ℕ × Inode). inode_at S e.0 ≡ Some e.1) S.inodes (each-found-by nat_cmp_total S.inodes sorted)

-- what a look-up finds stands under a key that passes
pub found-key : {K X : Type 0} (P : K × X → Type 0) (test : K → Bool) (es : List (K × X)) (v : X) → All P es → lookup test es ≡ Some v
    → (k : K) × (test k ≡ true) × P (k, v)
found-key P test [] v all there = cc
found-key {K} {X} P test (e ∷ es) v all there =
    elim (test e.0) as (λ b. test e.0 ≡ b → cond b (Some e.1) (lookup test es) ≡ Some v → (k : K) × (test k ≡ true) × P (k, v)) [
      | true ↦ λ t h. let value : e.1 ≡ v = cc in (e.0, t, subst (λ (x : X). P (e.0, x)) value (All-head P e es all))
      | false ↦ λ t h. found-key P test es v (All-tail P e es all) h
    ] refl there

-- a name leads to an inode that is there
pub led-there : {A : Type 0} (S : State) (lawful : IsLawful S) (dir : ℕ) (name : List ℕ) (number : ℕ) → named S dir name ≡ Some number
    → inode_at S number ≡ None → A
led-there S lawful dir name number led none =
    let key = found-key (λ e. leads S e ≡ true) (is_at (name_key_cmp (dir, name))) S.names number lawful.parts.names.lead led in
    let some : is_some (inode_at S number) ≡ true = (and_parts (is_directory S key.0.0) (is_some (inode_at S number)) key.2).1 in
    let no : is_some (inode_at S number) ≡ false = ap is_some none in
    cc

-- which is some
pub led-inode : (S : State) (lawful : IsLawful S) (dir : ℕ) (name : List ℕ) (number : ℕ) → named S dir name ≡ Some number
    → (inode : Inode) × inode_at S number ≡ Some inode
led-inode S lawful dir name number led = by (inode_at S number) refl
  where
    by : (o : Option Inode) → inode_at S number ≡ o → (inode : Inode) × inode_at S number ≡ Some inode
    by None none = led-there S lawful dir name number led none
    by (Some inode) there = (inode, there)

-- keys that are equal find the same
pub same-key : {K X : Type 0} {eq : K → K → Bool} → IsEquivalence eq → (k q : K) → eq k q ≡ true → (es : List (K × X)) → lookup (eq q) es ≡ lookup (eq k) es
same-key laws k q e [] = refl
same-key laws k q e (x ∷ es) = λ i. cond (sym (laws.congr k q x.0 e) i) (Some x.1) (same-key laws k q e es i)

pub name-laws : IsEquivalence (eq_by_cmp name_key_cmp)
name-laws = eq_by_cmp_equiv name_key_total

-- what holds of the directories of all names holds of one in which a name is found
pub holds-of-dir : (S : State) (P : ℕ → Type 0) → All (λ e. P e.0.0) S.names → (d : ℕ) (name : List ℕ) (m : ℕ) → named S d name ≡ Some m → P d
holds-of-dir S P all d name m led =
    let key = found-key (λ e. P e.0.0) (is_at (name_key_cmp (d, name))) S.names m all led in
    subst P (sym (key-dir d name key.0 key.1)) key.2

-- keys under which different things are found differ
differ : (es : List (NameKey × ℕ)) (k q : NameKey) → (lookup (is_at (name_key_cmp k)) es ≡ lookup (is_at (name_key_cmp q)) es → ⊥) → is_at (name_key_cmp k) q
    ≡ false
differ es k q other = not_both (is_at (name_key_cmp k) q) (λ same. other (sym (same-key name-laws k q same es)))

-- a further name leaves what was found
pub more-kept : (es : List (NameKey × ℕ)) (k : NameKey) (v : ℕ) → lookup (is_at (name_key_cmp k)) es ≡ None → (q : NameKey) (m : ℕ)
    → lookup (is_at (name_key_cmp q)) es ≡ Some m → lookup (is_at (name_key_cmp q)) (insert_entry name_key_cmp es k v) ≡ Some m
more-kept es k v none q m found =
    lookup-insert_new name_key_total es k v q none
    ∙ cond-false (is_at (name_key_cmp q) k) (Some v) (lookup (is_at (name_key_cmp q)) es)
    (differ es q k (λ e. let clash : Some m ≡ None = sym found ∙ e ∙ none in cc)) ∙ found

-- a name less leaves what else was found
pub less-kept : (es : List (NameKey × ℕ)) (k q : NameKey) (m : ℕ) → IsStrictlySortedBy name_key_cmp (keys_of es) → lookup (is_at (name_key_cmp q)) es ≡ Some m
    → (lookup (is_at (name_key_cmp k)) es ≡ Some m → ⊥) → lookup (is_at (name_key_cmp q)) (remove_entry (is_at (name_key_cmp k)) es) ≡ Some m
less-kept es k q m sorted found other =
    lookup-remove_entry name-laws (is_at (name_key_cmp k)) (λ x y e. name-laws.congr k x y e) q es (IsDistinct-from_sorted name_key_cmp (keys_of es) sorted)
    ∙ cond-false (is_at (name_key_cmp k) q) None (lookup (is_at (name_key_cmp q)) es) (differ es k q (λ e. other (e ∙ found))) ∙ found
