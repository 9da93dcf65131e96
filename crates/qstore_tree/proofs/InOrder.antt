-- Entries in key order: what they answer, and what a change of the entries does to them.
use Rattle.std.proofs.Common.{◌≡◌, Bool, true, false, cond, List, [], ◌∷◌, Some, None, ◌&&◌, T, refl, sym, ap, ◌∙◌, subst}
use Rattle.std.specs.declared.cmp.Ordering.{Ordering}
use Rattle.std.specs.declared.cmp.Ordering.TheVariants.{Less, Equal, Greater}
use Rattle.std.specs.Ordering.{is_eq, is_lt, match_ordering, eq_by_cmp}
use Rattle.std.specs.Cmp.{IsTotalOrder, eq_by_cmp_equiv}
use Rattle.std.specs.BTreeMap.{is_at, insert_entry}
use Rattle.std.specs.Map.{lookup, remove_entry, set_value, keys_of}
use Rattle.std.specs.Option.{IsSome}
use Rattle.std.specs.List.{AllByRecursion}
use Rattle.std.specs.List.Sorted.{IsStrictlySortedBy}
use Rattle.std.proofs.lemmas.Map.{lookup-none, lookup-remove_entry}
use Rattle.std.proofs.lemmas.Map.Entries.{none_below_head}
use Rattle.std.proofs.lemmas.Map.Keys.{IsDistinct-from_sorted}
use Rattle.std.specs.FinMap as map
use Rattle.std.specs.FinMap.{IsAntisymmetric, put, find}
use Rattle.std.specs.FinMap.Entries.{by_order, below_all, find-put, is_sorted, same_entries}
use Rattle.qstore_tree.specs.InOrder.{in_order}

-- the two words for putting an entry into a list in order
pub put_insert : {K X : Type 0} (R : K → K → Ordering) (k : K) (v : X) (es : List (K × X)) → put R k v es ≡ insert_entry R es k v
put_insert R k v [] = refl
put_insert R k v (e ∷ es) =
    elim (R k e.0) as (λ r. by_order r ((k, v) ∷ e ∷ es) ((e.0, v) ∷ es) (e ∷ put R k v es)
    ≡ match_ordering r ((k, v) ∷ e ∷ es) ((e.0, v) ∷ es) (e ∷ insert_entry R es k v)) [
      | Less ↦ refl
      | Equal ↦ refl
      | Greater ↦ ap (λ t. e ∷ t) (put_insert R k v es)
    ]

-- the two words for looking up
pub find_lookup : {K X : Type 0} (R : K → K → Ordering) (q : K) (es : List (K × X)) → find R q es ≡ lookup (eq_by_cmp R q) es
find_lookup R q [] = refl
find_lookup R q (e ∷ es) = ap (cond (eq_by_cmp R q e.0) (Some e.1)) (find_lookup R q es)

-- the parts of a test of two
pub first_of : (a b : Bool) → T (a && b) → T a
first_of true b p = tt
first_of false b p = p

pub second_of : (a b : Bool) → T (a && b) → T b
second_of true b p = p
second_of false b p = absurd p

-- two tests that hold
pub both_of : (a b : Bool) → T a → T b → T (a && b)
both_of true b p q = q
both_of false b p q = p

-- the test for `Less`
pub less_from : (r : Ordering) → T (is_lt r) → r ≡ Less
less_from Less p = refl
less_from Equal p = absurd p
less_from Greater p = absurd p

-- the two words for being in order
strictly_below : {K X : Type 0} (R : K → K → Ordering) (x : K) (es : List (K × X)) → T (below_all R x es) → AllByRecursion (λ y. R x y ≡ Less) (keys_of es)
strictly_below R x [] h = tt
strictly_below R x (e ∷ es) h = (less_from (R x e.0) (first_of _ _ h), strictly_below R x es (second_of _ _ h))

pub strictly : {K X : Type 0} (R : K → K → Ordering) (es : List (K × X)) → T (is_sorted R es) → IsStrictlySortedBy R (keys_of es)
unfolding IsStrictlySortedBy
strictly R [] h = tt
strictly R (e ∷ es) h = (strictly_below R e.0 es (first_of _ _ h), strictly R es (second_of _ _ h))

all_below : {K X : Type 0} (R : K → K → Ordering) (x : K) (es : List (K × X)) → AllByRecursion (λ y. R x y ≡ Less) (keys_of es) → T (below_all R x es)
all_below R x [] h = tt
all_below R x (e ∷ es) h = both_of _ _ (subst (λ r. T (is_lt r)) (sym h.0) tt) (all_below R x es h.1)

-- what is in order by the kit's word passes the test for it
pub sorted_from : {K X : Type 0} (R : K → K → Ordering) (es : List (K × X)) → IsStrictlySortedBy R (keys_of es) → T (is_sorted R es)
unfolding IsStrictlySortedBy
sorted_from R [] h = tt
sorted_from R (e ∷ es) h = both_of _ _ (all_below R e.0 es h.0) (sorted_from R es h.1)

-- to put a value at a key that is there is to set it
set_insert : {K X : Type 0} {R : K → K → Ordering} (o : IsTotalOrder R) (es : List (K × X)) (k : K) (v : X)
    → T (is_sorted R es) → IsSome (lookup (is_at (R k)) es)
    → insert_entry R es k v ≡ set_value (is_at (R k)) es v
set_insert o [] k v h some = cc
set_insert {R = R} o (e ∷ es) k v h some =
    elim (R k e.0) as (λ r. R k e.0 ≡ r → IsSome (cond (is_eq r) (Some e.1) (lookup (is_at (R k)) es))
    → match_ordering r ((k, v) ∷ e ∷ es) ((e.0, v) ∷ es) (e ∷ insert_entry R es k v)
    ≡ cond (is_eq r) ((e.0, v) ∷ es) (e ∷ set_value (is_at (R k)) es v)) [
      | Less ↦ λ p there. let none = lookup-none (is_at (R k)) es (none_below_head o k e es (strictly R (e ∷ es) h) p).1 in cc
      | Equal ↦ λ p there. refl
      | Greater ↦ λ p there. ap (λ t. e ∷ t) (set_insert o es k v (second_of _ _ h) there)
    ] refl some

-- what is in order is without any of its entries
below-remove : {K X : Type 0} (R : K → K → Ordering) (x : K) (test : K → Bool) (es : List (K × X))
    → T (below_all R x es) → T (below_all R x (remove_entry test es))
below-remove R x test [] h = tt
below-remove R x test (e ∷ es) h =
    elim (test e.0) as (λ b. T (below_all R x (cond b es (e ∷ remove_entry test es)))) [
      | true ↦ second_of _ _ h
      | false ↦ both_of _ _ (first_of _ _ h) (below-remove R x test es (second_of _ _ h))
    ]

sorted-remove : {K X : Type 0} (R : K → K → Ordering) (test : K → Bool) (es : List (K × X)) → T (is_sorted R es) → T (is_sorted R (remove_entry test es))
sorted-remove R test [] h = tt
sorted-remove R test (e ∷ es) h =
    elim (test e.0) as (λ b. T (is_sorted R (cond b es (e ∷ remove_entry test es)))) [
      | true ↦ second_of _ _ h
      | false ↦ both_of _ _ (below-remove R e.0 test es (first_of _ _ h)) (sorted-remove R test es (second_of _ _ h))
    ]

module _ {K X : Type 0} {R : K → K → Ordering} (o : IsTotalOrder R) (same : IsAntisymmetric R) where
  -- lists in order that answer alike are one list
  pub same_sorted : (es fs : List (K × X)) → T (is_sorted R es) → T (is_sorted R fs)
      → ((q : K) → lookup (eq_by_cmp R q) es ≡ lookup (eq_by_cmp R q) fs) → es ≡ fs
  same_sorted es fs a b is = same_entries R o same es fs a b (λ q. find_lookup R q es ∙ is q ∙ sym (find_lookup R q fs))

  -- a look-up does not see the order
  pub lookup-in_order : (es : List (K × X)) (q : K) → lookup (eq_by_cmp R q) (in_order R es) ≡ lookup (eq_by_cmp R q) es
  lookup-in_order es q = sym (find_lookup R q (in_order R es)) ∙ sym (map.get-entries (map.from_entries es) q)
      ∙ map.get-from_entries o es q ∙ find_lookup R q es

  -- the entries in order are in order, by the test for it
  pub sorted-in_order : (es : List (K × X)) → T (is_sorted R (in_order R es))
  sorted-in_order es = map.entries_sorted (map.from_entries es)

  -- the same by the kit's word
  pub strictly-in_order : (es : List (K × X)) → IsStrictlySortedBy R (keys_of (in_order R es))
  strictly-in_order es = strictly R (in_order R es) (sorted-in_order es)

  -- what is in order stays as it is
  pub in_order-sorted : (es : List (K × X)) → T (is_sorted R es) → in_order R es ≡ es
  in_order-sorted es h = same_sorted (in_order R es) es (sorted-in_order es) h (lookup-in_order es)

  -- lists that answer alike are one list in order
  pub in_order-same : (es fs : List (K × X)) → ((q : K) → lookup (eq_by_cmp R q) es ≡ lookup (eq_by_cmp R q) fs) → in_order R es ≡ in_order R fs
  in_order-same es fs is = same_sorted (in_order R es) (in_order R fs) (sorted-in_order es)
      (sorted-in_order fs) (λ q. lookup-in_order es q ∙ is q ∙ sym (lookup-in_order fs q))

  -- a list in order that has v at k and else answers as es does is es with k put in its slot
  pub sorted-insert : (es fs : List (K × X)) (k : K) (v : X) → T (is_sorted R es) → T (is_sorted R fs)
      → ((q : K) → lookup (eq_by_cmp R q) fs ≡ cond (eq_by_cmp R k q) (Some v) (lookup (eq_by_cmp R q) es))
      → fs ≡ insert_entry R es k v
  sorted-insert es fs k v a b is =
      sym (in_order-sorted fs b)
      ∙ ap map.entries (map.same_map o same (map.from_entries fs) (map.insert (map.from_entries es) k v)
      (λ q. map.get-from_entries o fs q ∙ find_lookup R q fs ∙ is q
      ∙ ap (λ b. cond b (Some v) (lookup (eq_by_cmp R q) es)) ((eq_by_cmp_equiv o).symm k q)
      ∙ ap (cond (eq_by_cmp R q k) (Some v)) (sym (map.get-from_entries o es q ∙ find_lookup R q es)) ∙ sym (map.get-insert o (map.from_entries es) k v q)))
      ∙ map.entries-insert o (map.from_entries es) k v ∙ put_insert R k v (in_order R es) ∙ ap (λ xs. insert_entry R xs k v) (in_order-sorted es a)

  -- what has v at k and else answers as es does is in order es with k put in its slot
  pub in_order-insert : (es fs : List (K × X)) (k : K) (v : X)
      → ((q : K) → lookup (eq_by_cmp R q) fs ≡ cond (eq_by_cmp R k q) (Some v) (lookup (eq_by_cmp R q) es))
      → in_order R fs ≡ insert_entry R (in_order R es) k v
  in_order-insert es fs k v is =
      sorted-insert (in_order R es) (in_order R fs) k v (sorted-in_order es) (sorted-in_order fs)
      (λ q. lookup-in_order fs q ∙ is q
      ∙ ap (cond (eq_by_cmp R k q) (Some v)) (sym (lookup-in_order es q)))

  -- the same where the key is there
  pub in_order-set : (es fs : List (K × X)) (k : K) (v : X) → IsSome (lookup (eq_by_cmp R k) es)
      → ((q : K) → lookup (eq_by_cmp R q) fs ≡ cond (eq_by_cmp R k q) (Some v) (lookup (eq_by_cmp R q) es))
      → in_order R fs ≡ set_value (is_at (R k)) (in_order R es) v
  in_order-set es fs k v there is = in_order-insert es fs k v is
      ∙ set_insert o (in_order R es) k v (sorted-in_order es)
      (subst IsSome (sym (lookup-in_order es k)) there)

  -- a look-up in a list in order, without the entry at k
  pub lookup-taken : (es : List (K × X)) (k q : K) → T (is_sorted R es)
      → lookup (eq_by_cmp R q) (remove_entry (is_at (R k)) es) ≡ cond (eq_by_cmp R k q) None (lookup (eq_by_cmp R q) es)
  lookup-taken es k q h =
      lookup-remove_entry (eq_by_cmp_equiv o) (is_at (R k)) (λ x y at. (eq_by_cmp_equiv o).congr k x y at) q es
      (IsDistinct-from_sorted R (keys_of es) (strictly R es h))

  -- a list in order that has nothing at k and else answers as es does is es without the entry at k
  pub sorted-taken : (es fs : List (K × X)) (k : K) → T (is_sorted R es) → T (is_sorted R fs)
      → ((q : K) → lookup (eq_by_cmp R q) fs ≡ cond (eq_by_cmp R k q) None (lookup (eq_by_cmp R q) es))
      → fs ≡ remove_entry (is_at (R k)) es
  sorted-taken es fs k a b is = same_sorted fs (remove_entry (is_at (R k)) es) b (sorted-remove R (is_at (R k)) es a)
      (λ q. is q ∙ sym (lookup-taken es k q a))

  -- what has nothing at k and else answers as es does is in order es without the entry at k
  pub in_order-taken : (es fs : List (K × X)) (k : K)
      → ((q : K) → lookup (eq_by_cmp R q) fs ≡ cond (eq_by_cmp R k q) None (lookup (eq_by_cmp R q) es))
      → in_order R fs ≡ remove_entry (is_at (R k)) (in_order R es)
  in_order-taken es fs k is =
      sorted-taken (in_order R es) (in_order R fs) k (sorted-in_order es) (sorted-in_order fs)
      (λ q. lookup-in_order fs q ∙ is q ∙ ap (cond (eq_by_cmp R k q) None) (sym (lookup-in_order es q)))

  -- a look-up after an entry is put in its slot
  pub lookup-insert : (k : K) (v : X) (acc : List (K × X)) (q : K)
      → lookup (eq_by_cmp R q) (insert_entry R acc k v)
      ≡ cond (eq_by_cmp R q k) (Some v) (lookup (eq_by_cmp R q) acc)
  lookup-insert k v acc q =
      sym (find_lookup R q (insert_entry R acc k v)) ∙ ap (find R q) (sym (put_insert R k v acc)) ∙ find-put R o q k v acc
      ∙ ap (cond (eq_by_cmp R q k) (Some v)) (find_lookup R q acc)
