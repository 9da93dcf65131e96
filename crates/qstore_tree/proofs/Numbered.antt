-- Tables by number, with their values read by a function: what contracts see of them, before and after a change.
use Rattle.std.proofs.Common.{◌≡◌, ℕ, Bool, true, false, cond, List, [], ◌∷◌, Some, None, T, refl, sym, ap, ◌∙◌, subst, nat_eq}
use Rattle.std.specs.Ordering.{nat_cmp, eq_by_cmp}
use Rattle.std.specs.Cmp.{nat_cmp_total, unsigned_ties}
use Rattle.std.specs.FinMap.{nat_cmp-IsAntisymmetric}
use Rattle.std.specs.FinMap.Entries.{below_all, is_sorted}
use Rattle.std.specs.BTreeMap.{insert_entry, is_at}
use Rattle.std.specs.List.Sorted.{IsStrictlySortedBy}
use Rattle.std.specs.Map.{keys_of, lookup, remove_entry, set_value}
use Rattle.std.specs.Option.{IsSome, option_map}
use Rattle.std.proofs.lemmas.Bool.{eqb-true}
use Rattle.qstore_tree.specs.InOrder.{in_order, read_by}
use Rattle.qstore_tree.proofs.InOrder.{both_of, first_of, in_order-insert, in_order-set, in_order-taken, lookup-in_order, same_sorted, second_of, sorted-in_order, strictly-in_order}
use Rattle.qstore_tree.proofs.Read.{lookup-agree, lookup-read_by, read_by-insert, read_by-remove, read_by-set}

-- the second list answers v at k, and else as the first
pub record IsPut {X : Type 0} (es fs : List (ℕ × X)) (k : ℕ) (v : X) : Type 0 where
  pub at : (q : ℕ) → lookup (nat_eq q) fs ≡ cond (nat_eq k q) (Some v) (lookup (nat_eq q) es)

-- the second list answers nothing at k, and else as the first
pub record IsTaken {X : Type 0} (es fs : List (ℕ × X)) (k : ℕ) : Type 0 where
  pub at : (q : ℕ) → lookup (nat_eq q) fs ≡ cond (nat_eq k q) None (lookup (nat_eq q) es)

-- look-ups by equality and by order
ties : {X : Type 0} (es : List (ℕ × X)) (q : ℕ) → lookup (eq_by_cmp nat_cmp q) es ≡ lookup (nat_eq q) es
ties es q = sym (lookup-agree (nat_eq q) (eq_by_cmp nat_cmp q) (unsigned_ties q) es)

module _ {X : Type 0} where
  -- a look-up in the table by number
  pub numbered-get : (es : List (ℕ × X)) (k : ℕ) → lookup (eq_by_cmp nat_cmp k) (in_order nat_cmp es) ≡ lookup (nat_eq k) es
  numbered-get es k = lookup-in_order nat_cmp_total nat_cmp-IsAntisymmetric es k ∙ ties es k

  -- the table by number is in order
  pub numbered-sorted : (es : List (ℕ × X)) → T (is_sorted nat_cmp (in_order nat_cmp es))
  numbered-sorted es = sorted-in_order nat_cmp_total nat_cmp-IsAntisymmetric es

  put_at : (es fs : List (ℕ × X)) (k : ℕ) (v : X) → IsPut es fs k v → (q : ℕ)
      → lookup (eq_by_cmp nat_cmp q) fs
      ≡ cond (eq_by_cmp nat_cmp k q) (Some v) (lookup (eq_by_cmp nat_cmp q) es)
  put_at es fs k v put q =
      ties fs q ∙ put.at q ∙ ap (λ b. cond b (Some v) (lookup (nat_eq q) es)) (unsigned_ties k q)
      ∙ ap (cond (eq_by_cmp nat_cmp k q) (Some v)) (sym (ties es q))

  taken_at : (es fs : List (ℕ × X)) (k : ℕ) → IsTaken es fs k → (q : ℕ)
      → lookup (eq_by_cmp nat_cmp q) fs ≡ cond (eq_by_cmp nat_cmp k q) None (lookup (eq_by_cmp nat_cmp q) es)
  taken_at es fs k taken q =
      ties fs q ∙ taken.at q ∙ ap (λ b. cond b None (lookup (nat_eq q) es)) (unsigned_ties k q)
      ∙ ap (cond (eq_by_cmp nat_cmp k q) None) (sym (ties es q))

below-read_by : {X Y : Type 0} (f : X → Y) (k : ℕ) (es : List (ℕ × X)) → T (below_all nat_cmp k es) → T (below_all nat_cmp k (read_by f es))
below-read_by f k [] h = tt
below-read_by f k (e ∷ es) h = both_of _ _ (first_of _ _ h) (below-read_by f k es (second_of _ _ h))

-- values read from entries in order are in order
pub sorted-read_by : {X Y : Type 0} (f : X → Y) (es : List (ℕ × X)) → T (is_sorted nat_cmp es) → T (is_sorted nat_cmp (read_by f es))
sorted-read_by f [] h = tt
sorted-read_by f (e ∷ es) h = both_of _ _ (below-read_by f e.0 es (first_of _ _ h)) (sorted-read_by f es (second_of _ _ h))

-- values that are read stand under the same keys
keys_of-read_by : {X Y : Type 0} (f : X → Y) (es : List (ℕ × X)) → keys_of (read_by f es) ≡ keys_of es
keys_of-read_by f [] = refl
keys_of-read_by f (e ∷ es) = ap (λ ks. e.0 ∷ ks) (keys_of-read_by f es)

-- what is seen of a table by number stands in the order of the numbers
pub seen-by_number : {X Y : Type 0} (f : X → Y) (es : List (ℕ × X)) → IsStrictlySortedBy nat_cmp (keys_of (read_by f (in_order nat_cmp es)))
seen-by_number f es = subst (IsStrictlySortedBy nat_cmp) (sym (keys_of-read_by f (in_order nat_cmp es)))
    (strictly-in_order nat_cmp_total nat_cmp-IsAntisymmetric es)

module _ {X Y : Type 0} (f : X → Y) where
  -- what a contract sees at a number
  pub seen-get : (es : List (ℕ × X)) (k : ℕ) → lookup (is_at (nat_cmp k)) (read_by f (in_order nat_cmp es)) ≡ option_map f (lookup (nat_eq k) es)
  seen-get es k = lookup-read_by f (eq_by_cmp nat_cmp k) (in_order nat_cmp es) ∙ ap (option_map f) (numbered-get es k)

  -- tables of which the function sees the same at each number
  pub seen-same : (es fs : List (ℕ × X))
      → ((q : ℕ) → option_map f (lookup (nat_eq q) fs) ≡ option_map f (lookup (nat_eq q) es))
      → read_by f (in_order nat_cmp fs) ≡ read_by f (in_order nat_cmp es)
  seen-same es fs is = same_sorted nat_cmp_total nat_cmp-IsAntisymmetric _ _
      (sorted-read_by f (in_order nat_cmp fs) (numbered-sorted fs))
      (sorted-read_by f (in_order nat_cmp es) (numbered-sorted es)) (λ q. seen-get fs q ∙ is q
      ∙ sym (seen-get es q))

  -- a put where nothing was
  pub seen-insert : (es fs : List (ℕ × X)) (k : ℕ) (v : X) → IsPut es fs k v
      → read_by f (in_order nat_cmp fs) ≡ insert_entry nat_cmp (read_by f (in_order nat_cmp es)) k (f v)
  seen-insert es fs k v put =
      ap (read_by f) (in_order-insert nat_cmp_total nat_cmp-IsAntisymmetric es fs k v (put_at es fs k v put))
      ∙ read_by-insert f nat_cmp (in_order nat_cmp es) k v

  -- a put in the slot of another value
  pub seen-set : (es fs : List (ℕ × X)) (k : ℕ) (u v : X) → lookup (nat_eq k) es ≡ Some u → IsPut es fs k v
      → read_by f (in_order nat_cmp fs) ≡ set_value (is_at (nat_cmp k)) (read_by f (in_order nat_cmp es))
      (f v)
  seen-set es fs k u v was put =
      ap (read_by f) (in_order-set nat_cmp_total nat_cmp-IsAntisymmetric es fs k v
      (subst IsSome (sym (ties es k ∙ was)) refl) (put_at es fs k v put))
      ∙ read_by-set f (is_at (nat_cmp k)) (in_order nat_cmp es) v

  -- an entry that is taken out
  pub seen-taken : (es fs : List (ℕ × X)) (k : ℕ) → IsTaken es fs k
      → read_by f (in_order nat_cmp fs) ≡ remove_entry (is_at (nat_cmp k)) (read_by f (in_order nat_cmp es))
  seen-taken es fs k taken =
      ap (read_by f) (in_order-taken nat_cmp_total nat_cmp-IsAntisymmetric es fs k (taken_at es fs k taken))
      ∙ read_by-remove f (is_at (nat_cmp k)) (in_order nat_cmp es)

  -- by whether the number is the one put
  kept_at : (es fs : List (ℕ × X)) (k : ℕ) (u v : X) → lookup (nat_eq k) es ≡ Some u → f v ≡ f u
      → IsPut es fs k v → (q : ℕ) (b : Bool) → nat_eq k q ≡ b
      → option_map f (lookup (nat_eq q) fs) ≡ option_map f (lookup (nat_eq q) es)
  kept_at es fs k u v was same put q true is =
      ap (option_map f) (put.at q ∙ ap (λ b. cond b (Some v) (lookup (nat_eq q) es)) is) ∙ ap Some same
      ∙ ap (option_map f) (sym was) ∙ ap (λ x. option_map f (lookup (nat_eq x) es)) (eqb-true k q is)
  kept_at es fs k u v was same put q false is = ap (option_map f) (put.at q ∙ ap (λ b. cond b (Some v) (lookup (nat_eq q) es)) is)

  -- a put of what the function sees alike changes nothing that it sees
  pub seen-kept : (es fs : List (ℕ × X)) (k : ℕ) (u v : X) → lookup (nat_eq k) es ≡ Some u → f v ≡ f u
      → IsPut es fs k v → read_by f (in_order nat_cmp fs) ≡ read_by f (in_order nat_cmp es)
  seen-kept es fs k u v was same put = seen-same es fs (λ q. kept_at es fs k u v was same put q (nat_eq k q) refl)
