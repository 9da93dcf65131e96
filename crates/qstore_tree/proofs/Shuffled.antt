-- What stands in another order: entries in key order are the entries, and of lists with the same entries one is in order.
use Rattle.std.proofs.Common.{◌≡◌, ℕ, ◌+◌, ◌<◌, Bool, true, false, cond, List, [], ◌∷◌, ◌++◌, length, map, flat_map, get_or, Some, None, refl, sym, ap, ◌∙◌, subst, append_assoc, arith}
use Rattle.std.specs.declared.cmp.Ordering.{Ordering}
use Rattle.std.specs.declared.cmp.Ordering.TheVariants.{Less, Equal, Greater}
use Rattle.std.specs.Ordering.{MatchOrdering, eq_by_cmp, is_eq, is_lt, match_ordering, nat_cmp, ordering_reverse}
use Rattle.std.specs.Cmp.{IsTotalOrder, eq_by_cmp_equiv, nat_cmp_total, ranks}
use Rattle.std.specs.FinMap.{IsAntisymmetric, nat_cmp-IsAntisymmetric}
use Rattle.std.specs.BTreeMap.{insert_entry, is_at}
use Rattle.std.specs.List.{IsDistinct}
use Rattle.std.specs.List.Sorted.{IsNonDecreasing, IsNonDecreasingBy, IsPermutation, IsSorted, IsStrictlySortedBy}
use Rattle.std.specs.Map.{keys_of, lookup}
use Rattle.std.proofs.lemmas.List.{get_or-map, length-map}
use Rattle.std.proofs.lemmas.List.Concat.{flat_map_single}
use Rattle.std.proofs.lemmas.List.Sorted.{Contains-permutation, IsPermutation-append_comm, IsPermutation-append_left, IsPermutation-append_right, IsPermutation-map, IsPermutation-refl, IsPermutation-sym, IsPermutation-trans}
use Rattle.std.proofs.lemmas.Map.{lookup-none}
use Rattle.std.proofs.lemmas.Map.Entries.{none_past_head}
use Rattle.std.proofs.lemmas.Map.Keys.{IsDistinct-IsPermutation, IsDistinct-from_sorted, apart_from_distinct, sorted_from_all_adjacent}
use Rattle.std.proofs.lemmas.Map.Views.{Contains-from_lookup, lookup-from_Contains}
use Rattle.qrules.specs.declared.inode_row.InodeRow.{InodeRow}
use Rattle.qstore_tree.specs.InOrder.{in_order}
use Rattle.qstore_tree.proofs.InOrder.{in_order-insert, in_order-sorted, lookup-in_order, same_sorted, sorted_from}

-- lists that are known by other names
renamed : {Y : Type 0} {xs ys us vs : List Y} → xs ≡ us → ys ≡ vs → IsPermutation xs ys → IsPermutation us vs
renamed {xs = xs} {vs = vs} first second p = subst (λ l. IsPermutation l vs) first (subst (IsPermutation xs) second p)

-- the second list goes to the front
to_front : {Y : Type 0} (xs ys zs : List Y) → IsPermutation (xs ++ (ys ++ zs)) (ys ++ (xs ++ zs))
to_front xs ys zs =
    renamed (append_assoc xs ys zs) (append_assoc ys xs zs) (IsPermutation-append_left zs (xs ++ ys) (ys ++ xs) (IsPermutation-append_comm xs ys))

module _ {K X : Type 0} {R : K → K → Ordering} (o : IsTotalOrder R) (same : IsAntisymmetric R) where
  module _ {Y : Type 0} (f : K × X → List Y) where
    -- what entries give, with a new one put in its slot
    insert-shuffled : (es : List (K × X)) (k : K) (v : X) → lookup (is_at (R k)) es ≡ None
        → IsPermutation (flat_map f ((k, v) ∷ es)) (flat_map f (insert_entry R es k v))
    insert-shuffled [] k v none = IsPermutation-refl (flat_map f ((k, v) ∷ []))
    insert-shuffled (e ∷ es) k v none =
        elim (R k e.0) as (λ r. cond (is_eq r) (Some e.1) (lookup (is_at (R k)) es) ≡ None
        → IsPermutation (flat_map f ((k, v) ∷ e ∷ es))
        (flat_map f (match_ordering r ((k, v) ∷ e ∷ es) ((e.0, v) ∷ es) (e ∷ insert_entry R es k v)))) [
          | Less ↦ λ h. IsPermutation-refl (flat_map f ((k, v) ∷ e ∷ es))
          | Equal ↦ λ h. cc
          | Greater ↦ λ h. IsPermutation-trans _ _ _ (to_front (f (k, v)) (f e) (flat_map f es))
              (IsPermutation-append_right (f e) _ _ (insert-shuffled es k v h))
        ] none

    tied-shuffled : (es : List (K × X)) → IsDistinct (eq_by_cmp R) (keys_of es) → IsPermutation (flat_map f es) (flat_map f (in_order R es))
    unfolding IsDistinct
    tied-shuffled [] d = renamed refl (ap (flat_map f) (sym (in_order-sorted o same [] tt))) (IsPermutation-refl [])
    tied-shuffled (e ∷ es) d =
        let none : lookup (is_at (R e.0)) (in_order R es) ≡ None =
        lookup-in_order o same es e.0 ∙ lookup-none (eq_by_cmp R e.0) es (none_past_head (eq_by_cmp_equiv o) e.0 e es d ((eq_by_cmp_equiv o).refl e.0)) in
        let put : in_order R (e ∷ es) ≡ insert_entry R (in_order R es) e.0 e.1 =
        in_order-insert o same es (e ∷ es) e.0 e.1 (λ q. ap (λ b. cond b (Some e.1) (lookup (eq_by_cmp R q) es)) ((eq_by_cmp_equiv o).symm q e.0)) in
        IsPermutation-trans _ _ _ (IsPermutation-append_right (f e) _ _ (tied-shuffled es d.1))
        (renamed refl (ap (flat_map f) (sym put)) (insert-shuffled (in_order R es) e.0 e.1 none))

    -- what distinct entries give is what they give in order, in another order; `eq` is the keys' own equality
    pub in_order-shuffled : {eq : K → K → Bool} → ((x y : K) → eq x y ≡ eq_by_cmp R x y) → (es : List (K × X))
        → IsDistinct eq (keys_of es) → IsPermutation (flat_map f es) (flat_map f (in_order R es))
    in_order-shuffled ties es d = tied-shuffled es (subst (λ e. IsDistinct e (keys_of es)) (λ i x y. ties x y i) d)

  -- the same where each gives one thing
  pub map-shuffled : {Y : Type 0} (f : K × X → Y) {eq : K → K → Bool} → ((x y : K) → eq x y ≡ eq_by_cmp R x y)
      → (es : List (K × X)) → IsDistinct eq (keys_of es) → IsPermutation (map f es) (map f (in_order R es))
  map-shuffled f ties es d =
      renamed (flat_map_single f es) (flat_map_single f (in_order R es)) (in_order-shuffled (λ e. f e ∷ []) ties es d)

-- one of two that differ and of which the second is not less is less
first_less : (a b : Ordering) → a ≡ ordering_reverse b → is_lt b ≡ false → is_eq a ≡ false → a ≡ Less
first_less Less b turned not_less differ = refl
first_less Equal b turned not_less differ = cc
first_less Greater Less turned not_less differ = cc
first_less Greater Equal turned not_less differ = cc
first_less Greater Greater turned not_less differ = cc

-- keys that tie are equal
exact_keys : {K : Type 0} {R : K → K → Ordering} → IsAntisymmetric R → (x y : K) (r : Ordering) → R x y ≡ r → is_eq r ≡ true → x ≡ y
exact_keys same x y Less is tied = cc
exact_keys same x y Equal is tied = same x y is
exact_keys same x y Greater is tied = cc

module _ {K : Type 0} {R : K → K → Ordering} (o : IsTotalOrder R) where
  -- keys that differ and of which none is less than the one before rise
  rising : (ks : List K) → IsSorted R ks → IsDistinct (eq_by_cmp R) ks → IsStrictlySortedBy R ks
  unfolding IsStrictlySortedBy
  rising [] up d = tt
  rising (k ∷ ks) up d = sorted_from_all_adjacent o (k ∷ ks) k (λ i lt.
      first_less _ _ (o.antisymm (get_or (k ∷ ks) i k) (get_or (k ∷ ks) (i + 1) k)) (up i k (omega arith) lt)
      (apart_from_distinct (eq_by_cmp R) (k ∷ ks) i (i + 1) k d (omega arith) lt))

  module _ {X : Type 0} (same : IsAntisymmetric R) where
    -- keys that differ in one order differ in another
    still_apart : (es fs : List (K × X)) → IsPermutation es fs → IsDistinct (eq_by_cmp R) (keys_of es) → IsDistinct (eq_by_cmp R) (keys_of fs)
    still_apart es fs p d =
        IsDistinct-IsPermutation (eq_by_cmp R) (λ x y. (eq_by_cmp_equiv o).symm x y) (keys_of es) (keys_of fs)
        (IsPermutation-map (λ e. e.0) es fs p) d

    -- lists of the same entries answer alike, where the keys differ
    alike : (es fs : List (K × X)) → IsPermutation es fs → IsDistinct (eq_by_cmp R) (keys_of es) → (q : K)
        → lookup (eq_by_cmp R q) es ≡ lookup (eq_by_cmp R q) fs
    alike es fs p d q =
        let tie : (x y : K) → eq_by_cmp R x y ≡ true → x ≡ y = λ x y tied. exact_keys same x y (R x y) refl tied in
        elim (lookup (eq_by_cmp R q) es) as (λ r. lookup (eq_by_cmp R q) es ≡ r → r ≡ lookup (eq_by_cmp R q) fs) [
          | Some v ↦ λ is. sym (lookup-from_Contains (eq_by_cmp_equiv o) q v fs (still_apart es fs p d)
              (Contains-permutation es fs (q, v) p (Contains-from_lookup tie q v es is)))
          | None ↦ λ is. elim (lookup (eq_by_cmp R q) fs) as (λ s. lookup (eq_by_cmp R q) fs ≡ s → None ≡ s) [
            | Some v ↦ λ there. sym is ∙ lookup-from_Contains (eq_by_cmp_equiv o) q v es d
                (Contains-permutation fs es (q, v) (IsPermutation-sym es fs p) (Contains-from_lookup tie q v fs there))
            | None ↦ λ there. refl
          ] refl
        ] refl

    -- of two lists with the same entries, the keys of one rise and those of the other do not fall: they are one
    pub one_order : (es fs : List (K × X)) → IsPermutation es fs → IsStrictlySortedBy R (keys_of es) → IsSorted R (keys_of fs) → fs ≡ es
    one_order es fs p sorted up =
        let apart : IsDistinct (eq_by_cmp R) (keys_of es) = IsDistinct-from_sorted R (keys_of es) sorted in
        same_sorted o same fs es (sorted_from R fs (rising (keys_of fs) up (still_apart es fs p apart))) (sorted_from R es sorted)
        (λ q. sym (alike es fs p apart q))

-- what numbers that do not fall are by the order's test
nowhere_less : (ks : List ℕ) → IsNonDecreasing ks → IsSorted nat_cmp ks
nowhere_less ks up k d low lt =
    let le = up k (k + 1) d (omega arith) lt in
    elim (nat_cmp (get_or ks (k + 1) d) (get_or ks k d)) as (λ r. MatchOrdering r (get_or ks (k + 1) d < get_or ks k d)
    (get_or ks (k + 1) d ≡ get_or ks k d) (get_or ks k d < get_or ks (k + 1) d) → is_lt r ≡ false) [
      | Less ↦ λ less. absurd (omega arith)
      | Equal ↦ λ tied. refl
      | Greater ↦ λ more. refl
    ] (ranks (get_or ks (k + 1) d) (get_or ks k d))

-- numbers of elements that do not fall
falls_nowhere : {X : Type 0} (n : X → ℕ) (xs : List X) → IsNonDecreasingBy n xs → IsNonDecreasing (map n xs)
falls_nowhere n [] up i j d le lt = absurd (omega (arith, lt))
falls_nowhere n (x ∷ xs) up i j d le lt =
    let within : j < length (x ∷ xs) = rw length-map at lt in
    let first : get_or (map n (x ∷ xs)) i d ≡ n (get_or (x ∷ xs) i x) = get_or-map n (x ∷ xs) i x d (omega arith) in
    let second : get_or (map n (x ∷ xs)) j d ≡ n (get_or (x ∷ xs) j x) = get_or-map n (x ∷ xs) j x d within in
    rw (first, second) (up i j x le within)

-- numbers of elements that do not fall are in order
pub numbers-sorted : {X : Type 0} (n : X → ℕ) (xs : List X) → IsNonDecreasingBy n xs → IsSorted nat_cmp (map n xs)
numbers-sorted n xs up = nowhere_less (map n xs) (falls_nowhere n xs up)

-- a row beside its number
abbrev numbered : InodeRow → ℕ × InodeRow
numbered row = (row.ino, row)

rows_alone : (rows : List InodeRow) → map (λ e. e.1) (map numbered rows) ≡ rows
rows_alone [] = refl
rows_alone (row ∷ rows) = ap (λ l. row ∷ l) (rows_alone rows)

numbers_alone : (rows : List InodeRow) → keys_of (map numbered rows) ≡ map (λ row. row.ino) rows
numbers_alone [] = refl
numbers_alone (row ∷ rows) = ap (λ l. row.ino ∷ l) (numbers_alone rows)

-- rows whose numbers do not fall are the rows by number that they are in another order
pub rows-in_order : (wanted rows : List InodeRow) → IsPermutation wanted rows → IsStrictlySortedBy nat_cmp (map (λ row. row.ino) wanted)
    → IsNonDecreasingBy (λ row. row.ino) rows → rows ≡ wanted
rows-in_order wanted rows p sorted up =
    sym (rows_alone rows)
    ∙ ap (map (λ e. e.1)) (one_order nat_cmp_total nat_cmp-IsAntisymmetric (map numbered wanted) (map numbered rows) (IsPermutation-map numbered wanted rows p)
    (subst (IsStrictlySortedBy nat_cmp) (sym (numbers_alone wanted)) sorted)
    (subst (IsSorted nat_cmp) (sym (numbers_alone rows)) (numbers-sorted (λ row. row.ino) rows up)))
    ∙ rows_alone wanted
