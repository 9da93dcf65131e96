-- What a sort leaves: its elements read by a function are in order, and names in order by their bytes.
use Rattle.std.proofs.Common.{◌≡◌, ℕ, ◌+◌, ◌<◌, false, List, [], ◌∷◌, length, map, get_or, Bor, String, string_bytes, nat_eq, refl, ap, subst, arith}
use Rattle.std.specs.declared.cmp.Ordering.{Ordering}
use Rattle.std.specs.declared.cmp.Ordering.TheVariants.{Less, Equal, Greater}
use Rattle.std.specs.Ordering.{is_lt, nat_cmp, ordering_then}
use Rattle.std.specs.Cmp.Lexicographic.{nat_list_cmp_total, pointwise, slice_cmp}
use Rattle.std.specs.List.{IsDistinct}
use Rattle.std.specs.List.Sorted.{IsPermutation, IsSorted}
use Rattle.std.specs.Map.{keys_of}
use Rattle.std.specs.String.{string_cmp}
use Rattle.std.proofs.lemmas.List.{get_or-map, length-map, map-id}
use Rattle.std.proofs.lemmas.List.Sorted.{IsPermutation-sym}
use Rattle.std.proofs.lemmas.Map.Lookups.{exact_bytes}
use Rattle.qstore_tree.specs.InOrder.{keyed_by}
use Rattle.qstore_tree.specs.Names.{borrowed_entry, names_of}
use Rattle.qstore_tree.proofs.Bytes.{bytes_ties, distinct-keyed_by, text_eq}
use Rattle.qstore_tree.proofs.Shuffled.{map-shuffled}

-- what is in order is so by what a function reads, where the order that it was put in says as much
pub sorted-map : {X K : Type 0} (cmp : X → X → Ordering) (R : K → K → Ordering) (f : X → K)
    → ((x y : X) → is_lt (cmp x y) ≡ false → is_lt (R (f x) (f y)) ≡ false) → (xs : List X) → IsSorted cmp xs → IsSorted R (map f xs)
sorted-map cmp R f says [] up k d low lt = absurd (omega (arith, lt))
sorted-map cmp R f says (x ∷ xs) up k d low lt =
    let within : k + 1 < length (x ∷ xs) = rw length-map at lt in
    let first : get_or (map f (x ∷ xs)) k d ≡ f (get_or (x ∷ xs) k x) = get_or-map f (x ∷ xs) k x d (omega arith) in
    let second : get_or (map f (x ∷ xs)) (k + 1) d ≡ f (get_or (x ∷ xs) (k + 1) x) = get_or-map f (x ∷ xs) (k + 1) x d within in
    rw (first, second) (says _ _ (up k x low within))

-- what comes first is not less, where the whole is not
first_not_less : (a b : Ordering) → is_lt (ordering_then a b) ≡ false → is_lt a ≡ false
first_not_less Less b h = h
first_not_less Equal b h = refl
first_not_less Greater b h = refl

module _ {A : Type 0} where
  -- the order of names that are borrowed, with their numbers
  abbrev pub borrowed_cmp : Bor (String A) × ℕ → Bor (String A) × ℕ → Ordering
  borrowed_cmp x y = ordering_then (string_cmp x.0.now y.0.now) (nat_cmp x.1 y.1)

  keys_of-borrowed : (names : List (Bor (String A) × ℕ)) → map (λ n. string_bytes n.0.now) names ≡ keys_of (map borrowed_entry names)
  keys_of-borrowed [] = refl
  keys_of-borrowed (n ∷ names) = ap (λ ks. string_bytes n.0.now ∷ ks) (keys_of-borrowed names)

  -- names that are in order are so by their bytes
  pub sorted-borrowed : (names : List (Bor (String A) × ℕ)) → IsSorted borrowed_cmp names → IsSorted (slice_cmp nat_cmp) (keys_of (map borrowed_entry names))
  sorted-borrowed names up =
      subst (IsSorted (slice_cmp nat_cmp)) (keys_of-borrowed names)
      (sorted-map borrowed_cmp (slice_cmp nat_cmp) (λ n. string_bytes n.0.now)
      (λ x y h. first_not_less (string_cmp x.0.now y.0.now) (nat_cmp x.1 y.1) h) names up)

  -- an entry of a table, as contracts see it
  abbrev pub text_entry : String A × ℕ → List ℕ × ℕ
  text_entry e = (string_bytes e.0, e.1)

  texts-each : (es : List (String A × ℕ)) → map (λ e. e) (keyed_by string_bytes es) ≡ map text_entry es
  texts-each [] = refl
  texts-each (e ∷ es) = ap (λ l. text_entry e ∷ l) (texts-each es)

  -- the names in a table are its entries, in another order
  pub table_names : (es : List (String A × ℕ)) → IsDistinct (text_eq {A = A}) (keys_of es) → IsPermutation (names_of es) (map text_entry es)
  table_names es d =
      subst (IsPermutation (names_of es)) (texts-each es)
      (subst (λ l. IsPermutation l (map (λ e. e) (keyed_by string_bytes es))) (map-id (names_of es))
      (IsPermutation-sym _ _ (map-shuffled nat_list_cmp_total exact_bytes (λ e. e) bytes_ties (keyed_by string_bytes es)
      (distinct-keyed_by string_bytes (pointwise nat_eq) es d))))
