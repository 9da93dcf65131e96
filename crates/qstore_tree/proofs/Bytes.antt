-- A directory's names: a table's keys are texts, which contracts see as their bytes.
use Rattle.std.proofs.Common.{◌≡◌, ℕ, Bool, true, false, cond, List, [], ◌∷◌, Option, Some, refl, sym, ap, ◌∙◌, nat_eq, String, string_bytes}
use Rattle.std.specs.Ordering.{nat_cmp, eq_by_cmp}
use Rattle.std.specs.Cmp.{eq_by_cmp_equiv, unsigned_ties}
use Rattle.std.specs.Cmp.Lexicographic.{pointwise, slice_cmp, lists_ties, nat_list_cmp_total}
use Rattle.std.specs.BTreeMap.{insert_entry, is_at}
use Rattle.std.specs.List.{AllByRecursion, IsDistinct}
use Rattle.std.specs.List.Sorted.{IsStrictlySortedBy}
use Rattle.std.specs.Map.{AreApart, IsKeyTest, KeepsOthers, keys_of, lookup}
use Rattle.std.specs.HashMap as hash
use Rattle.std.specs.HashMap.{HashMap}
use Rattle.std.proofs.lemmas.Map.Lookups.{exact_bytes}
use Rattle.qstore_tree.specs.InOrder.{keyed_by}
use Rattle.qstore_tree.specs.Names.{names_of}
use Rattle.qstore_tree.proofs.InOrder.{in_order-insert, in_order-same, in_order-sorted, lookup-in_order, strictly-in_order}
use Rattle.qstore_tree.proofs.Read.{lookup-agree, lookup-keyed_by, tests_agree}

-- two names of the same bytes
abbrev pub bytes_tie : List ℕ → List ℕ → Bool
bytes_tie = eq_by_cmp (slice_cmp nat_cmp)

-- two texts of the same bytes, as a table compares them
abbrev pub text_eq : {A : Type 0} → String A → String A → Bool
text_eq x y = pointwise nat_eq (string_bytes x) (string_bytes y)

-- the tables' equality is the tie of the order
pub bytes_ties : (x y : List ℕ) → pointwise nat_eq x y ≡ bytes_tie x y
bytes_ties = lists_ties nat_cmp unsigned_ties

-- an empty table has no name
pub names_of-none : {A : Type 0} {es : List (String A × ℕ)} → es ≡ [] → names_of es ≡ []
names_of-none none = ap names_of none ∙ in_order-sorted nat_list_cmp_total exact_bytes [] tt

module _ {A : Type 0} where
  -- whether a text has these bytes
  abbrev pub has_bytes : List ℕ → String A → Bool
  has_bytes name x = bytes_tie name (string_bytes x)

  -- the same as a table asks it
  abbrev pub has_text : List ℕ → String A → Bool
  has_text name x = pointwise nat_eq name (string_bytes x)

  key_test : (name : List ℕ) → IsKeyTest (text_eq {A = A}) (has_bytes name)
  key_test name x y passes = (eq_by_cmp_equiv nat_list_cmp_total).congr name (string_bytes x) (string_bytes y) passes ∙ sym
      (bytes_ties (string_bytes x) (string_bytes y))

  apart : (name bytes : List ℕ) → bytes_tie bytes name ≡ false → AreApart (has_text bytes) (has_bytes name)
  apart name bytes differs x is =
      (eq_by_cmp_equiv nat_list_cmp_total).symm name (string_bytes x)
      ∙ sym ((eq_by_cmp_equiv nat_list_cmp_total).congr bytes (string_bytes x) name (sym (bytes_ties bytes (string_bytes x)) ∙ is))
      ∙ differs

  others_keep : {X : Type 0} (test other : String A → Bool) (es fs : List (String A × X))
      → KeepsOthers text_eq test es fs → IsKeyTest text_eq other → AreApart test other
      → lookup other fs ≡ lookup other es
  unfolding KeepsOthers
  others_keep test other es fs keeps = keeps other

  -- a name is found where a text has its bytes
  pub names_of-get : (es : List (String A × ℕ)) (name : List ℕ)
      → lookup (is_at (slice_cmp nat_cmp name)) (names_of es) ≡ lookup (λ k. pointwise nat_eq name (string_bytes k)) es
  names_of-get es name =
      lookup-in_order nat_list_cmp_total exact_bytes (keyed_by string_bytes es) name ∙ lookup-keyed_by string_bytes (bytes_tie name) es
      ∙ lookup-agree (has_bytes name) (λ k. pointwise nat_eq name (string_bytes k)) (λ k. sym (bytes_ties name (string_bytes k))) es

  -- tables that answer alike have the same names
  pub names_of-same : {S : Type 0} (m n : HashMap (String A) ℕ S)
      → ((k : String A) → hash.get text_eq n k ≡ hash.get text_eq m k) → names_of n.entries ≡ names_of m.entries
  names_of-same m n is = in_order-same nat_list_cmp_total exact_bytes _ _ (λ name.
      lookup-keyed_by string_bytes (bytes_tie name) n.entries
      ∙ tests_agree text_eq (has_bytes name) (key_test name) m.entries n.entries is
      ∙ sym (lookup-keyed_by string_bytes (bytes_tie name) m.entries))

  -- a query for a name after a change at some bytes, by whether they are the name's
  queried : {S : Type 0} (m n : HashMap (String A) ℕ S) (bytes : List ℕ) (w : Option ℕ) (name : List ℕ)
      → hash.UpdatesBy text_eq (has_text bytes) m n w → (b : Bool) → bytes_tie bytes name ≡ b
      → lookup (has_bytes name) n.entries ≡ cond b w (lookup (has_bytes name) m.entries)
  queried m n bytes w name u true is =
      lookup-agree (has_bytes name) (has_text bytes) (λ y. sym ((eq_by_cmp_equiv nat_list_cmp_total).congr bytes name (string_bytes y) is)
      ∙ sym (bytes_ties bytes (string_bytes y))) n.entries ∙ u.1
  queried m n bytes w name u false is = others_keep (has_text bytes) (has_bytes name) m.entries n.entries u.3 (key_test name) (apart name bytes is)

  -- what a name leads to after a change at some bytes
  pub names_of-changed : {S : Type 0} (m n : HashMap (String A) ℕ S) (bytes : List ℕ) (w : Option ℕ)
      → hash.UpdatesBy text_eq (has_text bytes) m n w → (name : List ℕ)
      → lookup (is_at (slice_cmp nat_cmp name)) (names_of n.entries)
      ≡ cond (bytes_tie bytes name) w (lookup (is_at (slice_cmp nat_cmp name)) (names_of m.entries))
  names_of-changed m n bytes w u name =
      lookup-in_order nat_list_cmp_total exact_bytes (keyed_by string_bytes n.entries) name
      ∙ lookup-keyed_by string_bytes (bytes_tie name) n.entries
      ∙ queried m n bytes w name u (bytes_tie bytes name) refl
      ∙ ap (cond (bytes_tie bytes name) w) (sym (lookup-in_order nat_list_cmp_total exact_bytes (keyed_by string_bytes m.entries) name
      ∙ lookup-keyed_by string_bytes (bytes_tie name) m.entries))

  -- a put in the table puts the name in its slot
  pub names_of-insert : {S : Type 0} (m n : HashMap (String A) ℕ S) (k : String A) (v : ℕ)
      → hash.Updates text_eq m n k (Some v)
      → names_of n.entries ≡ insert_entry (slice_cmp nat_cmp) (names_of m.entries) (string_bytes k) v
  names_of-insert m n k v u = in_order-insert nat_list_cmp_total exact_bytes _ _ (string_bytes k) v (λ name.
      lookup-keyed_by string_bytes (bytes_tie name) n.entries
      ∙ queried m n (string_bytes k) (Some v) name u (bytes_tie (string_bytes k) name) refl
      ∙ ap (cond (bytes_tie (string_bytes k) name) (Some v)) (sym (lookup-keyed_by string_bytes (bytes_tie name) m.entries)))

distinct_past : {K L X : Type 0} (f : K → L) (eq : L → L → Bool) (k : K) (es : List (K × X))
    → AllByRecursion (λ y. eq (f k) (f y) ≡ false) (keys_of es)
    → AllByRecursion (λ y. eq (f k) y ≡ false) (keys_of (keyed_by f es))
distinct_past f eq k [] h = tt
distinct_past f eq k (e ∷ es) h = (h.0, distinct_past f eq k es h.1)

-- keys that f tells apart are distinct as f makes them
pub distinct-keyed_by : {K L X : Type 0} (f : K → L) (eq : L → L → Bool) (es : List (K × X))
    → IsDistinct (λ x y. eq (f x) (f y)) (keys_of es) → IsDistinct eq (keys_of (keyed_by f es))
unfolding IsDistinct
distinct-keyed_by f eq [] d = tt
distinct-keyed_by f eq (e ∷ es) d = (distinct_past f eq e.0 es d.0, distinct-keyed_by f eq es d.1)

-- a table's names are in order
pub names_of-order : {A : Type 0} (es : List (String A × ℕ)) → IsStrictlySortedBy (slice_cmp nat_cmp) (keys_of (names_of es))
names_of-order es = strictly-in_order nat_list_cmp_total exact_bytes (keyed_by string_bytes es)
