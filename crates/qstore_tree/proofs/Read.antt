-- Entries under other keys or with their values read by a function: look-ups and changes of them.
use Rattle.std.proofs.Common.{◌≡◌, Bool, true, false, cond, List, [], ◌∷◌, ◌++◌, Option, Some, None, refl, sym, ap, ◌∙◌}
use Rattle.std.specs.declared.cmp.Ordering.{Ordering}
use Rattle.std.specs.declared.cmp.Ordering.TheVariants.{Less, Equal, Greater}
use Rattle.std.specs.Ordering.{match_ordering}
use Rattle.std.specs.Option.{option_map}
use Rattle.std.specs.BTreeMap.{insert_entry}
use Rattle.std.specs.Map.{IsKeyTest, lookup, remove_entry, set_value}
use Rattle.qstore_tree.specs.InOrder.{keyed_by, read_by}

-- two tests that agree look up alike
pub lookup-agree : {K X : Type 0} (p q : K → Bool) → ((x : K) → p x ≡ q x) → (es : List (K × X)) → lookup p es ≡ lookup q es
lookup-agree p q same [] = refl
lookup-agree p q same (e ∷ es) = ap (λ b. cond b (Some e.1) (lookup p es)) (same e.0) ∙ ap (cond (q e.0) (Some e.1)) (lookup-agree p q same es)

-- a look-up under other keys asks for what they are made of
pub lookup-keyed_by : {K L X : Type 0} (f : K → L) (test : L → Bool) (es : List (K × X)) → lookup test (keyed_by f es) ≡ lookup (λ k. test (f k)) es
lookup-keyed_by f test [] = refl
lookup-keyed_by f test (e ∷ es) = ap (cond (test (f e.0)) (Some e.1)) (lookup-keyed_by f test es)

-- what is not there cannot be set
pub set_none : {K X : Type 0} (test : K → Bool) (es : List (K × X)) (v : X) → lookup test es ≡ None → set_value test es v ≡ es
set_none test [] v none = refl
set_none test (e ∷ es) v none =
    elim (test e.0) as (λ b. cond b (Some e.1) (lookup test es) ≡ None → cond b ((e.0, v) ∷ es) (e ∷ set_value test es v) ≡ e ∷ es) [
      | true ↦ λ h. cc
      | false ↦ λ h. ap (λ t. e ∷ t) (set_none test es v h)
    ] none

-- what is not there cannot be taken out
pub remove_none : {K X : Type 0} (test : K → Bool) (es : List (K × X)) → lookup test es ≡ None → remove_entry test es ≡ es
remove_none test [] none = refl
remove_none test (e ∷ es) none =
    elim (test e.0) as (λ b. cond b (Some e.1) (lookup test es) ≡ None → cond b es (e ∷ remove_entry test es) ≡ e ∷ es) [
      | true ↦ λ h. cc
      | false ↦ λ h. ap (λ t. e ∷ t) (remove_none test es h)
    ] none

module _ {K X Y : Type 0} (f : X → Y) where
  -- to put an entry in its slot and to read the values are the same in either order
  pub read_by-insert : (R : K → K → Ordering) (es : List (K × X)) (k : K) (v : X) → read_by f (insert_entry R es k v) ≡ insert_entry R (read_by f es) k (f v)
  read_by-insert R [] k v = refl
  read_by-insert R (e ∷ es) k v =
      elim (R k e.0) as (λ r. read_by f
      (match_ordering r ((k, v) ∷ e ∷ es) ((e.0, v) ∷ es) (e ∷ insert_entry R es k v))
      ≡ match_ordering r ((k, f v) ∷ read_by f (e ∷ es)) ((e.0, f v) ∷ read_by f es)
      ((e.0, f e.1) ∷ insert_entry R (read_by f es) k (f v))) [
        | Less ↦ refl
        | Equal ↦ refl
        | Greater ↦ ap (λ t. (e.0, f e.1) ∷ t) (read_by-insert R es k v)
      ]

  -- the same for another value in an entry's slot
  pub read_by-set : (test : K → Bool) (es : List (K × X)) (v : X) → read_by f (set_value test es v) ≡ set_value test (read_by f es) (f v)
  read_by-set test [] v = refl
  read_by-set test (e ∷ es) v =
      elim (test e.0) as (λ b. read_by f (cond b ((e.0, v) ∷ es) (e ∷ set_value test es v))
      ≡ cond b ((e.0, f v) ∷ read_by f es) ((e.0, f e.1) ∷ set_value test (read_by f es) (f v))) [
        | true ↦ refl
        | false ↦ ap (λ t. (e.0, f e.1) ∷ t) (read_by-set test es v)
      ]

  -- the same for an entry that is taken out
  pub read_by-remove : (test : K → Bool) (es : List (K × X)) → read_by f (remove_entry test es) ≡ remove_entry test (read_by f es)
  read_by-remove test [] = refl
  read_by-remove test (e ∷ es) =
      elim (test e.0) as (λ b. read_by f (cond b es (e ∷ remove_entry test es))
      ≡ cond b (read_by f es) ((e.0, f e.1) ∷ remove_entry test (read_by f es))) [
        | true ↦ refl
        | false ↦ ap (λ t. (e.0, f e.1) ∷ t) (read_by-remove test es)
      ]

  -- a look-up finds the value that is read
  pub lookup-read_by : (test : K → Bool) (es : List (K × X)) → lookup test (read_by f es) ≡ option_map f (lookup test es)
  lookup-read_by test [] = refl
  lookup-read_by test (e ∷ es) =
      elim (test e.0) as (λ b. cond b (Some (f e.1)) (lookup test (read_by f es)) ≡ option_map f (cond b (Some e.1) (lookup test es))) [
        | true ↦ refl
        | false ↦ lookup-read_by test es
      ]

-- the first of two answers that is one
abbrev pub first_some : {X : Type 0} → Option X → Option X → Option X
first_some None o = o
first_some (Some x) o = Some x

-- there is no second answer
pub first_or_none : {X : Type 0} (f : Option X) → first_some f None ≡ f
first_or_none None = refl
first_or_none (Some x) = refl

-- a look-up in two lists finds what is in the first, or else what is in the second
pub lookup-append : {K X : Type 0} (test : K → Bool) (es fs : List (K × X)) → lookup test (es ++ fs) ≡ first_some (lookup test es) (lookup test fs)
lookup-append test [] fs = refl
lookup-append test (e ∷ es) fs =
    elim (test e.0) as (λ b. cond b (Some e.1) (lookup test (es ++ fs)) ≡ first_some (cond b (Some e.1) (lookup test es)) (lookup test fs)) [
      | true ↦ refl
      | false ↦ lookup-append test es fs
    ]

-- what a test finds is at a key that passes it
pub found_at : {K X : Type 0} (test : K → Bool) (es : List (K × X)) (x : X) → lookup test es ≡ Some x → (k : K) × (test k ≡ true)
found_at test [] x is = cc
found_at test (e ∷ es) x is =
    elim (test e.0) as (λ b. test e.0 ≡ b → cond b (Some e.1) (lookup test es) ≡ Some x → (k : _) × (test k ≡ true)) [
      | true ↦ λ p h. (e.0, p)
      | false ↦ λ p h. found_at test es x h
    ] refl is

-- lists that answer alike at each key answer alike at each query
pub tests_agree : {K X : Type 0} (eq : K → K → Bool) (test : K → Bool) → IsKeyTest eq test
    → (es fs : List (K × X)) → ((k : K) → lookup (eq k) fs ≡ lookup (eq k) es)
    → lookup test fs ≡ lookup test es
tests_agree eq test keys es fs is =
    let at_key : (k : _) → test k ≡ true → lookup test fs ≡ lookup test es = λ k passes.
    lookup-agree test (eq k) (λ y. keys k y passes) fs ∙ is k ∙ sym (lookup-agree test (eq k) (λ y. keys k y passes) es) in
    elim (lookup test fs) as (λ r. lookup test fs ≡ r → r ≡ lookup test es) [
      | Some x ↦ λ p. let k = found_at test fs x p in sym p ∙ at_key k.0 k.1
      | None ↦ λ p. elim (lookup test es) as (λ s. lookup test es ≡ s → None ≡ s) [
        | Some x ↦ λ s. let k = found_at test es x s in sym p ∙ at_key k.0 k.1 ∙ s
        | None ↦ λ s. refl
      ] refl
    ] refl
