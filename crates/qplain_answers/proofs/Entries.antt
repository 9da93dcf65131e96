-- Entries whose values are changed each by itself, and holders of whom some are left out.
use Rattle.std.proofs.Common.{◌≡◌, ℕ, ◌+◌, Bool, true, false, not, ◌||◌, cond, List, [], ◌∷◌, map, filter, sum_by, Option, Some, None, refl, sym, ap, ◌∙◌}
use Rattle.std.specs.Option.{option_map, option_or}
use Rattle.std.specs.List.{AllByRecursion, find, list_any}
use Rattle.std.specs.Map.{set_value, values_of}
use Rattle.std.specs.declared.cmp.Ordering.{Ordering}
use Rattle.std.specs.declared.cmp.Ordering.TheVariants.{Less, Equal, Greater}
use Rattle.std.specs.Ordering.{match_ordering}
use Rattle.std.specs.BTreeMap.{insert_entry}
use Rattle.std.proofs.lemmas.List.Sums.{sum_by-cons}
use Rattle.qrules.specs.declared.over.Over.{Over}
use Rattle.qplain.specs.declared.refusal.Refusal.TheVariants.{EDQUOT}
use Rattle.qplain.specs.State.{Holder}
use Rattle.qplain.specs.Decision.{first_refusal}
use Rattle.qplain_answers.specs.WithoutProjects.{is_project}

-- ---- entries

module _ {K X : Type 0} (f : X → X) where
  -- the entries with each value changed
  abbrev pub each : List (K × X) → List (K × X)
  each es = map (λ e. (e.0, f e.1)) es

  pub set_value-each : (test : K → Bool) (es : List (K × X)) (v : X) → set_value test (each es) (f v) ≡ each (set_value test es v)
  set_value-each test [] v = refl
  set_value-each test (e ∷ es) v =
      elim (test e.0) as (λ b. cond b ((e.0, f v) ∷ each es) ((e.0, f e.1) ∷ set_value test (each es) (f v))
      ≡ each (cond b ((e.0, v) ∷ es) (e ∷ set_value test es v))) [
        | true ↦ refl
        | false ↦ ap (λ xs. (e.0, f e.1) ∷ xs) (set_value-each test es v)
      ]

  pub insert-each : (R : K → K → Ordering) (es : List (K × X)) (k : K) (v : X) → insert_entry R (each es) k (f v) ≡ each (insert_entry R es k v)
  insert-each R [] k v = refl
  insert-each R (e ∷ es) k v =
      elim (R k e.0) as (λ r. match_ordering r ((k, f v) ∷ each (e ∷ es)) ((e.0, f v) ∷ each es) ((e.0, f e.1) ∷ insert_entry R (each es) k (f v))
      ≡ each (match_ordering r ((k, v) ∷ e ∷ es) ((e.0, v) ∷ es) (e ∷ insert_entry R es k v))) [
        | Less ↦ refl
        | Equal ↦ refl
        | Greater ↦ ap (λ xs. (e.0, f e.1) ∷ xs) (insert-each R es k v)
      ]

  pub filter-each : (p : K → Bool) (es : List (K × X)) → filter (λ e. p e.0) (each es) ≡ each (filter (λ e. p e.0) es)
  filter-each p [] = refl
  filter-each p (e ∷ es) =
      elim (p e.0) as (λ b. cond b ((e.0, f e.1) ∷ filter (λ x. p x.0) (each es)) (filter (λ x. p x.0) (each es))
      ≡ each (cond b (e ∷ filter (λ x. p x.0) es) (filter (λ x. p x.0) es))) [
        | true ↦ ap (λ xs. (e.0, f e.1) ∷ xs) (filter-each p es)
        | false ↦ filter-each p es
      ]

  pub any-each : (p q : K × X → Bool) → ((e : K × X) → q (e.0, f e.1) ≡ p e) → (es : List (K × X)) → list_any q (each es) ≡ list_any p es
  any-each p q agree [] = refl
  any-each p q agree (e ∷ es) = λ i. agree e i || any-each p q agree es i

  pub sum-each : (g : X → ℕ) → ((x : X) → g (f x) ≡ g x) → (es : List (K × X)) → sum_by g (values_of (each es)) ≡ sum_by g (values_of es)
  sum-each g agree [] = refl
  sum-each g agree (e ∷ es) =
      sum_by-cons g (f e.1) (values_of (each es)) ∙ (λ i. agree e.1 i + sum-each g agree es i) ∙ sym (sum_by-cons g e.1 (values_of es))

-- ---- holders

-- the holder is no project
abbrev pub stays : Holder → Bool
stays h = not (is_project h.kind)

pub any-staying : (p : Holder → Bool) → ((h : Holder) → stays h ≡ false → p h ≡ false) → (hs : List Holder)
    → list_any p (filter stays hs) ≡ list_any p hs
any-staying p goes [] = refl
any-staying p goes (h ∷ hs) = by (any-staying p goes hs) (stays h) refl
  where
    by : list_any p (filter stays hs) ≡ list_any p hs → (b : Bool) → stays h ≡ b
        → list_any p (cond b (h ∷ filter stays hs) (filter stays hs)) ≡ (p h || list_any p hs)
    by later true e = ap (λ c. p h || c) later
    by later false e = later ∙ ap (λ c. c || list_any p hs) (sym (goes h e))

pub find-staying : (p : Holder → Bool) → ((h : Holder) → stays h ≡ false → p h ≡ false) → (hs : List Holder)
    → find p (filter stays hs) ≡ find p hs
find-staying p goes [] = refl
find-staying p goes (h ∷ hs) = by (find-staying p goes hs) (stays h) refl
  where
    by : find p (filter stays hs) ≡ find p hs → (b : Bool) → stays h ≡ b
        → find p (cond b (h ∷ filter stays hs) (filter stays hs)) ≡ cond (p h) (Some h) (find p hs)
    by later true e = ap (λ c. cond (p h) (Some h) c) later
    by later false e = later ∙ ap (λ c. cond c (Some h) (find p hs)) (sym (goes h e))

-- holders that stay who they are are left out alike
pub filter-staying : (f g : Holder → Holder) → ((h : Holder) → stays (f h) ≡ stays h) → ((h : Holder) → stays h ≡ true → g h ≡ f h)
    → (hs : List Holder) → map g (filter stays hs) ≡ filter stays (map f hs)
filter-staying f g same agree [] = refl
filter-staying f g same agree (h ∷ hs) = by (filter-staying f g same agree hs) (stays h) refl
  where
    by : map g (filter stays hs) ≡ filter stays (map f hs) → (b : Bool) → stays h ≡ b
        → map g (cond b (h ∷ filter stays hs) (filter stays hs)) ≡ cond (stays (f h)) (f h ∷ filter stays (map f hs)) (filter stays (map f hs))
    by later true e =
        (λ i. agree h e i ∷ later i) ∙ ap (λ c. cond c (f h ∷ filter stays (map f hs)) (filter stays (map f hs))) (sym (same h ∙ e))
    by later false e = later ∙ ap (λ c. cond c (f h ∷ filter stays (map f hs)) (filter stays (map f hs))) (sym (same h ∙ e))

-- holders that refuse nothing may be left out
pub first-staying : (f g : Holder → Option Over) → ((h : Holder) → stays h ≡ true → g h ≡ f h) → (hs : List Holder)
    → AllByRecursion (λ h. stays h ≡ false → f h ≡ None) hs → first_refusal g (filter stays hs) ≡ first_refusal f hs
first-staying f g agree [] free = refl
first-staying f g agree (h ∷ hs) free = by (first-staying f g agree hs free.1) (stays h) refl
  where
    by : first_refusal g (filter stays hs) ≡ first_refusal f hs → (b : Bool) → stays h ≡ b
        → first_refusal g (cond b (h ∷ filter stays hs) (filter stays hs)) ≡ option_or (option_map (λ over. EDQUOT h.kind over) (f h)) (first_refusal f hs)
    by later true e = λ i. option_or (option_map (λ over. EDQUOT h.kind over) (agree h e i)) (later i)
    by later false e = later ∙ ap (λ o. option_or (option_map (λ over. EDQUOT h.kind over) o) (first_refusal f hs)) (sym (free.0 e))
