-- The numbers that stand in order: the same ones as before, each once.
use Rattle.std.proofs.Common.{◌≡◌, ℕ, ◌==◌, Bool, true, false, ◌||◌, List, [], ◌∷◌, All, refl, sym, ap, ◌∙◌}
use Rattle.std.specs.declared.cmp.Ordering.TheVariants.{Less, Equal, Greater}
use Rattle.std.specs.BTreeSet.{insert_key}
use Rattle.std.specs.List.{fold, list_any}
use Rattle.std.specs.Ordering.{is_eq, match_ordering, nat_cmp}
use Rattle.std.proofs.lemmas.List.Elements.{All-cons, All-head, All-nil, All-tail}
use Rattle.qplain_laws.proofs.Tables.{same-number}
use Rattle.qaudit.specs.Recount.{ascending}

-- the number is among these
abbrev pub is_among : ℕ → List ℕ → Bool
is_among id ns = list_any (λ n. n == id) ns

or_again : (b c : Bool) → (b || c) ≡ (b || (b || c))
or_again true c = refl
or_again false c = refl

or_swap : (a b c : Bool) → (a || (b || c)) ≡ (b || (a || c))
or_swap true true c = refl
or_swap true false c = refl
or_swap false b c = refl

or_in : (a b c : Bool) → (a || (b || c)) ≡ ((b || a) || c)
or_in true true c = refl
or_in true false c = refl
or_in false true c = refl
or_in false false c = refl

or_none : (b : Bool) → (b || false) ≡ b
or_none true = refl
or_none false = refl

among-insert : (id k : ℕ) (ns : List ℕ) → is_among id (insert_key nat_cmp ns k) ≡ ((k == id) || is_among id ns)
among-insert id k [] = refl
among-insert id k (n ∷ ns) =
    elim (nat_cmp k n) as (λ r. nat_cmp k n ≡ r → is_among id (match_ordering r (k ∷ n ∷ ns) (n ∷ ns) (n ∷ insert_key nat_cmp ns k))
    ≡ ((k == id) || ((n == id) || is_among id ns))) [
      | Less ↦ λ p. refl
      | Equal ↦ λ p. or_again (n == id) (is_among id ns)
          ∙ ap (λ m. (m == id) || ((n == id) || is_among id ns)) (sym (same-number k n (ap is_eq p)))
      | Greater ↦ λ p. ap (λ b. (n == id) || b) (among-insert id k ns) ∙ or_swap (n == id) (k == id) (is_among id ns)
    ] refl

among-fold : (id : ℕ) (so_far ns : List ℕ) → is_among id (fold (insert_key nat_cmp) so_far ns) ≡ (is_among id ns || is_among id so_far)
among-fold id so_far [] = refl
among-fold id so_far (n ∷ ns) =
    among-fold id (insert_key nat_cmp so_far n) ns ∙ ap (λ b. is_among id ns || b) (among-insert id n so_far)
    ∙ or_in (is_among id ns) (n == id) (is_among id so_far)

-- in order the same numbers are there
pub among-ascending : (id : ℕ) (ns : List ℕ) → is_among id (ascending ns) ≡ is_among id ns
among-ascending id ns = among-fold id [] ns ∙ or_none (is_among id ns)

All-insert : (P : ℕ → Type 0) (ns : List ℕ) (k : ℕ) → All P ns → P k → All P (insert_key nat_cmp ns k)
All-insert P [] k all new = All-cons P k [] new (All-nil P)
All-insert P (n ∷ ns) k all new =
    elim (nat_cmp k n) as (λ r. All P (match_ordering r (k ∷ n ∷ ns) (n ∷ ns) (n ∷ insert_key nat_cmp ns k))) [
      | Less ↦ All-cons P k (n ∷ ns) new all
      | Equal ↦ all
      | Greater ↦ All-cons P n (insert_key nat_cmp ns k) (All-head P n ns all) (All-insert P ns k (All-tail P n ns all) new)
    ]

All-fold : (P : ℕ → Type 0) (so_far ns : List ℕ) → All P so_far → All P ns → All P (fold (insert_key nat_cmp) so_far ns)
All-fold P so_far [] kept all = kept
All-fold P so_far (n ∷ ns) kept all =
    All-fold P (insert_key nat_cmp so_far n) ns (All-insert P so_far n kept (All-head P n ns all)) (All-tail P n ns all)

-- what holds of all numbers holds of them in order
pub All-ascending : (P : ℕ → Type 0) (ns : List ℕ) → All P ns → All P (ascending ns)
All-ascending P ns all = All-fold P [] ns (All-nil P) all
