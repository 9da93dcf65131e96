-- Lemmas on lists of indexes in increasing order.
use Rattle.std.proofs.Common.{◌≡◌, ℕ, ◌+◌, ◌<◌, ◌≤◌, zero, suc, Bool, true, false, ◌&&◌, ◌||◌, ◌==◌, nat_lt, cond, List, [], ◌∷◌, length, filter, refl, sym, ap, ◌∙◌, arith, ⊎_elim}
use Rattle.std.proofs.lemmas.Bool.{cases_lt, cases_eq, cases_order, eq-eqb, ne_eqb, le-leb, both_ways, and_right, and_from, eqb-true, eqb-false, ltb-true, ltb-false}
use Rattle.std.specs.List.{list_any, range_with_len}
use Rattle.qblocks.specs.File.{with_index}
use Rattle.qblocks.specs.Row.{in_span, gaps}
use Rattle.qblocks.proofs.Spans.{in_span_yes, in_span_before, in_span_behind, gaps-split, gaps-next, gaps_none}

-- the list has the index
abbrev pub has : List ℕ → ℕ → Bool
has xs k = list_any (λ x. x == k) xs

-- each index is below the next, and none is below b
abbrev pub Rises : ℕ → List ℕ → Type 0
Rises b [] = Unit {0}
Rises b (x ∷ xs) = (b ≤ x) × Rises (suc x) xs

-- a list that rises from a number rises from any below it
pub Rises-weaker : (b c : ℕ) (xs : List ℕ) → b ≤ c → Rises c xs → Rises b xs
Rises-weaker b c [] l rises = tt
Rises-weaker b c (x ∷ xs) l rises = (omega (arith, rises.0), rises.1)

-- an index below all of the list is not in it
pub has_below : (b : ℕ) (xs : List ℕ) (k : ℕ) → Rises b xs → k < b → has xs k ≡ false
has_below b [] k rises l = refl
has_below b (x ∷ xs) k rises l =
    ap (λ t. t || has xs k) (ne_eqb x k (λ e. absurd (omega (arith, rises.0))))
    ∙ has_below (suc x) xs k rises.1 (omega (arith, rises.0))

-- a list has its first index
pub has_first : (x : ℕ) (xs : List ℕ) → has (x ∷ xs) x ≡ true
has_first x xs = ap (λ t. t || has xs x) (eq-eqb x x refl)

-- another index is looked for in the rest
pub has_later : (x k : ℕ) (xs : List ℕ) → (x ≡ k → ⊥) → has (x ∷ xs) k ≡ has xs k
has_later x k xs ne = ap (λ t. t || has xs k) (ne_eqb x k ne)

-- two lists in order with the same indexes are equal
pub same_indexes : (b : ℕ) (xs ys : List ℕ) → Rises b xs → Rises b ys
    → ((k : ℕ) → has xs k ≡ has ys k) → xs ≡ ys
same_indexes b [] [] r s same = refl
same_indexes b [] (y ∷ ys) r s same = absurd (both_ways _ (sym (same y)) (has_first y ys))
same_indexes b (x ∷ xs) [] r s same = absurd (both_ways _ (same x) (has_first x xs))
same_indexes b (x ∷ xs) (y ∷ ys) r s same =
    ⊎_elim
    (λ e.
    let rises : Rises (suc x) ys = Rises-weaker (suc x) (suc y) ys (omega (arith, e)) s.1 in
    let rest : xs ≡ ys = same_indexes (suc x) xs ys r.1 rises (λ k.
    ⊎_elim
    (λ here. has_below (suc x) xs k r.1 (omega (arith, here)) ∙ sym (has_below (suc x) ys k rises (omega (arith, here))))
    (λ ne. sym (has_later x k xs ne) ∙ same k ∙ has_later y k ys (λ at. ne (e ∙ at)))
    (cases_eq x k)) in
    (λ i. e i ∷ rest i))
    (⊎_elim
    (λ l. absurd (both_ways _ (same x ∙ has_below y (y ∷ ys) x (omega arith, s.1) l) (has_first x xs)))
    (λ l. absurd (both_ways _ (sym (same y) ∙ has_below x (x ∷ xs) y (omega arith, r.1) l) (has_first y ys))))
    (cases_order x y)

-- to ask twice is to ask once
or_twice : (a b : Bool) → (a || b) ≡ (a || (a || b))
or_twice true b = refl
or_twice false b = refl

-- the order of questions does not matter
pub or_swap : (a b c : Bool) → (a || (b || c)) ≡ (b || (a || c))
or_swap true true c = refl
or_swap true false c = refl
or_swap false b c = refl

-- one index more is in the list, and no other
pub has-with_index : (xs : List ℕ) (k q : ℕ) → has (with_index xs k) q ≡ ((k == q) || has xs q)
unfolding with_index
has-with_index [] k q = refl
has-with_index (x ∷ xs) k q =
    elim (nat_lt k x) as (λ t. has (cond t (k ∷ x ∷ xs) (cond (x == k) (x ∷ xs) (x ∷ with_index xs k))) q ≡ ((k == q) || has (x ∷ xs) q)) [
      | true ↦ refl
      | false ↦ elim (x == k) as (λ t. (x == k) ≡ t → has (cond t (x ∷ xs) (x ∷ with_index xs k)) q ≡ ((k == q) || has (x ∷ xs) q)) [
        | true ↦ λ e. ap (λ (y : ℕ). (y == q) || has xs q) (eqb-true x k e) ∙ or_twice (k == q) (has xs q)
            ∙ ap (λ (y : ℕ). (k == q) || ((y == q) || has xs q)) (sym (eqb-true x k e))
        | false ↦ λ _. ap (λ t. (x == q) || t) (has-with_index xs k q) ∙ or_swap (x == q) (k == q) (has xs q)
      ] refl
    ]

-- the list stays in order
pub Rises-with_index : (b : ℕ) (xs : List ℕ) (k : ℕ) → Rises b xs → b ≤ k → Rises b (with_index xs k)
unfolding with_index
Rises-with_index b [] k rises l = (l, tt)
Rises-with_index b (x ∷ xs) k rises l =
    elim (nat_lt k x) as (λ t. nat_lt k x ≡ t → Rises b (cond t (k ∷ x ∷ xs) (cond (x == k) (x ∷ xs) (x ∷ with_index xs k)))) [
      | true ↦ λ e. (l, (omega (arith, ltb-true k x e), rises.1))
      | false ↦ λ e. elim (x == k) as (λ t. (x == k) ≡ t → Rises b (cond t (x ∷ xs) (x ∷ with_index xs k))) [
        | true ↦ λ _. rises
        | false ↦ λ ne. (rises.0, Rises-with_index (suc x) xs k rises.1 (omega (arith, ltb-false k x e, eqb-false x k ne)))
      ] refl
    ] refl

-- one index more, unless it is there
pub length-with_index : (b : ℕ) (xs : List ℕ) (k : ℕ) → Rises b xs
    → length (with_index xs k) ≡ length xs + cond (has xs k) 0 1
unfolding with_index
length-with_index b [] k rises = refl
length-with_index b (x ∷ xs) k rises =
    elim (nat_lt k x) as (λ t. nat_lt k x ≡ t
    → length (cond t (k ∷ x ∷ xs) (cond (x == k) (x ∷ xs) (x ∷ with_index xs k)))
    ≡ length (x ∷ xs) + cond (has (x ∷ xs) k) 0 1) [
      | true ↦ λ e.
          let none = ap {B = ℕ} (λ t. cond t 0 1) (has_below x (x ∷ xs) k (omega arith, rises.1) (ltb-true k x e)) in
          omega (arith, none)
      | false ↦ λ _. elim (x == k) as (λ t. (x == k) ≡ t → length (cond t (x ∷ xs) (x ∷ with_index xs k)) ≡ length (x ∷ xs) + cond (t || has xs k) 0 1) [
        | true ↦ λ _. omega arith
        | false ↦ λ _. omega (arith, length-with_index (suc x) xs k rises.1)
      ] refl
    ] refl

-- what passes a test is in order too
pub Rises-filter : (b : ℕ) (test : ℕ → Bool) (xs : List ℕ) → Rises b xs → Rises b (filter test xs)
Rises-filter b test [] rises = tt
Rises-filter b test (x ∷ xs) rises =
    elim (test x) as (λ t. Rises b (cond t (x ∷ filter test xs) (filter test xs))) [
      | true ↦ (rises.0, Rises-filter (suc x) test xs rises.1)
      | false ↦ Rises-weaker b (suc x) (filter test xs) (omega (arith, rises.0)) (Rises-filter (suc x) test xs rises.1)
    ]

-- what is in the list and passes the test
pub has-filter : (test : ℕ → Bool) (xs : List ℕ) (q : ℕ) → has (filter test xs) q ≡ (has xs q && test q)
has-filter test [] q = refl
has-filter test (x ∷ xs) q =
    elim (test x) as (λ t. test x ≡ t → has (cond t (x ∷ filter test xs) (filter test xs)) q ≡ (has (x ∷ xs) q && test q)) [
      | true ↦ λ e. ⊎_elim
          (λ here. ap (λ t. t || has (filter test xs) q) (eq-eqb x q here)
          ∙ sym (and_from _ _ (ap (λ t. t || has xs q) (eq-eqb x q here)) (ap test (sym here) ∙ e)))
          (λ ne. has_later x q (filter test xs) ne ∙ has-filter test xs q ∙ ap (λ t. t && test q) (sym (has_later x q xs ne)))
          (cases_eq x q)
      | false ↦ λ e. ⊎_elim
          (λ here. has-filter test xs q ∙ and_right _ _ (ap test (sym here) ∙ e) ∙ sym (and_right _ _ (ap test (sym here) ∙ e)))
          (λ ne. has-filter test xs q ∙ ap (λ t. t && test q) (sym (has_later x q xs ne)))
          (cases_eq x q)
    ] refl

-- a range is in order
pub Rises-range : (a n : ℕ) → Rises a (range_with_len a n)
Rises-range a zero = tt
Rises-range a (suc n) = (omega arith, Rises-weaker (suc a) (a + 1) (range_with_len (a + 1) n) (omega arith) (Rises-range (a + 1) n))

-- a span with one index more at its front
span_first : (a end q : ℕ) → a < end → ((a == q) || in_span (a + 1) end q) ≡ in_span a end q
span_first a end q l =
    ⊎_elim
    (λ e. ap (λ t. t || in_span (a + 1) end q) (eq-eqb a q e) ∙ sym (in_span_yes a end q (omega (arith, e)) (omega (arith, e))))
    (⊎_elim
    (λ above.
    ap (λ t. t || in_span (a + 1) end q) (ne_eqb a q (λ e. absurd (omega arith)))
    ∙ ap (λ t. t && nat_lt q end) (le-leb (a + 1) q (omega arith) ∙ sym (le-leb a q (omega arith))))
    (λ under.
    ap (λ t. t || in_span (a + 1) end q) (ne_eqb a q (λ e. absurd (omega arith)))
    ∙ in_span_before (a + 1) end q (omega arith) ∙ sym (in_span_before a end q under)))
    (cases_order a q)

-- what is in a range
pub has-range : (a n q : ℕ) → has (range_with_len a n) q ≡ in_span a (a + n) q
has-range a zero q =
    ⊎_elim (λ l. sym (in_span_before a (a + 0) q l)) (λ l. sym (in_span_behind a (a + 0) q (omega arith))) (cases_lt q a)
has-range a (suc n) q =
    let end : a + 1 + n ≡ a + suc n = omega arith in
    ap (λ t. (a == q) || t) (has-range (a + 1) n q ∙ ap (λ (e : ℕ). in_span (a + 1) e q) end)
    ∙ span_first a (a + suc n) q (omega arith)

-- how many indexes of a range pass
pub length-filter_range : (test : ℕ → Bool) (a n : ℕ)
    → length (filter test (range_with_len a n)) + gaps test a n ≡ n
length-filter_range test a zero = omega (arith, gaps_none test a 0 refl)
length-filter_range test a (suc n) =
    let one : 1 + n ≡ suc n = omega arith in
    let at : a + 0 ≡ a = omega arith in
    let first : gaps test a 1 ≡ cond (test a) 0 1 = gaps-next test a 0 1 a (omega arith) (omega arith)
    ∙ ap (λ (x : ℕ). x + cond (test a) 0 1) (gaps_none test a 0 refl) ∙ omega arith in
    let split = gaps-split test a 1 n in
    let rest = length-filter_range test (a + 1) n in
    let count = ap (gaps test a) one in
    elim (test a) as (λ t. gaps test a 1 ≡ cond t 0 1
    → length (cond t (a ∷ filter test (range_with_len (a + 1) n))
    (filter test (range_with_len (a + 1) n))) + gaps test a (suc n) ≡ suc n) [
      | true ↦ λ here. omega (arith, split, rest, count, here)
      | false ↦ λ here. omega (arith, split, rest, count, here)
    ] first
