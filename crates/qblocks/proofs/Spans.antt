-- Lemmas on spans of indexes, and on how many of them fail a test.
use Rattle.std.proofs.Common.{◌≡◌, ℕ, ◌+◌, ◌-◌, ◌/◌, ◌<◌, ◌≤◌, zero, suc, Bool, true, false, ◌&&◌, ◌||◌, nat_le, nat_lt, cond, refl, sym, ap, ◌∙◌, arith, ⊎_elim}
use Rattle.std.proofs.lemmas.Bool.{cases_lt, lt-ltb, le-ltb, le-leb, lt-leb, and_right, and_left, and_from, and_parts, leb-true, ltb-true, both_ways, ne_eqb, eq-eqb}
use Rattle.qblocks.specs.Row.{in_span, span_end, gaps}

-- an index between first and end is in the span
pub in_span_yes : (first end k : ℕ) → first ≤ k → k < end → in_span first end k ≡ true
in_span_yes first end k l h = and_from _ _ (le-leb first k l) (lt-ltb k end h)

-- one before first is not
pub in_span_before : (first end k : ℕ) → k < first → in_span first end k ≡ false
in_span_before first end k l = and_left _ _ (lt-leb first k l)

-- one from end on is not
pub in_span_behind : (first end k : ℕ) → end ≤ k → in_span first end k ≡ false
in_span_behind first end k l = and_right _ _ (le-ltb k end l)

-- what does not hold adds nothing
pub or_no : (a b : Bool) → b ≡ false → a ≡ (a || b)
or_no true b e = refl
or_no false b e = sym e

-- what holds is enough
pub or_yes : (a b : Bool) → b ≡ true → (a || b) ≡ true
or_yes true b e = refl
or_yes false b e = e

-- what is left where the first does not hold
pub or_rest : (a b : Bool) → a ≡ false → (a || b) ≡ b
or_rest true b e = absurd (both_ways true e refl)
or_rest false b e = refl

-- an empty span has no index
pub in_span_none : (first end k : ℕ) → end ≤ first → in_span first end k ≡ false
in_span_none first end k l =
    ⊎_elim (λ before. in_span_before first end k before) (λ late. in_span_behind first end k (omega arith)) (cases_lt k first)

-- the same span under other numbers
pub same_span : (first end k first' end' k' a : ℕ) → first' ≡ a + first → end' ≡ a + end
    → k' ≡ a + k → in_span first end k ≡ in_span first' end' k'
same_span first end k first' end' k' a from to at =
    ⊎_elim
    (λ l. in_span_before first end k l ∙ sym (in_span_before first' end' k' (omega arith)))
    (λ above.
    ⊎_elim
    (λ l. in_span_yes first end k above l ∙ sym (in_span_yes first' end' k' (omega arith) (omega arith)))
    (λ l. in_span_behind first end k l ∙ sym (in_span_behind first' end' k' (omega arith)))
    (cases_lt k end))
    (cases_lt k first)

-- two spans of which the second begins where the first ends
pub in_span-more : (a b c k : ℕ) → a ≤ b → b ≤ c → (in_span a b k || in_span b c k) ≡ in_span a c k
in_span-more a b c k l h =
    ⊎_elim
    (λ before. ap (λ t. in_span a b k || t) (in_span_before b c k before)
    ∙ sym (or_no (in_span a b k) false refl)
    ∙ ap (λ t. nat_le a k && t) (lt-ltb k b before ∙ sym (lt-ltb k c (omega arith))))
    (λ late. ap (λ t. t || in_span b c k) (in_span_behind a b k late) ∙ ap (λ t. t && nat_lt k c) (le-leb b k late ∙ sym (le-leb a k (omega arith))))
    (cases_lt k b)

-- no bytes touch no piece
pub span_end_none : (size off n : ℕ) → n ≡ 0 → span_end size off n ≡ off / size
span_end_none size off n e =
    ap (λ t. cond t (off / size) ((off + n - 1) / size + 1)) (eq-eqb n 0 e)

-- some bytes touch the piece of the last of them
pub span_end_some : (size off n : ℕ) → 0 < n → span_end size off n ≡ (off + n - 1) / size + 1
span_end_some size off n l =
    ap (λ t. cond t (off / size) ((off + n - 1) / size + 1)) (ne_eqb n 0 (λ e. absurd (omega arith)))

-- what is in a span is a sign that it is not empty
pub span_some : (size off n k : ℕ) → off / size ≤ k → k < span_end size off n → 0 < n
span_some size off n k l h =
    ⊎_elim (λ none. absurd (omega (arith, span_end_none size off n (omega arith)))) (λ some. omega arith) (cases_lt n 1)

-- tests that agree on the span leave the same gaps
pub gaps-same : (p q : ℕ → Bool) (first n : ℕ) → ((k : ℕ) → first ≤ k → k < first + n → q k ≡ p k)
    → gaps q first n ≡ gaps p first n
unfolding gaps
gaps-same p q first zero same = refl
gaps-same p q first (suc n) same =
    let here = ap {B = ℕ} (λ t. cond t 0 1) (same (first + n) (omega arith) (omega arith)) in
    omega (arith, gaps-same p q first n (λ k l h. same k l (omega arith)), here)

-- the same indexes under other numbers
pub gaps-shift : (p q : ℕ → Bool) (a first n : ℕ)
    → ((k : ℕ) → first ≤ k → k < first + n → q (a + k) ≡ p k)
    → gaps q (a + first) n ≡ gaps p first n
unfolding gaps
gaps-shift p q a first zero same = refl
gaps-shift p q a first (suc n) same =
    let here = ap {B = ℕ} (λ t. cond t 0 1) (same (first + n) (omega arith) (omega arith)) in
    let at : a + first + n ≡ a + (first + n) = omega arith in
    let there = ap {B = ℕ} (λ (x : ℕ). cond (q x) 0 1) at in
    omega (arith, gaps-shift p q a first n (λ k l h. same k l (omega arith)), here, there)

-- the gaps of two spans beside each other
pub gaps-split : (p : ℕ → Bool) (first n m : ℕ) → gaps p first (n + m) ≡ gaps p first n + gaps p (first + n) m
unfolding gaps
gaps-split p first n zero = let e : n + 0 ≡ n = omega arith in omega (arith, ap (gaps p first) e)
gaps-split p first n (suc m) =
    let e : n + suc m ≡ suc (n + m) = omega arith in
    let at : first + (n + m) ≡ first + n + m = omega arith in
    omega (arith, ap (gaps p first) e, ap {B = ℕ} (λ (x : ℕ). cond (p x) 0 1) at, gaps-split p first n m)

-- an empty span has no gap
pub gaps_none : (p : ℕ → Bool) (first n : ℕ) → n ≡ 0 → gaps p first n ≡ 0
unfolding gaps
gaps_none p first n e = ap (gaps p first) e

-- no index of the span passes
pub gaps-all : (p : ℕ → Bool) (first n : ℕ) → ((k : ℕ) → first ≤ k → k < first + n → p k ≡ false)
    → gaps p first n ≡ n
unfolding gaps
gaps-all p first zero fails = refl
gaps-all p first (suc n) fails =
    let here = ap {B = ℕ} (λ t. cond t 0 1) (fails (first + n) (omega arith) (omega arith)) in
    omega (arith, here, gaps-all p first n (λ k l h. fails k l (omega arith)))

-- one index more
pub gaps-next : (p : ℕ → Bool) (first n m k : ℕ) → m ≡ n + 1 → k ≡ first + n
    → gaps p first m ≡ gaps p first n + cond (p k) 0 1
unfolding gaps
gaps-next p first n m k e f =
    let more : m ≡ suc n = omega arith in
    ap (gaps p first) more ∙ ap {B = ℕ} (λ (x : ℕ). gaps p first n + cond (p x) 0 1) (sym f)

-- there are at most as many gaps as indexes
pub gaps_le : (p : ℕ → Bool) (first n : ℕ) → gaps p first n ≤ n
unfolding gaps
gaps_le p first zero = omega arith
gaps_le p first (suc n) =
    elim (p (first + n)) as (λ t. gaps p first n + cond t 0 1 ≤ suc n) [ true ↦ omega (arith, gaps_le p first n) | false ↦ omega (arith, gaps_le p first n) ]

-- where every index fails, each does
pub gap_at : (p : ℕ → Bool) (first n k : ℕ) → gaps p first n ≡ n → first ≤ k → k < first + n → p k ≡ false
unfolding gaps
gap_at p first zero k all l h = absurd (omega arith)
gap_at p first (suc n) k all l h =
    elim (p (first + n)) as (λ t. p (first + n) ≡ t → gaps p first n + cond t 0 1 ≡ suc n → p k ≡ false) [
      | true ↦ λ _ e. absurd (omega (arith, gaps_le p first n))
      | false ↦ λ last e. ⊎_elim (λ below. gap_at p first n k (omega arith) l below) (λ at. let here : k
          ≡ first + n = omega arith in ap p here ∙ last) (cases_lt k (first + n))
    ] refl all

-- in a span with one index more, an index is the last or in the rest
pub in_span_rest : (first n k : ℕ) → in_span first (n + 1) k ≡ true → (k ≡ n → ⊥) → in_span first n k ≡ true
in_span_rest first n k in' ne =
    let parts = and_parts (nat_le first k) (nat_lt k (n + 1)) in' in
    in_span_yes first n k (leb-true first k parts.0) (omega (arith, ltb-true k (n + 1) parts.1))

-- out of a span with one index more, an index is neither
pub in_span_out : (first n k : ℕ) → first ≤ n → in_span first (n + 1) k ≡ false
    → (k ≡ n → ⊥) × (in_span first n k ≡ false)
in_span_out first n k l out = (
  λ e. both_ways _ out (in_span_yes first (n + 1) k (omega (arith, e)) (omega (arith, e))),
  ⊎_elim (in_span_before first n k)
      (λ late. ⊎_elim (λ in'. absurd
      (both_ways _ out (in_span_yes first (n + 1) k late (omega (arith, in'))))) (in_span_behind first n k)
      (cases_lt k n)) (cases_lt k first),
)

-- where no index fails, each passes
pub no_gap_at : (p : ℕ → Bool) (first n k : ℕ) → gaps p first n ≡ 0 → first ≤ k → k < first + n → p k ≡ true
unfolding gaps
no_gap_at p first zero k none l h = absurd (omega arith)
no_gap_at p first (suc n) k none l h =
    elim (p (first + n)) as (λ t. p (first + n) ≡ t → gaps p first n + cond t 0 1 ≡ 0 → p k ≡ true) [
      | true ↦ λ last e. ⊎_elim (λ below. no_gap_at p first n k (omega arith) l below) (λ at. let here : k
          ≡ first + n = omega arith in ap p here ∙ last) (cases_lt k (first + n))
      | false ↦ λ _ e. absurd (omega arith)
    ] refl none
