use Rattle.std.proofs.Common.{◌≡◌, ◌≢◌, ℕ, ◌<◌, ◌+◌, ◌==◌, true, false, cond, List, length, slice_index, slice_set, ap, sym, ◌∙◌, arith, tests, ⊎_elim}
use Rattle.std.specs.List.Sorted.{IsStrictlyIncreasing}
use Rattle.std.proofs.lemmas.Bool.{cases_eq}
use Rattle.std.proofs.lemmas.Grind.{get_or-set_at}
use Rattle.std.proofs.lemmas.List.{get_or-set_other}
use Rattle.std.proofs.lemmas.Map.Keys.{below_from_sorted, sorted_from_strictly_increasing}
use Rattle.qaudit.proofs.tallies.add_one.Goals as goal

told_same : (m n : ℕ) → m ≡ n → (m == n) ≡ true
told_same m n same = grind (arith, tests)

told_apart : (m n : ℕ) → m ≢ n → (m == n) ≡ false
told_apart m n apart = grind (arith, tests)

-- the count at the number's place rises, and no other
one_more : (numbers counts : List ℕ) (number at k : ℕ) → IsStrictlyIncreasing numbers → length counts ≡ length numbers
    → at < length numbers → slice_index numbers at ≡ number → k < length numbers
    → slice_index (slice_set counts at (slice_index counts at + 1)) k ≡ slice_index counts k + cond (number == slice_index numbers k) 1 0
one_more numbers counts number at k rise long within is inside =
    let sorted = sorted_from_strictly_increasing numbers rise in
    ⊎_elim (λ here.
    get_or-set_at counts at k (slice_index counts at + 1) 0 here (omega (arith, long, within))
    ∙ ap (λ n. slice_index counts n + 1) (sym here)
    ∙ ap (λ b. slice_index counts k + cond b 1 0) (sym (told_same number (slice_index numbers k) (sym is ∙ ap (slice_index numbers) (sym here)))))
    (λ elsewhere.
    let below = below_from_sorted numbers k at 0 sorted in
    let above = below_from_sorted numbers at k 0 sorted in
    let apart : number ≢ slice_index numbers k = grind (arith, below, above, is, elsewhere, within, inside) in
    let none : slice_index counts k ≡ slice_index counts k + cond false 1 0 = omega arith in
    get_or-set_other counts at k (slice_index counts at + 1) 0 elsewhere ∙ none
    ∙ ap (λ b. slice_index counts k + cond b 1 0) (sym (told_apart number (slice_index numbers k) apart)))
    (cases_eq k at)

pub returns-in-Some-clause-counts : goal.returns-in-Some-clause-counts
returns-in-Some-clause-counts c = λ k inside.
    one_more c.args.numbers.now c.args.counts.now c.args.number c.in-Some.at k c.requires.ascending c.requires.long
    c.in-Some.ensures.there c.in-Some.ensures.same inside
