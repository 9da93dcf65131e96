use Rattle.std.proofs.Common.{◌≡◌, ℕ, All, List, Result, Ok, Err, arith, subst}
use Rattle.std.specs.Option.{IsNone}
use Rattle.std.specs.Result.{result_ok}
use Rattle.std.specs.List.Sorted.{IsBinarySearchResult, IsStrictlyIncreasing}
use Rattle.std.specs.Ordering.{nat_cmp}
use Rattle.std.proofs.lemmas.List.{get_or_default}
use Rattle.std.proofs.lemmas.List.Sorted.{searched}
use Rattle.std.proofs.lemmas.Map.Keys.{non_decreasing_from_sorted, sorted_from_strictly_increasing}
use Rattle.qaudit.proofs.numbers.place_of.Goals as goal

-- what a search does not find is nowhere
not_found : (numbers : List ℕ) (number : ℕ) (r : Result ℕ ℕ) → IsStrictlyIncreasing numbers
    → IsBinarySearchResult (λ n. nat_cmp n number) numbers r → IsNone (result_ok r) → All (λ n. n ≡ number → ⊥) numbers
not_found numbers number (Ok at) rise is none = cc
not_found numbers number (Err at) rise is none = λ k d within same.
    let sorted = sorted_from_strictly_increasing numbers rise in
    let found = searched numbers number (Err at) is (λ i j le less. non_decreasing_from_sorted numbers sorted i j 0 le less) in
    let below = found.1 k in
    let above = found.2 k in
    let first = get_or_default numbers k d 0 within in
    grind (arith, below, above, first, same, within)

pub returns-clause-nowhere : goal.returns-clause-nowhere
returns-clause-nowhere c = λ none.
    not_found c.args.numbers.now c.args.number c.binary_search.result c.requires c.binary_search.ensures.position (subst IsNone c.ok.ensures.value none)
