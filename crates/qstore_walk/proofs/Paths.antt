-- Where a path is cut at its first slash, and what is wrong with one path and with two.
use Rattle.std.proofs.Common.{◌≡◌, ◌≢◌, ℕ, ◌+◌, Bool, true, false, not, ◌&&◌, ◌||◌, cond, nat_lt, List, ◌∷◌, [], length, take, drop, Option, Some, None, refl, sym, ap, ◌∙◌, arith, tests}
use Rattle.std.specs.List.{position, position_or_len, slice_split}
use Rattle.std.proofs.lemmas.List.Sums.{fails_before_first}
use Rattle.std.proofs.lemmas.List.Splits.{slice_split_first, slice_split_none}
use Rattle.qplain.specs.declared.refusal.Refusal.{Refusal}
use Rattle.qplain.specs.declared.refusal.Refusal.TheVariants.{EINVAL, ENAMETOOLONG}
use Rattle.qplain.specs.Walk.{is_too_long, is_well_formed}
use Rattle.qstore_walk.specs.Paths.{path_fault, paths_fault}

-- what a slot that is found says of the test
found_at : (b : Bool) (n at : ℕ) → cond b (Some n) None ≡ Some at → (b ≡ true) × (n ≡ at)
found_at true n at h = (refl, grind (arith, h))
found_at false n at h = cc

-- what no slot says of the test
found_none : (b : Bool) (n : ℕ) → cond b (Some n) None ≡ None → b ≡ false
found_none true n h = cc
found_none false n h = refl

-- a list that is not cut is its one part
pub slice_split-no_position : (p : ℕ → Bool) (xs : List ℕ) → position p xs ≡ None → slice_split p xs ≡ xs ∷ []
slice_split-no_position p xs none =
    let long : nat_lt (position_or_len p xs) (length xs) ≡ false = found_none (nat_lt (position_or_len p xs) (length xs)) (position_or_len p xs) none in
    slice_split_none p xs (λ k d below. fails_before_first p xs k d (grind (arith, tests, long, below)))

-- a list that is cut is what stands before, and the parts of what stands after
pub slice_split-position : (p : ℕ → Bool) (xs : List ℕ) (at : ℕ) → position p xs ≡ Some at
    → slice_split p xs ≡ take at xs ∷ slice_split p (drop (at + 1) xs)
slice_split-position p xs at found =
    let parts = found_at (nat_lt (position_or_len p xs) (length xs)) (position_or_len p xs) at found in
    slice_split_first p xs 0 (grind (arith, tests, parts.0)) ∙ ap (λ n. take n xs ∷ slice_split p (drop (n + 1) xs)) parts.1

fault-by_tests : (formed long : Bool) → cond (not formed) (Some EINVAL) (cond long (Some ENAMETOOLONG) None)
    ≡ cond (not (formed && true)) (Some EINVAL) (cond (long || false) (Some ENAMETOOLONG) None)
fault-by_tests true true = refl
fault-by_tests true false = refl
fault-by_tests false long = refl

-- what is wrong with one path
pub path_fault-one : (path : List ℕ) → path_fault path ≡ paths_fault (path ∷ [])
path_fault-one path = fault-by_tests (is_well_formed path) (is_too_long path)

-- ---- two paths

-- what is wrong by the tests of a path, and by those of two
abbrev fault_by : Bool → Bool → Option Refusal
fault_by formed long = cond (not formed) (Some EINVAL) (cond long (Some ENAMETOOLONG) None)

abbrev both_by : Bool → Bool → Bool → Bool → Option Refusal
both_by formed formed_too long long_too =
    cond (not (formed && (formed_too && true))) (Some EINVAL) (cond (long || (long_too || false)) (Some ENAMETOOLONG) None)

bad-by : (formed long formed_too long_too : Bool) → fault_by formed long ≡ Some EINVAL
    → fault_by formed long ≡ both_by formed formed_too long long_too
bad-by false long formed_too long_too is = refl
bad-by true true formed_too long_too is = cc
bad-by true false formed_too long_too is = cc

second-by : (formed long formed_too long_too : Bool) (fault : Refusal) → fault_by formed long ≢ Some EINVAL
    → fault_by formed_too long_too ≡ Some fault → Some fault ≡ both_by formed formed_too long long_too
second-by false long formed_too long_too fault other is = absurd (other refl)
second-by true long false long_too fault other is = sym is
second-by true true true true fault other is = sym is
second-by true false true true fault other is = sym is
second-by true true true false fault other is = cc
second-by true false true false fault other is = cc

first-by : (formed long formed_too long_too : Bool) → fault_by formed_too long_too ≡ None
    → fault_by formed long ≡ both_by formed formed_too long long_too
first-by formed long false long_too none = cc
first-by formed long true true none = cc
first-by false long true false none = refl
first-by true true true false none = refl
first-by true false true false none = refl

-- a bad form of the first path is that of both
pub faults-bad : (from to : List ℕ) → path_fault from ≡ Some EINVAL → path_fault from ≡ paths_fault (from ∷ to ∷ [])
faults-bad from to is = bad-by (is_well_formed from) (is_too_long from) (is_well_formed to) (is_too_long to) is

-- else a fault of the second path comes first
pub faults-second : (from to : List ℕ) (fault : Refusal) → path_fault from ≢ Some EINVAL → path_fault to ≡ Some fault
    → Some fault ≡ paths_fault (from ∷ to ∷ [])
faults-second from to fault other is =
    second-by (is_well_formed from) (is_too_long from) (is_well_formed to) (is_too_long to) fault other is

-- and without one there is that of the first
pub faults-first : (from to : List ℕ) → path_fault to ≡ None → path_fault from ≡ paths_fault (from ∷ to ∷ [])
faults-first from to none = first-by (is_well_formed from) (is_too_long from) (is_well_formed to) (is_too_long to) none
