-- The blocks that are left from an index on, where the indexes of all rise.
use Rattle.std.proofs.Common.{◌≡◌, ℕ, ◌+◌, ◌<◌, ◌≤◌, suc, Bool, true, false, cond, nat_le, List, [], ◌∷◌, ◌++◌, filter}
use Rattle.std.proofs.Common.{length, All, Option, Some, None, refl, sym, ap, ◌∙◌, arith}
use Rattle.std.specs.List.{flat_map}
use Rattle.std.specs.List.Sorted.{IsStrictlyIncreasing}
use Rattle.std.specs.Ordering.{nat_cmp}
use Rattle.std.proofs.lemmas.Bool.{le-leb, leb-false, leb-true, lt-leb}
use Rattle.std.proofs.lemmas.List.Concat.{flat_map-cons}
use Rattle.std.proofs.lemmas.List.Elements.{All-cons, All-head, All-tail}
use Rattle.std.proofs.lemmas.List.Kept.{AllPairs-from_increasing}
use Rattle.std.proofs.lemmas.Map.Keys.{IsStrictlyIncreasing-from_sorted, sorted_from_strictly_increasing, sorted_tail}
use Rattle.qblocks.specs.File.{File, next_from}
use Rattle.qplain.specs.Ranges.{AreBytes}
use Rattle.qplain_image.specs.Blocks.{block_in}
use Rattle.qtext_image_write.specs.Lines.{block_text}

all_kept : (p : ℕ → Bool) (ks : List ℕ) → All (λ k. p k ≡ true) ks → filter p ks ≡ ks
all_kept p [] all = refl
all_kept p (k ∷ ks) all =
    let Passes : ℕ → Type 0 = λ x. p x ≡ true in
    rw (All-head Passes k ks all) (ap (λ (l : List ℕ). k ∷ l) (all_kept p ks (All-tail Passes k ks all)))

rise_on : (k : ℕ) (ks : List ℕ) → IsStrictlyIncreasing (k ∷ ks) → IsStrictlyIncreasing ks
rise_on k ks rise =
    IsStrictlyIncreasing-from_sorted ks (sorted_tail nat_cmp k ks (sorted_from_strictly_increasing (k ∷ ks) rise))

-- all that stand behind one are kept from it on, and from before it on
behind_kept : (from k : ℕ) (ks : List ℕ) → IsStrictlyIncreasing (k ∷ ks) → from ≤ k + 1 → filter (nat_le from) ks ≡ ks
behind_kept from k ks rise le = all_kept (nat_le from) ks λ i d lt.
    let above = AllPairs-from_increasing (k ∷ ks) rise 0 (suc i) d (omega arith) (omega (arith, lt)) in
    le-leb from _ (omega (arith, le, above))

-- all are left from the first index on
pub all_left : (ks : List ℕ) → filter (nat_le 0) ks ≡ ks
all_left ks = all_kept (nat_le 0) ks (λ i d lt. le-leb 0 _ (omega arith))

none_found : (b : Bool) (k : ℕ) (next : Option ℕ) → cond b (Some k) next ≡ None → (b ≡ false) × (next ≡ None)
none_found true k next e = absurd (cc e)
none_found false k next e = (refl, e)

-- none is left where none is found
pub none_left : (from : ℕ) (ks : List ℕ) → next_from from ks ≡ None → filter (nat_le from) ks ≡ []
none_left from [] none = refl
none_left from (k ∷ ks) none =
    let so = none_found (nat_le from k) k (next_from from ks) none in
    rw so.0 (none_left from ks so.1)

found_from : (from k : ℕ) (ks : List ℕ) → next_from from ks ≡ Some k → from ≤ k
found_from from k [] found = absurd (cc found)
found_from from k (x ∷ xs) found = by (nat_le from x) refl found (found_from from k xs)
  where
    by : (b : Bool) → nat_le from x ≡ b → cond b (Some x) (next_from from xs) ≡ Some k
        → (next_from from xs ≡ Some k → from ≤ k) → from ≤ k
    by true at found later = let same : x ≡ k = cc found in rw (← same) (leb-true from x at)
    by false at found later = later found

-- the one that is found is the first that is left, and those behind it are left after it
left_on : (from k : ℕ) (ks : List ℕ) → IsStrictlyIncreasing ks → next_from from ks ≡ Some k
    → filter (nat_le from) ks ≡ k ∷ filter (nat_le (k + 1)) ks
left_on from k [] rise found = absurd (cc found)
left_on from k (x ∷ xs) rise found = by (nat_le from x) refl found (left_on from k xs (rise_on x xs rise))
  where
    by : (b : Bool) → nat_le from x ≡ b → cond b (Some x) (next_from from xs) ≡ Some k
        → (next_from from xs ≡ Some k → filter (nat_le from) xs ≡ k ∷ filter (nat_le (k + 1)) xs)
        → cond b (x ∷ filter (nat_le from) xs) (filter (nat_le from) xs)
        ≡ k ∷ cond (nat_le (k + 1) x) (x ∷ filter (nat_le (k + 1)) xs) (filter (nat_le (k + 1)) xs)
    by true at found later =
        let same : k ≡ x = cc found in
        let here : from ≤ x = leb-true from x at in
        rw (
          same,
          lt-leb (x + 1) x (omega arith),
          behind_kept from x xs rise (omega (arith, here)),
          behind_kept (x + 1) x xs rise (omega arith),
        ) refl
    by false at found later =
        let before : x < from = leb-false from x at in
        let reached : from ≤ k = found_from from k xs found in
        rw (lt-leb (k + 1) x (omega (arith, before, reached))) (later found)

module _ (from k : ℕ) (next : Option ℕ) (is : next ≡ Some k) where
  -- fewer are left behind the one that is found
  pub fewer_left : (ks : List ℕ) → IsStrictlyIncreasing ks → next ≡ next_from from ks
      → length (filter (nat_le (k + 1)) ks) < length (filter (nat_le from) ks)
  fewer_left ks rise found = rw (left_on from k ks rise (sym found ∙ is)) (omega arith)

  -- the lines that are left begin with that of the block that is found
  pub lines_left : (file : File) → IsStrictlyIncreasing file.allocated → next ≡ next_from from file.allocated
      → flat_map (block_text file) (filter (nat_le from) file.allocated)
      ≡ block_text file k ++ flat_map (block_text file) (filter (nat_le (k + 1)) file.allocated)
  lines_left file rise found =
      ap (flat_map (block_text file)) (left_on from k file.allocated rise (sym found ∙ is))
      ∙ flat_map-cons (block_text file) k (filter (nat_le (k + 1)) file.allocated)

  -- what is known of the block that is found and of those behind it is known of all that are left
  pub held_left : (file : File) → IsStrictlyIncreasing file.allocated → next ≡ next_from from file.allocated
      → AreBytes (block_in file k) → All (λ x. AreBytes (block_in file x)) (filter (nat_le (k + 1)) file.allocated)
      → All (λ x. AreBytes (block_in file x)) (filter (nat_le from) file.allocated)
  held_left file rise found here rest = rw (left_on from k file.allocated rise (sym found ∙ is))
      (All-cons (λ x. AreBytes (block_in file x)) k (filter (nat_le (k + 1)) file.allocated) here rest)
