-- Where a byte stands first, looked for in lanes.
use Rattle.std.proofs.Common.{◌≡◌, ℕ, ◌+◌, ◌≤◌, ◌<◌, Bool, false, List, length, get_or, map, sym, ap, ◌∙◌, arith, ⊎_elim}
use Rattle.std.specs.List.{position_or_len}
use Rattle.std.proofs.lemmas.Bool.{cases_lt}
use Rattle.std.proofs.lemmas.List.Sums.{position_or_len_is}
use Rattle.std.proofs.lemmas.Simd.{leading_from_mask_l, trailing_mask_l, run_in_chunk_le, run_in_chunk_fails, run_in_chunk_stops}
use lib.Count.{count_trailing_zeros}
use lib.Lanes.{chunk, mask_l}

-- lanes of which a mask tells those that hold the byte
module _ (is_hit : ℕ → Bool) (v : List ℕ) (n mask : ℕ) (long : length v ≡ n) (few : n ≤ 64) (is : mask ≡ mask_l (map is_hit v)) where
  pub none_hit : mask ≡ 0 → n ≡ position_or_len is_hit v
  none_hit none = sym (leading_from_mask_l is_hit v (sym is ∙ none) ∙ long)

  pub first_hit : 0 < mask → count_trailing_zeros 64 mask ≡ position_or_len is_hit v
  first_hit some =
      let here : 0 < mask_l (map is_hit v) = rw is at some in
      ap (count_trailing_zeros 64) is ∙ trailing_mask_l is_hit 64 v (omega (arith, long, few)) here

module _ (is_hit : ℕ → Bool) (bytes : List ℕ) where
  -- it is none of the first N bytes
  abbrev pub IsPassed : ℕ → Type 0
  IsPassed n = (k : ℕ) → k < n → is_hit (get_or bytes k 0) ≡ false

  -- where none of the first bytes is it, and N more were looked at
  module _ (at n run : ℕ) (room : at + n ≤ length bytes) (counted : run ≡ position_or_len is_hit (chunk at n bytes)) (passed : IsPassed at) where
    before : IsPassed (at + run)
    before k low =
        ⊎_elim (λ early. passed k early) (λ late. run_in_chunk_fails is_hit bytes at n run 0 room counted k (omega (arith, late)) low) (cases_lt k at)

    -- it is none of these either
    pub passes_on : n ≤ run → IsPassed (at + n)
    passes_on all =
        let whole : run ≡ n = omega (arith, all, run_in_chunk_le is_hit bytes at n run 0 room counted) in
        rw (← whole) before

    -- it stands among these, or there are no more bytes
    pub stands : (at + run < length bytes → run < n) → at + run ≡ position_or_len is_hit bytes
    stands within =
        sym (position_or_len_is is_hit bytes (at + run) 0 (omega (arith, run_in_chunk_le is_hit bytes at n run 0 room counted)) before
        (λ inside. run_in_chunk_stops is_hit bytes at n run 0 room counted (within inside)))
