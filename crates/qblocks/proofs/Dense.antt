-- Where no block below the size is missing, those that a write adds are the ones past all that are there.
use Rattle.std.proofs.Common.{◌≡◌, ℕ, ◌+◌, ◌-◌, ◌*◌, ◌/◌, ◌<◌, ◌≤◌, zero, suc, Bool, true, false, cond, min, max, length, refl, ap, arith, ⊎_elim}
use Rattle.std.proofs.lemmas.Bool.{cases_Bool}
use Rattle.qblocks.specs.declared.block.TheConstants.{BLOCK_SIZE}
use Rattle.qblocks.specs.Row.{gaps, gaps_in, span_end}
use Rattle.qblocks.specs.Rows.{Table, allocated_of, filled}
use Rattle.qblocks.proofs.Spans.{gaps-all, gaps-split, no_gap_at}
use Rattle.qblocks.proofs.Used.{Below}
use Rattle.qblocks.proofs.View.{length-allocated_of, allocated_le}

-- where all pass, there is no gap
gaps-full : (p : ℕ → Bool) (first n : ℕ) → ((k : ℕ) → first ≤ k → k < first + n → p k ≡ true) → gaps p first n ≡ 0
unfolding gaps
gaps-full p first zero all = refl
gaps-full p first (suc n) all =
    omega (
      arith,
      gaps-full p first n (λ k from under. all k from (omega (arith, under))),
      ap {B = ℕ} (λ t. cond t 0 1) (all (first + n) (omega arith) (omega arith)),
    )

-- where as many pass as stand below the count, and none at it or past it, the gaps are those past it
gaps-past : (p : ℕ → Bool) (count first n : ℕ) → gaps p 0 count ≡ 0 → ((k : ℕ) → count ≤ k → p k ≡ false)
    → gaps p first n ≡ first + n - max first count
gaps-past p count first n full past =
    let a = min n (count - first) in
    let b = n - a in
    let whole : n ≡ a + b = omega arith in
    let none = gaps-full p first a (λ k from under. no_gap_at p 0 count k full (omega arith) (omega (arith, from, under))) in
    let all = gaps-all p (first + a) b (λ k from under. past k (omega (arith, from, under))) in
    omega (arith, ap (gaps p first) whole, gaps-split p first a b, none, all)

module _ {Z : Type 0} (m : Table Z) (size count : ℕ) (counted : count ≡ length (allocated_of m size)) (below : Below (filled m) size)
    (dense : size ≤ count * BLOCK_SIZE) where
  -- at the count and past it no block is there
  none_past : (k : ℕ) → count ≤ k → filled m k ≡ false
  none_past k past =
      ⊎_elim (λ yes. absurd (omega (arith, below k yes, dense, past))) (λ no. no) (cases_Bool (filled m k))

  -- below it each one is
  all_before : gaps (filled m) 0 count ≡ 0
  all_before =
      let low = allocated_le m size below in
      let all = length-allocated_of m size size below (omega arith) in
      let whole : size ≡ count + (size - count) = omega (arith, low, counted) in
      let behind = gaps-all (filled m) (0 + count) (size - count) (λ k from under. none_past k (omega (arith, from))) in
      omega (arith, all, counted, behind, ap (gaps (filled m) 0) whole, gaps-split (filled m) 0 count (size - count))

  -- so a write adds what it touches past it
  pub dense_gaps : (off n : ℕ) → gaps_in (filled m) off n ≡ span_end BLOCK_SIZE off n - max (off / BLOCK_SIZE) count
  dense_gaps off n =
      let first = off / BLOCK_SIZE in
      let is = gaps-past (filled m) count first (span_end BLOCK_SIZE off n - first) all_before none_past in
      omega (arith, is)
