-- Lemmas on which rows are used: those with a block.
use Rattle.std.proofs.Common.{◌≡◌, ℕ, ◌+◌, ◌-◌, ◌*◌, ◌/◌, ◌<◌, ◌≤◌, Bool, true, false, ◌&&◌, ◌||◌, nat_lt, nat_le, filter, max, refl, sym, ap, ◌∙◌, arith, ⊎_elim}
use Rattle.std.proofs.lemmas.Bool.{cases_lt, cases_Bool, both_ways, ltb-true, ltb-false, leb-true, and_right, and_parts}
use Rattle.std.specs.List.{range_with_len}
use Rattle.qblocks.specs.declared.block.TheConstants.{BLOCK_SIZE}
use Rattle.qblocks.specs.declared.row.TheConstants.{ROW_BLOCKS, ROW_SIZE}
use Rattle.qblocks.specs.WriteRoom.{no_room}
use Rattle.qblocks.specs.Row.{in_span, in_pieces, span_end, gaps, gaps_in}
use Rattle.qblocks.specs.Rows.{is_used, in_room}
use Rattle.qblocks.proofs.Spans.{or_no, or_yes, in_span_yes, in_span_before, in_span_behind, in_span_none, span_end_none, span_end_some, span_some, gaps-same, gaps-all, gap_at, no_gap_at, gaps_le}
use Rattle.qblocks.proofs.Indexes.{has, has-filter, has-range}

-- every index that passes begins below the size
abbrev pub Below : (ℕ → Bool) → ℕ → Type 0
Below test size = (k : ℕ) → test k ≡ true → k * BLOCK_SIZE < size

-- the indexes below a bound that pass, as a list
pub has-passing : (test : ℕ → Bool) (n : ℕ) → ((k : ℕ) → test k ≡ true → k < n) → (q : ℕ)
    → has (filter test (range_with_len 0 n)) q ≡ test q
has-passing test n within q =
    has-filter test (range_with_len 0 n) q ∙ ap (λ t. t && test q) (has-range 0 n q)
    ∙ ⊎_elim
    (λ yes. ap (λ t. t && test q) (in_span_yes 0 (0 + n) q (omega arith) (omega (arith, within q yes))))
    (λ fails. and_right (in_span 0 (0 + n) q) (test q) fails ∙ sym fails)
    (cases_Bool (test q))

-- a row with a block begins below the size
pub used_below : (test : ℕ → Bool) (size r : ℕ) → Below test size → is_used test r ≡ true
    → r * ROW_SIZE < size
used_below test size r below used =
    ⊎_elim
    (λ l. l)
    (λ past.
    let all = gaps-all test (r * ROW_BLOCKS) ROW_BLOCKS
    (λ k low high. ⊎_elim (λ yes. absurd (omega (arith, below k yes))) (λ fails. fails)
    (cases_Bool (test k))) in
    absurd (omega (arith, ltb-true (gaps test (r * ROW_BLOCKS) ROW_BLOCKS) ROW_BLOCKS used)))
    (cases_lt (r * ROW_SIZE) size)

-- no room is for no row
pub in_no_room : (r : ℕ) → in_room no_room r ≡ false
in_no_room r = in_span_none _ _ r (omega (arith, span_end_none ROW_SIZE 0 0 refl))

-- a write uses each row that it touches
pub used-written : (p q : ℕ → Bool) (off n r : ℕ)
    → ((k : ℕ) → q k ≡ (p k || in_pieces BLOCK_SIZE off n k))
    → is_used q r ≡ (is_used p r || in_pieces ROW_SIZE off n r)
used-written p q off n r fills =
    ⊎_elim
    (λ before. unused (λ k low high. in_span_before _ _ k (omega arith)) (in_span_before _ _ r before))
    (λ late.
    ⊎_elim
    (λ in'.
    let some = span_some ROW_SIZE off n r late in' in
    let rows = span_end_some ROW_SIZE off n some in
    let end = span_end_some BLOCK_SIZE off n some in
    let k = max (off / BLOCK_SIZE) (r * ROW_BLOCKS) in
    let here : q (max (off / BLOCK_SIZE) (r * ROW_BLOCKS)) ≡ true = fills k ∙ or_yes (p k) _ (in_span_yes _ _ k (omega arith) (omega arith)) in
    let used : is_used q r ≡ true = ⊎_elim
    (λ yes. yes)
    (λ none. absurd (both_ways _
    (gap_at q (r * ROW_BLOCKS) ROW_BLOCKS k
    (omega (
      arith,
      gaps_le q (r * ROW_BLOCKS) ROW_BLOCKS,
      ltb-false (gaps q (r * ROW_BLOCKS) ROW_BLOCKS) ROW_BLOCKS none,
    )) (omega arith) (omega arith)) here))
    (cases_Bool (is_used q r)) in
    used ∙ sym (or_yes (is_used p r) _ (in_span_yes _ _ r late in')))
    (λ past. unused (λ k low high. behind k low past) (in_span_behind _ _ r past))
    (cases_lt r (span_end ROW_SIZE off n)))
    (cases_lt r (off / ROW_SIZE))
  where
    -- a block after the write
    behind : (k : ℕ) → r * ROW_BLOCKS ≤ k → span_end ROW_SIZE off n ≤ r → in_pieces BLOCK_SIZE off n k ≡ false
    behind k low past =
        ⊎_elim
        (λ none. in_span_none _ _ k (omega (arith, span_end_none BLOCK_SIZE off n (omega arith))))
        (λ some. in_span_behind _ _ k (omega (arith, span_end_some BLOCK_SIZE off n (omega arith), span_end_some ROW_SIZE off n (omega arith))))
        (cases_lt n 1)

    -- a row that the write does not touch
    unused : ((k : ℕ) → r * ROW_BLOCKS ≤ k → k < r * ROW_BLOCKS + ROW_BLOCKS → in_pieces BLOCK_SIZE off n k ≡ false)
        → in_pieces ROW_SIZE off n r ≡ false
        → is_used q r ≡ (is_used p r || in_pieces ROW_SIZE off n r)
    unused out none =
        ap (λ (x : ℕ). nat_lt x ROW_BLOCKS) (gaps-same p q (r * ROW_BLOCKS) ROW_BLOCKS (λ k low high. fills k ∙ sym (or_no (p k) _ (out k low high))))
        ∙ or_no (is_used p r) _ none

-- where no block of a write is missing, each row that it touches is used
pub used-touched : (test : ℕ → Bool) (off n r : ℕ) → gaps_in test off n ≡ 0
    → is_used test r ≡ (is_used test r || in_pieces ROW_SIZE off n r)
used-touched test off n r none =
    used-written test test off n r (λ k.
    ⊎_elim
    (λ in'.
    let parts = and_parts (nat_le (off / BLOCK_SIZE) k) (nat_lt k (span_end BLOCK_SIZE off n)) in' in
    let there = no_gap_at test (off / BLOCK_SIZE) (span_end BLOCK_SIZE off n - off / BLOCK_SIZE) k none
    (leb-true _ _ parts.0) (omega (
      arith,
      leb-true (off / BLOCK_SIZE) k parts.0,
      ltb-true k (span_end BLOCK_SIZE off n) parts.1,
    )) in
    there ∙ sym (or_yes (test k) _ in'))
    (or_no (test k) _)
    (cases_Bool (in_pieces BLOCK_SIZE off n k)))
