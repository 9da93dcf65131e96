-- Lemmas on the rows of a file as one run of slots.
use Rattle.std.proofs.Common.{◌≡◌, ◌≢◌, ℕ, ◌+◌, ◌-◌, ◌*◌, ◌/◌, ◌%◌, ◌<◌, ◌≤◌, ◌||◌, List, length, is_some, sym, ap, ◌∙◌, arith, ⊎_elim}
use Rattle.std.proofs.lemmas.Bool.{cases_lt, cases_eq}
use Rattle.qblocks.specs.declared.block.TheConstants.{BLOCK_SIZE}
use Rattle.qblocks.specs.declared.row.TheConstants.{ROW_BLOCKS, ROW_SIZE}
use Rattle.qblocks.specs.Row.{Puts, in_pieces, span_end, gaps, gaps_in, byte_of, slot_at, row_filled, row_byte}
use Rattle.qblocks.specs.Rows.{Table, row_of, slot_in, filled, byte_at}
use Rattle.qblocks.proofs.Spans.{or_no, in_span_before, in_span_behind, span_end_some, gaps-shift, same_span}

module _ {Z : Type 0} where
  -- a byte of the row r
  pub byte_at-row : (m : Table Z) (r x : ℕ) → x < ROW_SIZE
      → byte_at m (r * ROW_SIZE + x) ≡ row_byte (row_of m r) x
  byte_at-row m r x l =
      let o = r * ROW_SIZE + x in
      let row : (r * ROW_SIZE + x) / BLOCK_SIZE / ROW_BLOCKS ≡ r = omega arith in
      let block : (r * ROW_SIZE + x) / BLOCK_SIZE % ROW_BLOCKS ≡ x / BLOCK_SIZE = omega arith in
      let byte : (r * ROW_SIZE + x) % BLOCK_SIZE ≡ x % BLOCK_SIZE = omega arith in
      ap (λ (q : ℕ). byte_of (slot_at (row_of m q) (o / BLOCK_SIZE % ROW_BLOCKS)) (o % BLOCK_SIZE)) row
      ∙ ap (λ (j : ℕ). byte_of (slot_at (row_of m r) j) (o % BLOCK_SIZE)) block
      ∙ ap (byte_of (slot_at (row_of m r) (x / BLOCK_SIZE))) byte

  -- the byte at an offset in the row r
  pub byte_at-own : (m : Table Z) (r o : ℕ) → o / ROW_SIZE ≡ r
      → byte_at m o ≡ row_byte (row_of m r) (o % ROW_SIZE)
  byte_at-own m r o e =
      let whole : o ≡ r * ROW_SIZE + o % ROW_SIZE = omega (arith, e) in
      ap (byte_at m) whole ∙ byte_at-row m r (o % ROW_SIZE) (omega arith)

  -- two tables with the same row at an offset
  pub byte_at-same : (m n : Table Z) (o : ℕ)
      → row_of n (o / BLOCK_SIZE / ROW_BLOCKS) ≡ row_of m (o / BLOCK_SIZE / ROW_BLOCKS)
      → byte_at n o ≡ byte_at m o
  byte_at-same m n o same = ap (λ row. byte_of (slot_at row (o / BLOCK_SIZE % ROW_BLOCKS)) (o % BLOCK_SIZE)) same

  -- a slot of the row r
  pub slot_in-row : (m : Table Z) (r j : ℕ) → j < ROW_BLOCKS
      → slot_in m (r * ROW_BLOCKS + j) ≡ slot_at (row_of m r) j
  slot_in-row m r j l =
      let row : (r * ROW_BLOCKS + j) / ROW_BLOCKS ≡ r = omega arith in
      let slot : (r * ROW_BLOCKS + j) % ROW_BLOCKS ≡ j = omega arith in
      ap (λ (q : ℕ). slot_at (row_of m q) ((r * ROW_BLOCKS + j) % ROW_BLOCKS)) row ∙ ap (slot_at (row_of m r)) slot

  -- how many slots of a row hold no block
  pub gaps-row : (m : Table Z) (r first n : ℕ) → first + n ≤ ROW_BLOCKS
      → gaps (filled m) (r * ROW_BLOCKS + first) n ≡ gaps (row_filled (row_of m r)) first n
  gaps-row m r first n l =
      gaps-shift (row_filled (row_of m r)) (filled m) (r * ROW_BLOCKS) first n (λ k _ h. ap is_some (slot_in-row m r k (omega arith)))

  -- how many blocks a write into one row takes
  pub gaps_in-row : (m : Table Z) (r at n : ℕ) → 0 < n → at + n ≤ ROW_SIZE
      → gaps_in (filled m) (r * ROW_SIZE + at) n ≡ gaps_in (row_filled (row_of m r)) at n
  gaps_in-row m r at n some fits =
      let first : (r * ROW_SIZE + at) / BLOCK_SIZE ≡ r * ROW_BLOCKS + at / BLOCK_SIZE = omega arith in
      let here = span_end_some BLOCK_SIZE at n some in
      let there = span_end_some BLOCK_SIZE (r * ROW_SIZE + at) n some in
      let count : span_end BLOCK_SIZE (r * ROW_SIZE + at) n - (r * ROW_SIZE + at) / BLOCK_SIZE ≡ span_end BLOCK_SIZE at n - at / BLOCK_SIZE = omega arith in
      ap (gaps (filled m) ((r * ROW_SIZE + at) / BLOCK_SIZE)) count
      ∙ ap (λ (x : ℕ). gaps (filled m) x (span_end BLOCK_SIZE at n - at / BLOCK_SIZE)) first
      ∙ gaps-row m r (at / BLOCK_SIZE) (span_end BLOCK_SIZE at n - at / BLOCK_SIZE) (omega arith)

  -- a write into one row
  module _ (m n : Table Z) (r at : ℕ) (part : List ℕ) (some : 0 < length part)
      (fits : at + length part ≤ ROW_SIZE) (others : (q : ℕ) → q ≢ r → row_of n q ≡ row_of m q) where
    -- a byte outside of the row stays
    other_byte : (o : ℕ) → (o / ROW_SIZE ≡ r → ⊥) → byte_at n o ≡ byte_at m o
    other_byte o ne = byte_at-same m n o (others (o / BLOCK_SIZE / ROW_BLOCKS) (λ e. ne (omega (arith, e))))

    -- a byte of the row stays if it does in the row
    own_byte : (o : ℕ) → o / ROW_SIZE ≡ r
        → row_byte (row_of n r) (o % ROW_SIZE) ≡ row_byte (row_of m r) (o % ROW_SIZE)
        → byte_at n o ≡ byte_at m o
    own_byte o e same = byte_at-own n r o e ∙ same ∙ sym (byte_at-own m r o e)

    -- what the row sees is what all rows see
    pub Puts-row : (a b : ℕ)
        → Puts (row_byte (row_of m r)) (row_byte (row_of n r)) (row_filled (row_of m r)) (row_filled (row_of n r)) a b at part
        → Puts (byte_at m) (byte_at n) (filled m) (filled n) a b (r * ROW_SIZE + at) part
    Puts-row a b puts = record {
      writes = record {
        inside = λ i l.
            let whole : r * ROW_SIZE + at + i ≡ r * ROW_SIZE + (at + i) = omega arith in
            ap (byte_at n) whole ∙ byte_at-row n r (at + i) (omega arith) ∙ puts.writes.inside i l;
        before = λ o l.
            ⊎_elim
            (λ e. own_byte o e (puts.writes.before (o % ROW_SIZE) (omega arith)))
            (other_byte o)
            (cases_eq (o / ROW_SIZE) r);
        behind = λ o l.
            ⊎_elim
            (λ e. own_byte o e (puts.writes.behind (o % ROW_SIZE) (omega arith)))
            (other_byte o)
            (cases_eq (o / ROW_SIZE) r);
      };
      fills = λ k.
          let here = span_end_some BLOCK_SIZE at (length part) some in
          let there = span_end_some BLOCK_SIZE (r * ROW_SIZE + at) (length part) some in
          ⊎_elim
          (λ e.
          let j = k % ROW_BLOCKS in
          let row : k / ROW_BLOCKS ≡ r = e in
          ap (λ (q : ℕ). is_some (slot_at (row_of n q) j)) row ∙ puts.fills j
          ∙ ap (λ t. row_filled (row_of m r) j || t)
          (same_span (at / BLOCK_SIZE) (span_end BLOCK_SIZE at (length part)) j _ _ k (r * ROW_BLOCKS)
          (omega arith) (omega arith) (omega arith))
          ∙ ap (λ (q : ℕ). is_some (slot_at (row_of m q) j) || in_pieces BLOCK_SIZE (r * ROW_SIZE + at) (length part) k) (sym row))
          (λ ne.
          ap (λ row. is_some (slot_at row (k % ROW_BLOCKS))) (others (k / ROW_BLOCKS) ne)
          ∙ or_no (filled m k) _ (⊎_elim (λ l. in_span_before _ _ k (omega arith))
          (λ l. in_span_behind _ _ k (omega (arith, ne))) (cases_lt k (r * ROW_BLOCKS))))
          (cases_eq (k / ROW_BLOCKS) r);
      spare = omega (arith, gaps_in-row m r at (length part) some fits, puts.spare);
    }
