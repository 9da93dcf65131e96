-- Lemmas on the indexes that a write touches.
use Rattle.std.proofs.Common.{◌≡◌, ℕ, ◌+◌, ◌-◌, ◌*◌, ◌/◌, ◌≤◌, zero, suc, ◌&&◌, ◌||◌, ◌==◌, nat_le, cond, List, [], ◌∷◌, length, refl, sym, ap, ◌∙◌, arith, ⊎_elim}
use Rattle.std.proofs.lemmas.Bool.{cases_lt, cases_order, eq-eqb, ne_eqb, lt-ltb, le-ltb, and_right, and_left, and_from}
use Rattle.qblocks.specs.declared.block.TheConstants.{BLOCK_SIZE}
use Rattle.qblocks.specs.File.{with_index, with_touched, touches, File, after_write, is_allocated}
use Rattle.qblocks.specs.Row.{in_span, span_end, in_pieces, gaps, gaps_in}
use Rattle.qblocks.proofs.Spans.{or_no, in_span_yes, in_span_before, in_span_behind, in_span_none, span_end_none, span_end_some}
use Rattle.qblocks.proofs.Indexes.{has, Rises, same_indexes, or_swap, has-with_index, Rises-with_index, length-with_index}

-- the indexes, with the n from first on
with_span : List ℕ → ℕ → ℕ → List ℕ
with_span xs first zero = xs
with_span xs first (suc n) = with_index (with_span xs first n) (first + n)

-- a span with one index more at its end
span_last : (first end last q : ℕ) → first ≤ last → last ≤ end → end ≤ last + 1
    → ((last == q) || in_span first end q) ≡ in_span first (last + 1) q
span_last first end last q a b c =
    ⊎_elim
    (λ e. ap (λ t. t || in_span first end q) (eq-eqb last q e) ∙ sym (in_span_yes first (last + 1) q (omega (arith, e)) (omega (arith, e))))
    (⊎_elim
    (λ above.
    ap (λ t. t || in_span first end q) (ne_eqb last q (λ e. absurd (omega arith)))
    ∙ in_span_behind first end q (omega arith) ∙ sym (in_span_behind first (last + 1) q (omega arith)))
    (λ under.
    ap (λ t. t || in_span first end q) (ne_eqb last q (λ e. absurd (omega arith)))
    ∙ ap (λ t. nat_le first q && t) (lt-ltb q end (omega arith) ∙ sym (lt-ltb q (last + 1) (omega arith)))))
    (cases_order last q)

-- the span is in the list, and no other index
has-with_span : (xs : List ℕ) (first n q : ℕ)
    → has (with_span xs first n) q ≡ (has xs q || in_span first (first + n) q)
unfolding with_span
has-with_span xs first zero q = or_no (has xs q) _ (in_span_none first (first + 0) q (omega arith))
has-with_span xs first (suc n) q =
    let end : first + n + 1 ≡ first + suc n = omega arith in
    has-with_index (with_span xs first n) (first + n) q ∙ ap (λ t. (first + n == q) || t) (has-with_span xs first n q)
    ∙ or_swap (first + n == q) (has xs q) (in_span first (first + n) q)
    ∙ ap (λ t. has xs q || t) (span_last first (first + n) (first + n) q (omega arith) (omega arith) (omega arith) ∙ ap (λ (e : ℕ). in_span first e q) end)

-- the list stays in order with a span more
Rises-with_span : (xs : List ℕ) (first n : ℕ) → Rises 0 xs → Rises 0 (with_span xs first n)
unfolding with_span
Rises-with_span xs first zero rises = rises
Rises-with_span xs first (suc n) rises = Rises-with_index 0 (with_span xs first n) (first + n) (Rises-with_span xs first n rises) (omega arith)

-- the list grows by what of the span was missing
length-with_span : (xs : List ℕ) (first n : ℕ) → Rises 0 xs
    → length (with_span xs first n) ≡ length xs + gaps (has xs) first n
unfolding with_span gaps
length-with_span xs first zero rises = omega arith
length-with_span xs first (suc n) rises =
    let more = length-with_index 0 (with_span xs first n) (first + n) (Rises-with_span xs first n rises) in
    let seen = has-with_span xs first n (first + n) ∙ sym (or_no (has xs (first + n)) _ (in_span_behind first (first + n) (first + n) (omega arith))) in
    omega (arith, more, ap {B = ℕ} (λ t. cond t 0 1) seen, length-with_span xs first n rises)

-- what a write touches is in the list, and no other index
pub has-with_touched : (xs : List ℕ) (off n q : ℕ)
    → has (with_touched xs off n) q ≡ (has xs q || in_pieces BLOCK_SIZE off n q)
unfolding with_touched
has-with_touched xs off zero q = or_no (has xs q) _ (in_span_none _ _ q (omega (arith, span_end_none BLOCK_SIZE off 0 refl)))
has-with_touched xs off (suc n) q =
    let first = off / BLOCK_SIZE in
    let last = (off + n) / BLOCK_SIZE in
    let end = span_end BLOCK_SIZE off n in
    let more = span_end_some BLOCK_SIZE off (suc n) (omega arith) in
    let near : (last ≤ end) × (end ≤ last + 1) =
    ⊎_elim
    (λ none. let e = span_end_none BLOCK_SIZE off n (omega arith) in (omega arith, omega arith))
    (λ some. let e = span_end_some BLOCK_SIZE off n (omega arith) in (omega arith, omega arith))
    (cases_lt n 1) in
    let same_end : last + 1 ≡ span_end BLOCK_SIZE off (suc n) = omega arith in
    has-with_index (with_touched xs off n) last q ∙ ap (λ t. (last == q) || t) (has-with_touched xs off n q)
    ∙ or_swap (last == q) (has xs q) (in_pieces BLOCK_SIZE off n q)
    ∙ ap (λ t. has xs q || t) (span_last first end last q (omega arith) near.0 near.1 ∙ ap (λ (e : ℕ). in_span first e q) same_end)

-- the list stays in order after a write
pub Rises-with_touched : (xs : List ℕ) (off n : ℕ) → Rises 0 xs → Rises 0 (with_touched xs off n)
unfolding with_touched
Rises-with_touched xs off zero rises = rises
Rises-with_touched xs off (suc n) rises = Rises-with_index 0 (with_touched xs off n) ((off + n) / BLOCK_SIZE) (Rises-with_touched xs off n rises) (omega arith)

-- how many blocks a write adds
pub length-with_touched : (xs : List ℕ) (off n : ℕ) → Rises 0 xs
    → length (with_touched xs off n) ≡ length xs + gaps_in (has xs) off n
length-with_touched xs off n rises =
    let first = off / BLOCK_SIZE in
    let count = span_end BLOCK_SIZE off n - off / BLOCK_SIZE in
    let up : first ≤ span_end BLOCK_SIZE off n =
    ⊎_elim (λ none. omega (arith, span_end_none BLOCK_SIZE off n (omega arith)))
    (λ some. omega (arith, span_end_some BLOCK_SIZE off n (omega arith))) (cases_lt n 1) in
    let end : span_end BLOCK_SIZE off n ≡ first + count = omega arith in
    ap length (same_indexes 0 (with_touched xs off n) (with_span xs first count)
    (Rises-with_touched xs off n rises) (Rises-with_span xs first count rises) (λ q.
    has-with_touched xs off n q ∙ ap (λ (e : ℕ). has xs q || in_span first e q) end ∙ sym (has-with_span xs first count q)))
    ∙ length-with_span xs first count rises

-- the write touches the block as its first and last bytes say
pub touches_is : (off n q : ℕ) → in_pieces BLOCK_SIZE off n q ≡ touches off n q
touches_is off n q =
    ⊎_elim
    (λ none. in_span_none _ _ q (omega (arith, span_end_none BLOCK_SIZE off n (omega arith))) ∙ sym (and_right _ _ (le-ltb 0 n (omega arith))))
    (λ some.
    let end = span_end_some BLOCK_SIZE off n (omega arith) in
    ⊎_elim
    (λ before. in_span_before _ _ q before ∙ sym (and_left _ _ (and_right _ _ (le-ltb off (q * BLOCK_SIZE + BLOCK_SIZE) (omega arith)))))
    (λ late.
    ⊎_elim
    (λ in'. in_span_yes _ _ q late in'
    ∙ sym (and_from _ _ (and_from _ _ (lt-ltb (q * BLOCK_SIZE) (off + n) (omega arith))
    (lt-ltb off (q * BLOCK_SIZE + BLOCK_SIZE) (omega arith))) (lt-ltb 0 n (omega arith))))
    (λ past. in_span_behind _ _ q past ∙ sym (and_left _ _ (and_left _ _ (le-ltb (q * BLOCK_SIZE) (off + n) (omega arith)))))
    (cases_lt q (span_end BLOCK_SIZE off n)))
    (cases_lt q (off / BLOCK_SIZE)))
    (cases_lt n 1)

-- a write of nothing changes nothing
pub after_write_none : (file : File) (off : ℕ) (input : List ℕ) → length input ≡ 0
    → after_write file off input ≡ file
unfolding after_write
after_write_none file off [] none = refl
after_write_none file off (d ∷ ds) none = absurd (omega arith)

-- the number of blocks after a write
pub length-after_write : (file : File) (off : ℕ) (input : List ℕ)
    → length (after_write file off input).allocated ≡ length (with_touched file.allocated off (length input))
unfolding after_write with_touched
length-after_write file off [] = refl
length-after_write file off (d ∷ ds) = refl

-- the blocks that are allocated after a write, in the words of the rule
pub is_allocated-after_write : (file : File) (off : ℕ) (input : List ℕ) (k : ℕ)
    → is_allocated (after_write file off input) k ≡ (is_allocated file k || touches off (length input) k)
unfolding after_write
is_allocated-after_write file off [] k = or_no (is_allocated file k) _ (and_right _ _ (le-ltb 0 0 (omega arith)))
is_allocated-after_write file off (d ∷ ds) k =
    has-with_touched file.allocated off (length (d ∷ ds)) k ∙ ap (λ t. is_allocated file k || t) (touches_is off (length (d ∷ ds)) k)
