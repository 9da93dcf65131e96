-- Lemmas on the file that the rows and the size stand for.
use Rattle.std.proofs.Common.{◌≡◌, ℕ, ◌+◌, ◌-◌, ◌*◌, ◌/◌, ◌%◌, ◌<◌, ◌≤◌, ◌&&◌, ◌||◌, nat_lt, cond, List, [], ◌∷◌, length, take, drop, map, filter, max, min, is_some, refl, sym, ap, ◌∙◌, arith, length-drop}
use Rattle.std.proofs.Math.ListN.{length-take}
use Rattle.std.proofs.lemmas.Bool.{le-leb, lt-leb, ltb-true, and_parts}
use Rattle.std.proofs.lemmas.Grind.{same_number_lists}
use Rattle.std.proofs.lemmas.List.{get_or-take, get_or-drop}
use Rattle.std.proofs.lemmas.List.FromFn.{length-range_with_len, get_or-range_with_len, length-map-range_with_len, get_or-map-range_with_len}
use Rattle.std.specs.List.{range_with_len}
use Rattle.qblocks.specs.declared.block.TheConstants.{BLOCK_SIZE}
use Rattle.std.specs.List.Sorted.{IsStrictlyIncreasing}
use Rattle.std.proofs.lemmas.List.Kept.{IsStrictlyIncreasing-filter}
use Rattle.qblocks.specs.File.{empty_file, after_write, after_truncate, with_touched, begins_below}
use Rattle.qblocks.specs.Row.{Puts, in_pieces, span_end, gaps, gaps_in, byte_of}
use Rattle.qblocks.specs.Rows.{Table, filled, byte_at, SameBlocks, bytes_of, allocated_of, file_of}
use Rattle.qblocks.proofs.Spans.{gaps-same}
use Rattle.qblocks.proofs.Bytes.{bytes-written, bytes-resized}
use Rattle.qblocks.proofs.Indexes.{has, Rises, same_indexes, Rises-filter, has-filter, Rises-range, length-filter_range}
use Rattle.qblocks.proofs.Touched.{has-with_touched, Rises-with_touched, length-with_touched}
use Rattle.qblocks.proofs.Used.{Below, has-passing}

module _ {Z : Type 0} where
  -- there are as many bytes as the size says
  pub length-bytes_of : (m : Table Z) (size : ℕ) → length (bytes_of m size) ≡ size
  unfolding bytes_of
  length-bytes_of m size = length-map-range_with_len (byte_at m) 0 size

  -- the allocated indexes are those with a block
  pub has-allocated_of : (m : Table Z) (size : ℕ) → Below (filled m) size → (q : ℕ)
      → has (allocated_of m size) q ≡ filled m q
  unfolding allocated_of
  has-allocated_of m size below q = has-passing (filled m) size (λ k yes. omega (arith, below k yes)) q

  -- they are in order
  pub Rises-allocated_of : (m : Table Z) (size : ℕ) → Rises 0 (allocated_of m size)
  unfolding allocated_of
  Rises-allocated_of m size = Rises-filter 0 (filled m) (range_with_len 0 size) (Rises-range 0 size)

  -- how many blocks there are, by what is missing below a bound
  pub length-allocated_of : (m : Table Z) (size bound : ℕ) → Below (filled m) size → size ≤ bound
      → length (allocated_of m size) + gaps (filled m) 0 bound ≡ bound
  length-allocated_of m size bound below l =
      let passing = filter (filled m) (range_with_len 0 bound) in
      let same : allocated_of m size ≡ passing =
      same_indexes 0 (allocated_of m size) passing (Rises-allocated_of m size)
      (Rises-filter 0 (filled m) (range_with_len 0 bound) (Rises-range 0 bound)) (λ q.
      has-allocated_of m size below q ∙ sym (has-passing (filled m) bound (λ k yes. omega (arith, below k yes)) q)) in
      omega (arith, ap length same, length-filter_range (filled m) 0 bound)

  -- there are fewer blocks than bytes
  pub allocated_le : (m : Table Z) (size : ℕ) → Below (filled m) size → length (allocated_of m size) ≤ size
  allocated_le m size below = omega (arith, length-allocated_of m size size below (omega arith))

  -- the same blocks make the same file
  pub file_of-same : (m n : Table Z) (size : ℕ) → SameBlocks m n → file_of n size ≡ file_of m size
  unfolding bytes_of allocated_of
  file_of-same m n size same =
      λ i. record {
        bytes = map (λ o. byte_of (same.slots (o / BLOCK_SIZE) i) (o % BLOCK_SIZE)) (range_with_len 0 size);
        allocated = filter (λ k. is_some (same.slots k i)) (range_with_len 0 size);
      }

  -- how many blocks a write would add
  pub missing_blocks : (m : Table Z) (size off n : ℕ) → Below (filled m) size
      → gaps_in (filled m) off n + length (allocated_of m size) ≡ length (with_touched (allocated_of m size) off n)
  missing_blocks m size off n below =
      let first = off / BLOCK_SIZE in
      let count = span_end BLOCK_SIZE off n - off / BLOCK_SIZE in
      omega (
        arith,
        length-with_touched (allocated_of m size) off n (Rises-allocated_of m size),
        gaps-same (filled m) (has (allocated_of m size)) first count
            (λ k _ _. has-allocated_of m size below k),
      )

  -- a file after a write
  pub file_of-written : (m n : Table Z) (size a b off : ℕ) (input : List ℕ) (to : ℕ)
      → Puts (byte_at m) (byte_at n) (filled m) (filled n) a b off input → 0 < length input
      → to ≡ max size (off + length input) → Below (filled m) size
      → ((o : ℕ) → size ≤ o → byte_at m o ≡ 0) → Below (filled n) to
      → file_of n to ≡ after_write (file_of m size) off input
  unfolding after_write bytes_of
  file_of-written m n size a b off [] to puts some ends below tail below' = absurd (omega arith)
  file_of-written m n size a b off (d ∷ ds) to puts some ends below tail below' =
      let bytes = bytes-written (byte_at m) (byte_at n) size tail off (d ∷ ds) to puts.writes ends in
      let allocated = same_indexes 0 (allocated_of n to)
      (with_touched (allocated_of m size) off (length (d ∷ ds))) (Rises-allocated_of n to)
      (Rises-with_touched (allocated_of m size) off (length (d ∷ ds)) (Rises-allocated_of m size)) (λ q.
      has-allocated_of n to below' q ∙ puts.fills q ∙ ap (λ t. t || in_pieces BLOCK_SIZE off (length (d ∷ ds)) q) (sym (has-allocated_of m size below q))
      ∙ sym (has-with_touched (allocated_of m size) off (length (d ∷ ds)) q)) in
      λ i. record { bytes = bytes i; allocated = allocated i }

  -- a file that is cut off
  pub file_of-cut : (m n : Table Z) (size to : ℕ) → to < size
      → ((o : ℕ) → o < to → byte_at n o ≡ byte_at m o)
      → ((k : ℕ) → filled n k ≡ (filled m k && nat_lt (k * BLOCK_SIZE) to)) → Below (filled m) size
      → ((o : ℕ) → size ≤ o → byte_at m o ≡ 0) → file_of n to ≡ after_truncate (file_of m size) to
  unfolding after_truncate bytes_of
  file_of-cut m n size to less before kept below tail =
      let bytes = bytes-resized (byte_at m) (byte_at n) size tail to before in
      let a = allocated_of m size in
      let below' : Below (filled n) to = λ k yes. ltb-true (k * BLOCK_SIZE) to (and_parts (filled m k) _ (sym (kept k) ∙ yes)).1 in
      let cut = same_indexes 0 (allocated_of n to) (filter (begins_below to) a) (Rises-allocated_of n to)
      (Rises-filter 0 (begins_below to) a (Rises-allocated_of m size)) (λ q.
      has-allocated_of n to below' q ∙ kept q
      ∙ ap (λ t. t && begins_below to q) (sym (has-allocated_of m size below q))
      ∙ sym (has-filter (begins_below to) a q)) in
      let smaller = lt-leb (length (bytes_of m size)) to (omega (arith, length-bytes_of m size)) in
      let allocated = cut ∙ sym (ap (λ t. cond t a (filter (begins_below to) a)) smaller) in
      λ i. record { bytes = bytes i; allocated = allocated i }

  -- a file that is made longer
  pub allocated_of-grown : (m : Table Z) (size to : ℕ) → size ≤ to → Below (filled m) size
      → allocated_of m to ≡ allocated_of m size
  allocated_of-grown m size to more below =
      same_indexes 0 (allocated_of m to) (allocated_of m size) (Rises-allocated_of m to) (Rises-allocated_of m size) (λ q.
      has-allocated_of m to (λ k yes. omega (arith, below k yes)) q ∙ sym (has-allocated_of m size below q))

  -- its bytes are zeros from the old size on
  pub file_of-grown : (m : Table Z) (size to : ℕ) → size ≤ to → Below (filled m) size
      → ((o : ℕ) → size ≤ o → byte_at m o ≡ 0) → file_of m to ≡ after_truncate (file_of m size) to
  unfolding after_truncate bytes_of
  file_of-grown m size to more below tail =
      let bytes = bytes-resized (byte_at m) (byte_at m) size tail to (λ o _. refl) in
      let a = allocated_of m size in
      let larger = le-leb (length (bytes_of m size)) to (omega (arith, length-bytes_of m size)) in
      let allocated = allocated_of-grown m size to more below ∙ sym (ap (λ t. cond t a (filter (begins_below to) a)) larger) in
      λ i. record { bytes = bytes i; allocated = allocated i }

  -- an empty table
  pub file_of-empty : (m : Table Z) → file_of m 0 ≡ empty_file
  unfolding bytes_of allocated_of
  file_of-empty m = refl

  -- the allocated indexes rise
  pub increasing : (m : Table Z) (size : ℕ) → IsStrictlyIncreasing (allocated_of m size)
  unfolding allocated_of
  increasing m size =
      IsStrictlyIncreasing-filter (filled m) (range_with_len 0 size) (λ k l.
      let long = length-range_with_len 0 size in
      omega (arith, get_or-range_with_len 0 size k 0 (omega (arith, long)), get_or-range_with_len 0 size (k + 1) 0 (omega (arith, long))))

  -- what is read
  pub read_bytes : (m : Table Z) (size off len n : ℕ) → off + n ≡ min size (off + len)
      → map (byte_at m) (range_with_len off n) ≡ take len (drop off (bytes_of m size))
  unfolding bytes_of
  read_bytes m size off len n ends =
      let all = map (byte_at m) (range_with_len 0 size) in
      let long = length-map-range_with_len (byte_at m) 0 size in
      let read = length-map-range_with_len (byte_at m) off n in
      same_number_lists (map (byte_at m) (range_with_len off n)) (take len (drop off all))
      (omega (arith, read, long, length-take len (drop off all), length-drop off all)) (λ i l.
      get_or-map-range_with_len (byte_at m) off n i (off + i) 0 (omega (arith, read)) refl
      ∙ sym (get_or-take len (drop off all) i 0 (omega (arith, read)) ∙ get_or-drop off all i 0
      ∙ get_or-map-range_with_len (byte_at m) 0 size (off + i) (off + i) 0 (omega (arith, read))
      (omega arith)))

  -- at the size and after it nothing is read
  pub read_none : (m : Table Z) (size off len : ℕ) → min size (off + len) ≤ off
      → take len (drop off (bytes_of m size)) ≡ []
  unfolding bytes_of
  read_none m size off len none =
      let all = map (byte_at m) (range_with_len 0 size) in
      same_number_lists (take len (drop off all)) []
      (omega (
        arith,
        length-map-range_with_len (byte_at m) 0 size,
        length-take len (drop off all),
        length-drop off all,
      )) (λ i l. absurd
      (omega (
        arith,
        length-map-range_with_len (byte_at m) 0 size,
        length-take len (drop off all),
        length-drop off all,
      )))
