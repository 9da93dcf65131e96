-- Lemmas on lists of bytes.
use Rattle.std.proofs.Common.{◌≡◌, ℕ, ◌+◌, ◌-◌, ◌<◌, ◌≤◌, List, ◌++◌, length, get_or, take, drop, replicate, map, max, sym, ap, ◌∙◌, arith, ⊎_elim, length-drop, length-append}
use Rattle.std.proofs.Math.ListN.{length-take}
use Rattle.std.proofs.lemmas.Bool.{cases_lt}
use Rattle.std.proofs.lemmas.Grind.{common_steps, same_number_lists}
use Rattle.std.proofs.lemmas.List.{get_or_append_left, get_or-append_right, get_or-take, get_or-drop, get_or-replicate, get_or_past, length-replicate}
use Rattle.std.proofs.lemmas.List.FromFn.{length-map-range_with_len, get_or-map-range_with_len}
use Rattle.std.specs.List.{range_with_len}
use Rattle.qblocks.specs.File.{resized, written}
use Rattle.qblocks.specs.Row.{Overwrites}

-- a list of zeros reads as 0 everywhere
pub zeros : (n i : ℕ) → get_or {A = ℕ} (replicate n 0) i 0 ≡ 0
zeros n i =
    ⊎_elim (λ l. get_or-replicate n i 0 0 l) (λ l. get_or_past (replicate n 0) i 0 (omega (arith, length-replicate {A = ℕ} n 0))) (cases_lt i n)

-- at another size there are as many bytes as it says
pub length-resized : (bytes : List ℕ) (size : ℕ) → length (resized bytes size) ≡ size
unfolding resized
length-resized bytes size = grind (arith, common_steps)

-- the bytes below the size are the same, or 0
pub get_or-resized : (bytes : List ℕ) (size o : ℕ) → o < size
    → get_or (resized bytes size) o 0 ≡ get_or bytes o 0
unfolding resized
get_or-resized bytes size o l =
    let zeros' : List ℕ = replicate (size - length bytes) 0 in
    ⊎_elim
    (λ early. get_or_append_left (take size bytes) zeros' 0 o (omega (arith, length-take size bytes)) ∙ get_or-take size bytes o 0 l)
    (λ late.
    get_or-append_right (take size bytes) zeros' (length bytes) o 0 (omega (arith, length-take size bytes)) late
    ∙ zeros (size - length bytes) (o - length bytes) ∙ sym (get_or_past bytes o 0 late))
    (cases_lt o (length bytes))

-- a write that goes past the last byte, or up to it: filled up to the write's offset, then the write's own
pub Overwrites-end : (bytes : List ℕ) (at : ℕ) (input : List ℕ) → length bytes ≤ at + length input
    → Overwrites (λ i. get_or bytes i 0) (λ i. get_or (resized bytes at ++ input) i 0) at input
Overwrites-end bytes at input ends =
    let long = length-resized bytes at in
    record {
      inside = λ i l.
          let byte : at + i - at ≡ i = omega arith in
          get_or-append_right (resized bytes at) input at (at + i) 0 long (omega arith) ∙ ap (λ (x : ℕ). get_or input x 0) byte;
      before = λ o l. get_or_append_left (resized bytes at) input 0 o (omega (arith, long)) ∙ get_or-resized bytes at o l;
      behind = λ o l.
          get_or_past (resized bytes at ++ input) o 0 (omega (arith, long, length-append (resized bytes at) input))
          ∙ sym (get_or_past bytes o 0 (omega arith));
    }

-- a write ends at its own end or leaves the size
pub length-written : (bytes : List ℕ) (off : ℕ) (input : List ℕ)
    → length (written bytes off input) ≡ max (length bytes) (off + length input)
unfolding written
length-written bytes off input =
    omega (
      arith,
      length-append (resized bytes off ++ input) (drop (off + length input) bytes),
      length-append (resized bytes off) input,
      length-resized bytes off,
      length-drop (off + length input) bytes,
    )

-- what the bytes after a write read as
pub get_or-written : (bytes : List ℕ) (off : ℕ) (input : List ℕ)
    → Overwrites (λ o. get_or bytes o 0) (λ o. get_or (written bytes off input) o 0) off input
unfolding written
get_or-written bytes off input =
    let front = resized bytes off in
    let long = length-resized bytes off in
    let both = length-append front input in
    let rest = drop (off + length input) bytes in
    record {
      inside = λ i l.
          get_or_append_left (front ++ input) rest 0 (off + i) (omega arith)
          ∙ get_or-append_right front input off (off + i) 0 long (omega arith)
          ∙ ap (λ (j : ℕ). get_or input j 0) (omega arith);
      before = λ o l.
          get_or_append_left (front ++ input) rest 0 o (omega arith)
          ∙ get_or_append_left front input 0 o (omega arith)
          ∙ get_or-resized bytes off o l;
      behind = λ o l.
          get_or-append_right (front ++ input) rest (off + length input) o 0 (omega arith) l
          ∙ get_or-drop (off + length input) bytes (o - (off + length input)) 0
          ∙ ap (λ (j : ℕ). get_or bytes j 0) (omega arith);
    }

-- of two functions from offsets to bytes, of which the first is 0 from the size on
module _ (f g : ℕ → ℕ) (size : ℕ) (tail : (o : ℕ) → size ≤ o → f o ≡ 0) where
  -- the bytes as a list read as the function does
  pub get_or-bytes : (o : ℕ) → get_or (map f (range_with_len 0 size)) o 0 ≡ f o
  get_or-bytes o =
      ⊎_elim
      (λ l. get_or-map-range_with_len f 0 size o o 0 l (omega arith))
      (λ l. get_or_past (map f (range_with_len 0 size)) o 0 (omega (arith, length-map-range_with_len f 0 size)) ∙ sym (tail o l))
      (cases_lt o size)

  -- over such a list the write is a splice
  pub bytes-written : (off : ℕ) (input : List ℕ) (to : ℕ) → Overwrites f g off input
      → to ≡ max size (off + length input)
      → map g (range_with_len 0 to) ≡ written (map f (range_with_len 0 size)) off input
  bytes-written off input to writes ends =
      let bytes = map f (range_with_len 0 size) in
      let new = map g (range_with_len 0 to) in
      let w = get_or-written bytes off input in
      let long = length-map-range_with_len g 0 to in
      same_number_lists new (written bytes off input) (omega (arith, long, ends, length-written bytes off input, length-map-range_with_len f 0 size)) (λ o l.
      get_or-map-range_with_len g 0 to o o 0 (omega (arith, long)) (omega arith)
      ∙ ⊎_elim
      (λ early. writes.before o early ∙ sym (w.before o early ∙ get_or-bytes o))
      (λ late.
      ⊎_elim
      (λ in'.
      let at : off + (o - off) ≡ o = omega arith in
      ap g (sym at) ∙ writes.inside (o - off) (omega arith) ∙ sym (w.inside (o - off) (omega arith)) ∙ ap (λ (x : ℕ). get_or (written bytes off input) x 0) at)
      (λ past. writes.behind o past ∙ sym (w.behind o past ∙ get_or-bytes o))
      (cases_lt o (off + length input)))
      (cases_lt o off))

  -- and another size is a cut or zeros
  pub bytes-resized : (to : ℕ) → ((o : ℕ) → o < to → g o ≡ f o)
      → map g (range_with_len 0 to) ≡ resized (map f (range_with_len 0 size)) to
  bytes-resized to same =
      let bytes = map f (range_with_len 0 size) in
      let long = length-map-range_with_len g 0 to in
      same_number_lists (map g (range_with_len 0 to)) (resized bytes to) (omega (arith, long, length-resized bytes to)) (λ o l.
      get_or-map-range_with_len g 0 to o o 0 (omega (arith, long)) (omega arith)
      ∙ same o (omega (arith, long)) ∙ sym (get_or-resized bytes to o (omega (arith, long)) ∙ get_or-bytes o))
