-- Hexadecimal digits that are read in parts.
use Rattle.std.proofs.Common.{◌≡◌, ℕ, ◌+◌, ◌*◌, ◌%◌, ◌<◌, ◌≤◌, zero, suc, true, false, List, [], ◌∷◌, ◌++◌, drop, length, take, Option, Some, None, Result, Ok, Err, refl, sym, ap, ap₂, subst, ◌∙◌, append_assoc, arith}
use Rattle.std.proofs.lemmas.Simd.{chunk-drop, length-chunk}
use lib.Lanes.{chunk}
use Rattle.std.specs.Result.{MatchResult, is_ok}
use Rattle.hex.specs.Hex.{decode_of, decode_pairs, decode_sized, digit_or_error, hex_digit_value, pair_value, value_at, ◌>>=◌}
use Rattle.hex.specs.declared.error.FromHexError.{FromHexError}
use Rattle.hex.proofs.HexLemmas.{decode_of-even, decode_sized-twice}
use Rattle.hex.proofs.Pairs.{cons_byte, decode_pairs-ok_pair}
use Rattle.qtext.specs.declared.text_fault.TextKind.{TextKind}
use Rattle.qtext.specs.declared.text_fault.TextKind.TheVariants.{BadHex}
use Rattle.qtext.specs.Data.{hex_or_fault}
use Rattle.qtext.specs.Digits.{AreDigits, Decodes, before, bytes_in, digit_or, number_or}

-- a digit is read as what it stands for
digit_read : (c i : ℕ) (o : Option ℕ) → number_or o < 16 → digit_or_error c i o ≡ Ok (number_or o)
digit_read c i (Some n) small = refl
digit_read c i None small = absurd (omega (arith, small))

pair_read : (a b i : ℕ) → digit_or a < 16 → digit_or b < 16 → pair_value a b i ≡ Ok (digit_or a * 16 + digit_or b)
pair_read a b i upper lower =
    let first : value_at a i ≡ Ok (digit_or a) = digit_read a i (hex_digit_value a) upper in
    let second : value_at b (i + 1) ≡ Ok (digit_or b) = digit_read b (i + 1) (hex_digit_value b) lower in
    rw (first, second) refl

-- nothing before what is read, a byte before others, and bytes before others
before_none : (r : Result (List ℕ) FromHexError) → before [] r ≡ r
before_none (Ok bytes) = refl
before_none (Err fault) = refl

before_one : (byte : ℕ) (front : List ℕ) (r : Result (List ℕ) FromHexError) → cons_byte byte (before front r) ≡ before (byte ∷ front) r
before_one byte front (Ok bytes) = refl
before_one byte front (Err fault) = refl

before_both : (front more : List ℕ) (r : Result (List ℕ) FromHexError) → before front (before more r) ≡ before (front ++ more) r
before_both front more (Ok bytes) = ap Ok (sym (append_assoc front more bytes))
before_both front more (Err fault) = refl

-- N pairs of digits are read before the rest
pairs_read : (n i : ℕ) (word rest : List ℕ) → length word ≡ 2 * n → AreDigits word
    → decode_pairs i (word ++ rest) ≡ before (bytes_in word) (decode_pairs (i + 2 * n) rest)
pairs_read n i [] rest long digits =
    let same : i ≡ i + 2 * n = omega (arith, long) in
    ap (λ k. decode_pairs k rest) same ∙ sym (before_none (decode_pairs (i + 2 * n) rest))
pairs_read n i (a ∷ []) rest long digits = absurd (omega (arith, long))
pairs_read zero i (a ∷ b ∷ word) rest long digits = absurd (omega (arith, long))
pairs_read (suc n) i (a ∷ b ∷ word) rest long digits =
    let byte : ℕ = digit_or a * 16 + digit_or b in
    let others : AreDigits word = record { uppers = digits.uppers.1; lowers = digits.lowers.1 } in
    let after : i + 2 + 2 * n ≡ i + 2 * suc n = omega arith in
    decode_pairs-ok_pair i a b byte (word ++ rest) (pair_read a b i digits.uppers.0 digits.lowers.0)
    ∙ ap (cons_byte byte) (pairs_read n (i + 2) word rest (omega (arith, long)) others)
    ∙ before_one byte (bytes_in word) (decode_pairs (i + 2 + 2 * n) rest)
    ∙ ap (λ k. before (byte ∷ bytes_in word) (decode_pairs k rest)) after

-- nothing is read yet
pub none_read : (word out : List ℕ) → Decodes word (take 0 out) 0
none_read word out = sym (before_none (decode_pairs 0 word))

-- 32 digits more
pub more_read : (word out longer : List ℕ) (at : ℕ) → 2 * at + 32 ≤ length word → Decodes word (take at out) at
    → AreDigits (chunk (2 * at) 32 word) → take (at + 16) longer ≡ take at out ++ bytes_in (chunk (2 * at) 32 word)
    → Decodes word (take (at + 16) longer) (at + 16)
more_read word out longer at room so_far digits stands =
    let some : List ℕ = chunk (2 * at) 32 word in
    let place : 2 * at + 2 * 16 ≡ 2 * (at + 16) = omega arith in
    let rest : drop (2 * at + 32) word ≡ drop (2 * (at + 16)) word = ap (λ k. drop k word) (omega arith) in
    so_far
    ∙ ap (λ xs. before (take at out) (decode_pairs (2 * at) xs)) (chunk-drop (2 * at) 32 word)
    ∙ ap (before (take at out)) (pairs_read 16 (2 * at) some (drop (2 * at + 32) word) (length-chunk (2 * at) 32 word room) digits)
    ∙ before_both (take at out) (bytes_in some) (decode_pairs (2 * at + 2 * 16) (drop (2 * at + 32) word))
    ∙ ap₂ (λ front tail. before front tail) (sym stands) (ap₂ decode_pairs place rest)

-- the byte of two digits, if they are digits
abbrev pair_of : ℕ → ℕ → ℕ → Option ℕ → Option ℕ → Result ℕ FromHexError
pair_of a b i upper lower = do
  h ← digit_or_error a i upper
  l ← digit_or_error b (i + 1) lower
  Ok (h * 16 + l)

-- where digits stand makes no other difference than the place of a fault
pair_told : (a b i j : ℕ) (r s : Result (List ℕ) FromHexError) (upper lower : Option ℕ) → hex_or_fault r ≡ hex_or_fault s
    → hex_or_fault (pair_of a b i upper lower >>= (λ byte. cons_byte byte r))
    ≡ hex_or_fault (pair_of a b j upper lower >>= (λ byte. cons_byte byte s))
pair_told a b i j (Ok xs) (Ok ys) (Some h) (Some l) same =
    let equal : xs ≡ ys = cc in
    ap (λ bytes. Ok ((h * 16 + l) ∷ bytes)) equal
pair_told a b i j (Ok xs) (Err f) (Some h) (Some l) same = absurd (cc)
pair_told a b i j (Err e) (Ok ys) (Some h) (Some l) same = absurd (cc)
pair_told a b i j (Err e) (Err f) (Some h) (Some l) same = refl
pair_told a b i j r s (Some h) None same = refl
pair_told a b i j r s None lower same = refl

same_told : (i j : ℕ) (word : List ℕ) → hex_or_fault (decode_pairs i word) ≡ hex_or_fault (decode_pairs j word)
unfolding decode_pairs
same_told i j [] = refl
same_told i j (a ∷ []) = refl
same_told i j (a ∷ b ∷ rest) =
    pair_told a b i j (decode_pairs (i + 2) rest) (decode_pairs (j + 2) rest) (hex_digit_value a) (hex_digit_value b)
    (same_told (i + 2) (j + 2) rest)

before_told : (front : List ℕ) (r s : Result (List ℕ) FromHexError) → hex_or_fault r ≡ hex_or_fault s
    → hex_or_fault (before front r) ≡ hex_or_fault (before front s)
before_told front (Ok xs) (Ok ys) same =
    let equal : xs ≡ ys = cc in
    ap (λ bytes. Ok (front ++ bytes)) equal
before_told front (Ok xs) (Err f) same = absurd (cc)
before_told front (Err e) (Ok ys) same = absurd (cc)
before_told front (Err e) (Err f) same = refl

-- a word of which the first digits are read is read as the rest is, behind their bytes
pub rest_read : (word front : List ℕ) (at : ℕ) → length word % 2 ≡ 0 → length (drop (2 * at) word) % 2 ≡ 0 → Decodes word front at
    → hex_or_fault (decode_of word) ≡ hex_or_fault (before front (decode_of (drop (2 * at) word)))
rest_read word front at even rest_even so_far =
    let rest : List ℕ = drop (2 * at) word in
    ap hex_or_fault (decode_of-even word even ∙ so_far)
    ∙ before_told front (decode_pairs (2 * at) rest) (decode_of rest)
    (same_told (2 * at) 0 rest ∙ ap hex_or_fault (sym (decode_of-even rest rest_even)))

-- a word of which the first digits are read, and the rest was read into room for it, is read whole or has a fault
module _ (word front rest room : List ℕ) (at n : ℕ) (even : length word % 2 ≡ 0) (is : rest ≡ drop (2 * at) word)
    (long : length rest ≡ 2 * n) (so_far : Decodes word front at) where
  told_by_rest : (d : Result (List ℕ) FromHexError) → decode_of rest ≡ d → hex_or_fault (decode_of word) ≡ hex_or_fault (before front d)
  told_by_rest d told =
      let rest_even : length (drop (2 * at) word) % 2 ≡ 0 = omega (arith, ap length is, long) in
      rest_read word front at even rest_even so_far ∙ ap (λ xs. hex_or_fault (before front (decode_of xs))) (sym is)
      ∙ ap (λ x. hex_or_fault (before front x)) told

  pub all_read : (r : Result Unit FromHexError)
      → MatchResult (decode_sized rest n) (λ bytes. (r ≡ Ok tt) × (room ≡ bytes)) (λ e. r ≡ Err e)
      → (is_ok r ≡ true → hex_or_fault (decode_of word) ≡ Ok (front ++ room)) × (is_ok r ≡ false → hex_or_fault (decode_of word) ≡ Err BadHex)
  all_read r read = by (decode_sized rest n) refl read
    where
      by : (d : Result (List ℕ) FromHexError) → decode_sized rest n ≡ d → MatchResult d (λ bytes. (r ≡ Ok tt) × (room ≡ bytes)) (λ e. r ≡ Err e)
          → (is_ok r ≡ true → hex_or_fault (decode_of word) ≡ Ok (front ++ room)) × (is_ok r ≡ false → hex_or_fault (decode_of word) ≡ Err BadHex)
      by (Ok bytes) told m =
          let whole = told_by_rest (Ok bytes) (sym (decode_sized-twice rest n long) ∙ told) in (
            λ ok. whole ∙ ap (λ xs. Ok (front ++ xs)) (sym m.1),
            λ bad. absurd (cc (m.0, bad)),
          )
      by (Err fault) told m =
          let whole = told_by_rest (Err fault) (sym (decode_sized-twice rest n long) ∙ told) in (λ ok. absurd (cc (m, ok)), λ bad. whole)
