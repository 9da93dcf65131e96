-- Data that were read are bytes, and those in lower case are spelled out as they stood.
use Rattle.std.proofs.Common.{◌≡◌, ℕ, ◌+◌, ◌*◌, ◌/◌, ◌%◌, ◌<◌, zero, suc, Bool, true, false, cond, ◌&&◌, eqb, ltb, ◌⊎◌, List, [], ◌∷◌, length, slice_index, replicate, Option, Some, None, Result, Ok, Err, refl, sym, ◌∙◌, arith, inl, inr, codes}
use Rattle.std.specs.List.{list_any}
use Rattle.std.specs.Char.{is_ascii_uppercase}
use Rattle.std.specs.Str.{bytes_eq}
use Rattle.std.proofs.lemmas.Bool.{and_parts, cases_lt, eqb-true, eqb-false, or_parts}
use Rattle.hex.specs.Hex.{IsBytes, decode_of, decode_pairs, digit_or_error, encode_lower, encode_with, hex_digit_value, lower_digits, pair_value, value_at, ◌>>=◌}
use Rattle.hex.specs.declared.error.FromHexError.{FromHexError}
use Rattle.hex.proofs.HexLemmas.{decode_of-even, decode_of-ok}
use Rattle.std.proofs.lemmas.Bool.Decides.{nat_tests}
use Rattle.qtext.specs.declared.text_fault.TextKind.TheVariants.{BadHex}
use Rattle.qtext.specs.Data.{byte_of, data_of, hex_or_fault}
use Rattle.qtext.specs.Pieces.{data_text}
use Rattle.qtext.proofs.StepsFound.{kept, passed, same_ok, same_word, step_found}

-- the digit that stands for so much
abbrev pub lower_digit : ℕ → ℕ
lower_digit d = cond (ltb d 10) (d + 48) (d + 87)

-- the first n digits of the table do
abbrev pub are_lower : ℕ → Bool
are_lower zero = true
are_lower (suc n) = eqb (slice_index lower_digits n) (lower_digit n) && are_lower n

pub lower_at : (n d : ℕ) → are_lower n ≡ true → d < n → slice_index lower_digits d ≡ lower_digit d
lower_at zero d e lt = absurd (omega arith)
lower_at (suc n) d e lt =
    let parts = and_parts (eqb (slice_index lower_digits n) (lower_digit n)) (are_lower n) e in
    elim (cases_lt d n) [
      | inl below ↦ lower_at n d parts.1 below
      | inr top ↦
          let same : d ≡ n = omega arith in
          rw same (eqb-true _ _ parts.0)
    ]

digit_small : (c d : ℕ) → hex_digit_value c ≡ Some d → d < 16
digit_small c d e = grind arith

digit_found : (c d : ℕ) → hex_digit_value c ≡ Some d → is_ascii_uppercase c ≡ false → lower_digit d ≡ c
digit_found c d e low = grind (arith, nat_tests)

-- a step of decoding gave a value, and what follows it did
decoded_step : {A B : Type 0} (first : Result A FromHexError) (next : A → Result B FromHexError) (y : B) → (first >>= next) ≡ Ok y
    → (x : A) × (first ≡ Ok x) × (next x ≡ Ok y)
decoded_step (Ok x) next y e = (x, refl, e)
decoded_step (Err fault) next y e = absurd (cc e)

value_found : (c i d : ℕ) → value_at c i ≡ Ok d → is_ascii_uppercase c ≡ false → (d < 16) × (slice_index lower_digits d ≡ c)
value_found c i d e low =
    let value = value_of (hex_digit_value c) e in
    let small = digit_small c d value in
    (small, lower_at 16 d refl small ∙ digit_found c d value low)
  where
    value_of : (o : Option ℕ) → digit_or_error c i o ≡ Ok d → o ≡ Some d
    value_of None e = absurd (cc e)
    value_of (Some v) e = cc e

pairs_found : (i : ℕ) (word bytes : List ℕ) → decode_pairs i word ≡ Ok bytes → list_any is_ascii_uppercase word ≡ false
    → encode_lower bytes ≡ word
unfolding decode_pairs encode_with
pairs_found i [] bytes e low =
    let none : [] ≡ bytes = cc e in
    rw (← none) refl
pairs_found i (a ∷ []) bytes e low = absurd (cc e)
pairs_found i (a ∷ b ∷ rest) bytes e low =
    let all = decoded_step (pair_value a b i) _ bytes e in
    let high = decoded_step (value_at a i) _ all.0 all.1 in
    let both = decoded_step (value_at b (i + 1)) _ all.0 high.2 in
    let others = decoded_step (decode_pairs (i + 2) rest) _ bytes all.2 in
    let first = or_parts (is_ascii_uppercase a) _ low in
    let second = or_parts (is_ascii_uppercase b) _ first.1 in
    let upper = value_found a i high.0 high.1 first.0 in
    let lower = value_found b (i + 1) both.0 both.1 second.0 in
    let byte : high.0 * 16 + both.0 ≡ all.0 = cc both.2 in
    let whole : all.0 ∷ others.0 ≡ bytes = cc others.2 in
    let top : all.0 / 16 ≡ high.0 = omega (arith, upper.0, lower.0) in
    let bottom : all.0 % 16 ≡ both.0 = omega (arith, upper.0, lower.0) in
    rw (← whole, top, bottom, upper.1, lower.1, pairs_found (i + 2) rest others.0 others.1 second.1) refl

hex_found : {bytes : List ℕ} (decoded : Result (List ℕ) FromHexError) → hex_or_fault decoded ≡ Ok bytes → decoded ≡ Ok bytes
hex_found (Ok bs) e = cc e
hex_found (Err fault) e = absurd (cc e)

-- bytes that were decoded are bytes
decoded_fits : (word bytes : List ℕ) → hex_or_fault (decode_of word) ≡ Ok bytes → IsBytes bytes
decoded_fits word bytes e = (decode_of-ok word bytes (hex_found (decode_of word) e)).3

some_data : (bs : List ℕ) → 0 < length bs → data_text bs ≡ encode_lower bs
some_data [] some = absurd (omega arith)
some_data (b ∷ bs) some = refl

no_bytes : IsBytes []
no_bytes i = omega arith

digits_found : (word bytes : List ℕ) → 0 < length word → decode_of word ≡ Ok bytes → list_any is_ascii_uppercase word ≡ false
    → data_text bytes ≡ word
digits_found word bytes some e low =
    let is = decode_of-ok word bytes e in
    some_data bytes (omega (arith, is.2)) ∙ pairs_found 0 word bytes (sym (decode_of-even word is.0) ∙ e) low

-- what was read is no bytes, or it was decoded from digits
read_as : (word bytes : List ℕ) → data_of word ≡ Ok bytes
    → ((word ≡ codes "-") × (bytes ≡ [])) ⊎ ((0 < length word) × (hex_or_fault (decode_of word) ≡ Ok bytes))
unfolding data_of
read_as word bytes e = by (bytes_eq word (codes "-")) refl e
  where
    by : (dash : Bool) → bytes_eq word (codes "-") ≡ dash
        → cond dash (Ok []) (cond (eqb (length word) 0) (Err BadHex) (hex_or_fault (decode_of word))) ≡ Ok bytes
        → ((word ≡ codes "-") × (bytes ≡ [])) ⊎ ((0 < length word) × (hex_or_fault (decode_of word) ≡ Ok bytes))
    by true is e = inl (same_word word (codes "-") is, cc e)
    by false is e =
        let some = passed (eqb (length word) 0) (hex_or_fault (decode_of word)) BadHex bytes e in
        inr (omega (arith, eqb-false _ _ some.0), some.1)

-- data that were read are bytes
pub data_fits : (word bytes : List ℕ) → data_of word ≡ Ok bytes → IsBytes bytes
data_fits word bytes e = elim (read_as word bytes e) [
  | inl none ↦ rw none.1 no_bytes
  | inr some ↦ decoded_fits word bytes some.1
]

-- those without digits in upper case are spelled as they stood
pub data_found : (word bytes : List ℕ) → data_of word ≡ Ok bytes → list_any is_ascii_uppercase word ≡ false → data_text bytes ≡ word
data_found word bytes e low = elim (read_as word bytes e) [
  | inl none ↦ rw (none.0, none.1) refl
  | inr some ↦ digits_found word bytes some.0 (hex_found (decode_of word) some.1) low
]

-- a byte that was read is one
pub byte_fits : (word : List ℕ) (byte : ℕ) → byte_of word ≡ Ok byte → byte < 256
unfolding byte_of
byte_fits word byte e =
    let two = kept (eqb (length word) 2) _ BadHex byte e in
    step_found (hex_or_fault (decode_of word)) _ two.1 λ bytes are e.
    rw (← same_ok e) (decoded_fits word bytes are 0)

-- N equal bytes are bytes
pub equal_fits : (count byte : ℕ) → byte < 256 → IsBytes (replicate count byte)
equal_fits zero byte lt i = omega arith
equal_fits (suc count) byte lt zero = lt
equal_fits (suc count) byte lt (suc i) = equal_fits count byte lt i
