-- Numbers and data that are spelled out are read again.
use Rattle.std.proofs.Common.{◌≡◌, ℕ, ◌≤◌, ◌<◌, ◌^◌, zero, suc, Bool, true, false, not, ◌&&◌, eqb, leb, List, [], ◌∷◌, length, get_or, Some, Ok, refl, arith, codes, decimal}
use Rattle.std.specs.List.{list_all}
use Rattle.std.specs.Char.{is_ascii_digit}
use Rattle.std.specs.Str.{bytes_eq}
use Rattle.std.proofs.lemmas.Bool.Decides.{nat_tests}
use Rattle.std.proofs.lemmas.Fmt.{decimal_is_IsNumeral, decimal_digit, decimal_nonempty, first_decimal}
use Rattle.hex.specs.Hex.{decode_of, encode_lower, IsBytes}
use Rattle.hex.proofs.HexLemmas.{decode_of-encode_lower, length-encode_with}
use Rattle.qtext.specs.declared.text_fault.TextKind.{TextKind}
use Rattle.qtext.specs.Words.{is_text_byte, numeral, is_numeral, number_of}
use Rattle.qtext.specs.Data.{data_of}
use Rattle.qtext.specs.Pieces.{data_text}
use Rattle.qtext.proofs.Numerals.{own}

pub are_digits : (n : ℕ) → n < 2 ^ 64 → list_all is_ascii_digit (decimal n) ≡ true
are_digits n lt = own.from (decimal n) (decimal_is_IsNumeral n lt).0.1

numeral_first : (w : List ℕ) → 0 < length w → 48 < get_or w 0 0 → list_all is_ascii_digit w ≡ true → is_numeral w ≡ true
numeral_first w some first all =
    let a : eqb (length w) 0 ≡ false = grind (arith, nat_tests) in
    let b : eqb (get_or w 0 0) 48 ≡ false = grind (arith, nat_tests) in
    rw (a, b) all

is_one : (n : ℕ) → n < 2 ^ 64 → is_numeral (decimal n) ≡ true
is_one zero lt = rw (decimal_digit 0 (omega arith)) refl
is_one (suc n) lt = numeral_first (decimal (suc n)) (decimal_nonempty (suc n) lt) (first_decimal (suc n) (omega arith) lt) (are_digits (suc n) lt)

pub numeral_again : (n : ℕ) → n < 2 ^ 64 → numeral (decimal n) ≡ Some n
unfolding numeral
numeral_again n lt = rw (is_one n lt, (decimal_is_IsNumeral n lt).1) refl

pub number_again : (fault : TextKind) (most n : ℕ) → n < 2 ^ 64 → n ≤ most → number_of fault most (decimal n) ≡ Ok n
number_again fault most n lt le = let few : leb n most ≡ true = grind (arith, nat_tests) in rw (numeral_again n lt, few) refl

pub digit_lacks : (s : ℕ) → s < 48 → (b : ℕ) → is_ascii_digit b ≡ true → not (eqb b s) ≡ true
digit_lacks s lt b e = grind (arith, nat_tests)

pub digit_lacks_above : (s : ℕ) → 57 < s → (b : ℕ) → is_ascii_digit b ≡ true → not (eqb b s) ≡ true
digit_lacks_above s lt b e = grind (arith, nat_tests)

pub text_lacks_feed : (b : ℕ) → is_text_byte b ≡ true → not (eqb b 10) ≡ true
text_lacks_feed b e = grind (arith, nat_tests)

pub decoded : (b : ℕ) (bs : List ℕ) → IsBytes (b ∷ bs) → decode_of (encode_lower (b ∷ bs)) ≡ Ok (b ∷ bs)
decoded b bs fits = decode_of-encode_lower (b ∷ bs) fits

not_dash : (w : List ℕ) → 1 < length w → bytes_eq w (45 ∷ []) ≡ false
not_dash [] lt = absurd (omega arith)
not_dash (x ∷ []) lt = absurd (omega arith)
not_dash (x ∷ y ∷ w) lt = and_no (eqb x 45)
  where
    and_no : (c : Bool) → (c && false) ≡ false
    and_no true = refl
    and_no false = refl

pub data_again : (bs : List ℕ) → IsBytes bs → data_of (data_text bs) ≡ Ok bs
unfolding data_of
data_again [] fits = refl
data_again (b ∷ bs) fits =
    let len = length-encode_with (codes "0123456789abcdef") (b ∷ bs) in
    let long : 1 < length (encode_lower (b ∷ bs)) = omega (arith, len) in
    let some : eqb (length (encode_lower (b ∷ bs))) 0 ≡ false = grind (arith, nat_tests) in
    rw (not_dash (encode_lower (b ∷ bs)) long, some, decoded b bs fits) refl
