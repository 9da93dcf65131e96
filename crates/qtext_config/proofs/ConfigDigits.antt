-- The digits of a size.
use Rattle.std.proofs.Common.{◌≡◌, ℕ, ◌+◌, ◌*◌, ◌<◌, ◌≤◌, ◌^◌, suc, Bool, true, false, cond, List, [], ◌∷◌, length, take, refl, arith}
use Rattle.std.proofs.Math.Nat.{mul-le-mul}
use Rattle.std.specs.List.{prefix_len}
use Rattle.std.specs.Char.{digit_value, is_ascii_digit}
use Rattle.std.specs.Str.Parse.{AllDigits, digits_value}
use Rattle.std.proofs.lemmas.Bool.Decides.{nat_tests}
use Rattle.std.proofs.lemmas.Str.Parse.{IsNumeralModel, digits_value-take-le, digits_value_short, numerals_by_value, tells_digits}

own : IsNumeralModel (AllDigits 10) (digits_value 10)
own = numerals_by_value (AllDigits 10) tells_digits

-- ten digits at most, and so every front of them, write less than 10^10
pub front_is_small : (digits : List ℕ) (i : ℕ) → AllDigits 10 digits → length digits ≤ 10
    → digits_value 10 (take i digits) < 10 ^ 10
front_is_small digits i all few =
    omega (arith, digits_value_short own digits 10 all few, digits_value-take-le 10 digits i (omega arith))

digit_is_small : (byte : ℕ) → is_ascii_digit byte ≡ true → digit_value byte < 10
digit_is_small byte e = grind (arith, nat_tests)

step : (byte : ℕ) (bytes : List ℕ) (b : Bool) → is_ascii_digit byte ≡ b → AllDigits 10 (take (prefix_len is_ascii_digit bytes) bytes)
    → AllDigits 10 (take (cond b (1 + prefix_len is_ascii_digit bytes) 0) (byte ∷ bytes))
step byte bytes true e all =
    let both : AllDigits 10 (byte ∷ take (prefix_len is_ascii_digit bytes) bytes) = (digit_is_small byte e, all) in
    let count : 1 + prefix_len is_ascii_digit bytes ≡ suc (prefix_len is_ascii_digit bytes) = omega arith in
    rw count both
step byte bytes false e all = tt

-- the bytes before the first that is no digit are digits
pub AllDigits-prefix : (bytes : List ℕ) → AllDigits 10 (take (prefix_len is_ascii_digit bytes) bytes)
AllDigits-prefix [] = tt
AllDigits-prefix (byte ∷ bytes) = step byte bytes _ refl (AllDigits-prefix bytes)

-- the product of less than 10^10 and a unit fits
pub product_is_small : (number unit : ℕ) → number < 10 ^ 10 → unit ≤ 2 ^ 30 → number * unit < 2 ^ 64
product_is_small number unit small range =
    let least : number ≤ 10 ^ 10 = omega arith in
    let most : number * unit ≤ 10 ^ 10 * 2 ^ 30 = mul-le-mul least range in omega arith
