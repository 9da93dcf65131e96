-- What stands in a text for a byte, by whether it has a letter and prints.
use Rattle.std.proofs.Common.{◌≡◌, ◌<◌, ◌≤◌, ◌/◌, ◌%◌, ℕ, true, false, List, [], ◌∷◌, Option, Result, arith, tests, refl, cond}
use Rattle.std.specs.Prelude.{nat_lt}
use Rattle.std.specs.Char.{digit_char}
use Rattle.json.specs.Print.{escape_byte, escape_letter}
use Rattle.qtext.specs.Written.{Writes}

escapes : (x letter : ℕ) → letter ≡ escape_letter x → escape_byte x ≡ cond (nat_lt 0 letter) (92 ∷ letter ∷ [])
    (cond (nat_lt x 32) (92 ∷ 117 ∷ 48 ∷ 48 ∷ digit_char (x / 16) ∷ digit_char (x % 16) ∷ []) (x ∷ []))
unfolding escape_byte
escapes x letter is = rw is refl

-- a byte with a short escape
pub short : {T E : Type 0} (a b : Option (List ℕ)) (r : Result T E) (x letter : ℕ) → letter ≡ escape_letter x → 0 < letter
    → Writes a b r (92 ∷ letter ∷ []) → Writes a b r (escape_byte x)
short a b r x letter is some h =
    let has : nat_lt 0 letter ≡ true = grind (arith, tests) in
    rw (escapes x letter is, has) h

-- a byte that stands as it is
pub plain : {T E : Type 0} (a b : Option (List ℕ)) (r : Result T E) (x letter : ℕ) → letter ≡ escape_letter x → letter ≤ 0
    → 32 ≤ x → Writes a b r (x ∷ []) → Writes a b r (escape_byte x)
plain a b r x letter is none printing h =
    let has : nat_lt 0 letter ≡ false = grind (arith, tests) in
    let under : nat_lt x 32 ≡ false = grind (arith, tests) in
    rw (escapes x letter is, has, under) h

-- a control byte without a short escape
pub long : {T E : Type 0} (a b : Option (List ℕ)) (r : Result T E) (x letter high low : ℕ) → letter ≡ escape_letter x → letter ≤ 0
    → x < 32 → high ≡ digit_char (x / 16) → low ≡ digit_char (x % 16)
    → Writes a b r (92 ∷ 117 ∷ 48 ∷ 48 ∷ high ∷ low ∷ []) → Writes a b r (escape_byte x)
long a b r x letter high low is none control first second h =
    let has : nat_lt 0 letter ≡ false = grind (arith, tests) in
    let under : nat_lt x 32 ≡ true = grind (arith, tests) in
    rw (escapes x letter is, has, under, ← first, ← second) h
