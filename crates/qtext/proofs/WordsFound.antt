-- Numbers that were read are spelled out as they stood.
use Rattle.std.proofs.Common.{◌≡◌, ℕ, ◌≤◌, ◌<◌, ◌^◌, Bool, true, false, cond, eqb, leb, List, [], ◌∷◌, length, get_or, Option, Some, None, Ok, refl, arith, decimal}
use Rattle.std.specs.List.{list_all}
use Rattle.std.specs.Char.{is_ascii_digit}
use Rattle.std.specs.Str.Parse.{digits_value}
use Rattle.std.proofs.lemmas.Bool.{eqb-true, eqb-false, leb-true}
use Rattle.std.proofs.lemmas.Fmt.{decimal-digits_value}
use Rattle.qtext.specs.declared.text_fault.TextKind.{TextKind}
use Rattle.qtext.specs.Words.{AreDigits, at_most, numeral, is_numeral, number_of}
use Rattle.qtext.proofs.Numerals.{own}
use Rattle.qtext.proofs.StepsFound.{kept}

-- what a numeral is
record IsSpelled (word : List ℕ) : Type 0 where
  pub some : 0 < length word
  pub first : get_or word 0 0 ≡ 48 → length word ≡ 1
  pub all : AreDigits word

passed_test : (test rest : Bool) → cond test false rest ≡ true → (test ≡ false) × (rest ≡ true)
passed_test false rest e = (refl, e)
passed_test true rest e = absurd (cc e)

one_zero : (word : List ℕ) → get_or word 0 0 ≡ 48 → length word ≡ 1 → IsSpelled word
one_zero [] first one = absurd (omega arith)
one_zero (c ∷ []) first one = rw first (record { some = omega arith; first = λ _. refl; all = refl })
one_zero (c ∷ d ∷ cs) first one = absurd (omega arith)

spelled : (word : List ℕ) → is_numeral word ≡ true → IsSpelled word
spelled word e =
    let some = passed_test (eqb (length word) 0) _ e in
    by (eqb (get_or word 0 0) 48) refl (omega (arith, eqb-false (length word) 0 some.0)) some.1
  where
    by : (zero_first : Bool) → eqb (get_or word 0 0) 48 ≡ zero_first → 0 < length word
        → cond zero_first (eqb (length word) 1) (list_all is_ascii_digit word) ≡ true → IsSpelled word
    by true is some e = one_zero word (eqb-true _ _ is) (eqb-true _ _ e)
    by false is some e = record { some = some; first = λ same. absurd (eqb-false _ _ is same); all = e }

pub numeral_found : (word : List ℕ) (n : ℕ) → numeral word ≡ Some n → n < 2 ^ 64 → decimal n ≡ word
unfolding numeral
numeral_found word n e lt = by (is_numeral word) refl e
  where
    by : (is : Bool) → is_numeral word ≡ is → cond is (Some (digits_value 10 word)) None ≡ Some n → decimal n ≡ word
    by false is e = absurd (cc e)
    by true is e =
        let so = spelled word is in
        let worth : digits_value 10 word ≡ n = cc e in
        rw (← worth) (decimal-digits_value own word so.all so.some so.first (rw worth lt))

-- a number that was read, whatever the fault and the most
pub number_found : (fault : TextKind) (most : ℕ) (word : List ℕ) (n : ℕ) → most < 2 ^ 64 → number_of fault most word ≡ Ok n
    → (decimal n ≡ word) × (n ≤ most)
number_found fault most word n lt e = by (numeral word) refl e
  where
    by : (o : Option ℕ) → numeral word ≡ o → at_most fault most o ≡ Ok n → (decimal n ≡ word) × (n ≤ most)
    by None is e = absurd (cc e)
    by (Some m) is e =
        let few = kept (leb m most) (Ok m) fault n e in
        let same : m ≡ n = cc few.1 in
        let le : m ≤ most = leb-true m most few.0 in
        rw (← same) (numeral_found word m is (omega arith), le)
