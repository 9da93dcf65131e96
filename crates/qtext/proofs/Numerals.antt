-- What decimal digits are worth, read from the left.
use Rattle.std.proofs.Common.{◌≡◌, ◌≢◌, ℕ, suc, ◌≤◌, ◌<◌, ◌+◌, ◌-◌, ◌*◌, ◌^◌, Bool, true, false, eqb, List, [], ◌∷◌, length, get_or, drop, Option, Some, None, refl, sym, ap, ◌∙◌, arith, rules, inl, inr, add-one, drop-cons}
use Rattle.std.specs.Prelude.{IfSome, MatchOption}
use Rattle.std.specs.List.{list_all}
use Rattle.std.specs.Char.{is_ascii_digit, digit_value}
use Rattle.std.specs.Str.Parse.{digits_value, digits_value_after}
use Rattle.std.proofs.Math.Nat.{pow-le-pow_right, pow-suc}
use Rattle.std.proofs.lemmas.Bool.{cases_lt}
use Rattle.std.proofs.lemmas.Bool.Decides.{nat_tests}
use Rattle.std.proofs.lemmas.Str.Parse.{IsNumeralModel, IsDigitsTest, numerals_by_value}
use Rattle.qtext.specs.Words.{AreDigits, is_numeral, numeral}

tells : IsDigitsTest AreDigits
tells = search rules

pub own : IsNumeralModel AreDigits (digits_value 10)
own = numerals_by_value AreDigits tells

-- what is read so far is worth so much, and the rest are digits where all are
pub record IsSoFar (digits rest : List ℕ) (value : ℕ) : Type 0 where
  pub same : list_all is_ascii_digit digits ≡ list_all is_ascii_digit rest
  pub worth : AreDigits rest → digits_value_after 10 value rest ≡ digits_value 10 digits

digit_of : (d : ℕ) → is_ascii_digit d ≡ true → digit_value d ≡ d - 48
digit_of d e = grind (arith, nat_tests)

le_after : (n : ℕ) (ds : List ℕ) → n ≤ digits_value_after 10 n ds
le_after n [] = omega arith
le_after n (c ∷ cs) = omega (arith, le_after (n * 10 + digit_value c) cs)

all_at : (digits rest : List ℕ) (value d : ℕ) → IsSoFar digits (d ∷ rest) value → is_ascii_digit d ≡ true
    → list_all is_ascii_digit digits ≡ list_all is_ascii_digit rest
all_at digits rest value d so is = so.same ∙ rw is refl

worth_at : (digits rest : List ℕ) (value d : ℕ) → IsSoFar digits (d ∷ rest) value → is_ascii_digit d ≡ true
    → AreDigits rest → digits_value_after 10 (value * 10 + (d - 48)) rest ≡ digits_value 10 digits
worth_at digits rest value d so is all =
    let both : AreDigits (d ∷ rest) = rw is all in
    rw (← digit_of d is) (so.worth both)

pub one_more : (digits rest left : List ℕ) (value d : ℕ) → left ≡ d ∷ rest → is_ascii_digit d ≡ true
    → IsSoFar digits left value → IsSoFar digits rest (value * 10 + (d - 48))
one_more digits rest left value d e is so =
    let here : IsSoFar digits (d ∷ rest) value = rw e at so in
    record { same = all_at digits rest value d here is; worth = worth_at digits rest value d here is }

pub no_digits : (digits rest left : List ℕ) (value d : ℕ) → left ≡ d ∷ rest → is_ascii_digit d ≡ false
    → IsSoFar digits left value → list_all is_ascii_digit digits ≡ false
no_digits digits rest left value d e nope so =
    let here : IsSoFar digits (d ∷ rest) value = rw e at so in
    here.same ∙ rw nope refl

pub too_large : (digits rest left : List ℕ) (value d most : ℕ) → left ≡ d ∷ rest → is_ascii_digit d ≡ true
    → most ≤ value * 10 + (d - 48) → IsSoFar digits left value → AreDigits digits
    → most ≤ digits_value 10 digits
too_large digits rest left value d most e is le so all =
    let here : IsSoFar digits (d ∷ rest) value = rw e at so in
    let worth = worth_at digits rest value d here is (sym (all_at digits rest value d here is) ∙ all) in
    omega (arith, worth, le_after (value * 10 + (d - 48)) rest, le)

pub all_read : (digits left : List ℕ) (value : ℕ) → left ≡ [] → IsSoFar digits left value → AreDigits digits × (value ≡ digits_value 10 digits)
all_read digits left value e so =
    let here : IsSoFar digits [] value = rw e at so in
    (here.same, here.worth refl)

-- what is answered for a word that spells a number
abbrev pub Read : List ℕ → Option ℕ → Type 0
Read word o = MatchOption o (IfSome (numeral word) (λ n. 2 ^ 64 ≤ n)) (λ n. numeral word ≡ Some n)

no_number : (word : List ℕ) → is_numeral word ≡ false → Read word None
unfolding numeral
no_number word e = rw e tt

a_number : (word : List ℕ) → is_numeral word ≡ true → numeral word ≡ Some (digits_value 10 word)
unfolding numeral
a_number word e = rw e refl

pub read_empty : (word : List ℕ) → length word ≡ 0 → Read word None
read_empty word e = no_number word (rw e refl)

pub read_zero : (word : List ℕ) → get_or word 0 0 ≡ 48 → length word ≡ 1 → Read word (Some 0)
read_zero [] z e = absurd (omega arith)
read_zero (c ∷ []) z e = rw z (a_number (48 ∷ []) refl)
read_zero (c ∷ d ∷ cs) z e = absurd (omega arith)

pub read_longer_zero : (word : List ℕ) → 0 < length word → get_or word 0 0 ≡ 48 → length word ≢ 1 → Read word None
read_longer_zero word lt z ne =
    let some : eqb (length word) 0 ≡ false = grind (arith, nat_tests) in
    let more : eqb (length word) 1 ≡ false = grind (arith, nat_tests) in
    no_number word (rw (some, z) more)

told_digits : (word : List ℕ) → 0 < length word → get_or word 0 0 ≢ 48 → is_numeral word ≡ list_all is_ascii_digit word
told_digits word lt ne =
    let some : eqb (length word) 0 ≡ false = grind (arith, nat_tests) in
    let first : eqb (get_or word 0 0) 48 ≡ false = grind (arith, nat_tests) in
    rw (some, first) refl

-- what `value_of` answers
abbrev pub Values : List ℕ → Option ℕ → Type 0
Values digits o = MatchOption o (AreDigits digits → 2 ^ 64 ≤ digits_value 10 digits) (λ n. AreDigits digits × (n ≡ digits_value 10 digits))

refused : (word : List ℕ) (b : Bool) → is_numeral word ≡ b → (b ≡ true → 2 ^ 64 ≤ digits_value 10 word) → Read word None
refused word false e le = no_number word e
refused word true e le = rw (a_number word e) (le refl)

abbrev some_number : ℕ → Option ℕ
some_number n = Some n

pub read_digits : (word : List ℕ) (o : Option ℕ) → 0 < length word → get_or word 0 0 ≢ 48 → Values word o → Read word o
read_digits word None lt ne h = refused word _ (told_digits word lt ne) h
read_digits word (Some n) lt ne h = a_number word (told_digits word lt ne ∙ h.0) ∙ ap some_number (sym h.1)

-- what `short_value` answers
abbrev pub ShortValues : List ℕ → Option ℕ → Type 0
ShortValues digits o = MatchOption o (list_all is_ascii_digit digits ≡ false) (λ n. AreDigits digits × (n ≡ digits_value 10 digits))

short_values : (digits : List ℕ) (o : Option ℕ) → ShortValues digits o → Values digits o
short_values digits None none = λ all. absurd (cc (sym none ∙ all))
short_values digits (Some n) is = is

pub read_short : (word : List ℕ) (o : Option ℕ) → 0 < length word → get_or word 0 0 ≢ 48 → ShortValues word o → Read word o
read_short word o lt ne is = read_digits word o lt ne (short_values word o is)

pub some_length : (n : ℕ) → false ≡ eqb n 0 → 0 < n
some_length n e = grind (arith, nat_tests)

pub cut_at : (ds : List ℕ) (i : ℕ) → i < length ds → drop i ds ≡ get_or ds i 0 ∷ drop (i + 1) ds
cut_at ds i lt = rw add-one (drop-cons ds i 0 lt)

pub not_less : (a b : ℕ) → (a < b → ⊥) → b ≤ a
not_less a b h = elim (cases_lt a b) [
  | inl lt ↦ absurd (h lt)
  | inr le ↦ le
]

pub digit_is_low : (d : ℕ) → is_ascii_digit d ≡ true → d - 48 ≤ 9
digit_is_low d e = grind (arith, nat_tests)

-- few digits are worth less than 64 bits hold, whichever they are
pub short_worth : (value digit place : ℕ) → value < 10 ^ place → place < 19 → digit ≤ 9 → value * 10 + digit < 2 ^ 64
short_worth value digit place lt few small =
    let most : 10 ^ suc place ≤ 10 ^ 19 = pow-le-pow_right (omega arith) few in
    omega (arith, most, pow-suc 10 place)
