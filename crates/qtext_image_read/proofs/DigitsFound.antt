-- What digits in lower case are read as.
use Rattle.std.proofs.Common.{◌≡◌, ℕ, ◌%◌, ◌<◌, ◌≤◌, zero, suc, Bool, true, false, not, cond, ◌&&◌, ◌||◌, List, [], ◌∷◌}
use Rattle.std.proofs.Common.{codes, length, eqb, Result, Ok, Err, refl, sym, ap, ap₂, ◌∙◌, arith, inl, inr}
use Rattle.std.specs.Prelude.{nat_le}
use Rattle.std.specs.Char.{is_ascii_uppercase}
use Rattle.std.specs.List.{list_all, list_any}
use Rattle.std.specs.Str.{bytes_eq}
use Rattle.std.proofs.lemmas.Bool.{and_parts, cases_lt, eqb-true}
use Rattle.std.proofs.lemmas.Bool.Decides.{nat_tests}
use Rattle.std.proofs.lemmas.List.Sums.{AllPass-from_list_all, list_all-from_AllPass}
use Rattle.hex.specs.Hex.{decode_of, decode_pairs, is_hex_digit}
use Rattle.hex.specs.declared.error.FromHexError.{FromHexError}
use Rattle.hex.proofs.HexLemmas.{decode_of-digits, decode_of-ok}
use Rattle.qtext.specs.declared.text_fault.TextKind.TheVariants.{BadHex}
use Rattle.qtext.specs.Data.{data_of}
use Rattle.qtext.proofs.StepsFound.{same_word}
use Rattle.qtext_image.specs.RowsRead.{lower_data_of}
use Rattle.qtext_image_read.proofs.DigitLanes.{same_test}
use Rattle.qtext_image_read.specs.Digits.{are_pairs, bytes_of, is_lower_digit}

not_true : (b : Bool) → not b ≡ true → b ≡ false
not_true true e = absurd (cc)
not_true false e = refl

-- a digit in lower case is one that is not in upper case, of the first N bytes
abbrev both : ℕ → Bool
both d = is_hex_digit d && not (is_ascii_uppercase d)

abbrev agree : ℕ → Bool
agree zero = true
agree (suc n) = cond (is_lower_digit n) (both n) (not (both n)) && agree n

agree_at : (n d : ℕ) → agree n ≡ true → d < n → is_lower_digit d ≡ both d
agree_at zero d e lt = absurd (omega arith)
agree_at (suc n) d e lt =
    let parts = and_parts (cond (is_lower_digit n) (both n) (not (both n))) (agree n) e in
    elim (cases_lt d n) [
      | inl below ↦ agree_at n d parts.1 below
      | inr last ↦
          let same : d ≡ n = omega arith in
          rw same (same_test (is_lower_digit n) (both n) parts.0)
    ]

-- above them no byte is one
no_digit : (d : ℕ) → 256 ≤ d → is_lower_digit d ≡ false
no_digit d high = grind (arith, nat_tests, high)

no_hex : (d : ℕ) → 256 ≤ d → is_hex_digit d ≡ false
no_hex d high =
    let below_a : nat_le d 70 ≡ false = grind (arith, nat_tests, high) in
    let below_b : nat_le d 102 ≡ false = grind (arith, nat_tests, high) in
    let below_c : nat_le d 57 ≡ false = grind (arith, nat_tests, high) in
    let above_a : nat_le 65 d ≡ true = grind (arith, nat_tests, high) in
    let above_b : nat_le 97 d ≡ true = grind (arith, nat_tests, high) in
    let above_c : nat_le 48 d ≡ true = grind (arith, nat_tests, high) in
    rw (below_a, below_b, below_c, above_a, above_b, above_c) refl

same_at : (d : ℕ) → is_lower_digit d ≡ both d
same_at d = elim (cases_lt d 256) [
  | inl low ↦ agree_at 256 d refl low
  | inr high ↦ no_digit d (omega arith) ∙ ap (λ b. b && not (is_ascii_uppercase d)) (sym (no_hex d (omega arith)))
]

in_turn : (h u hs us : Bool) → (h && not u) && (hs && not us) ≡ (h && hs) && not (u || us)
in_turn true true true us = refl
in_turn true true false us = refl
in_turn true false true us = refl
in_turn true false false us = refl
in_turn false u hs us = refl

-- so are those of a word
all_both : (v : List ℕ)
    → list_all is_lower_digit v ≡ list_all is_hex_digit v && not (list_any is_ascii_uppercase v)
all_both [] = refl
all_both (d ∷ v) =
    ap₂ (λ a b. a && b) (same_at d) (all_both v)
    ∙ in_turn (is_hex_digit d) (is_ascii_uppercase d) (list_all is_hex_digit v) (list_any is_ascii_uppercase v)

-- a dash tells of no bytes
pub dash_read : (word : List ℕ) → bytes_eq word (codes "-") ≡ true → lower_data_of word ≡ Ok (bytes_of [])
unfolding lower_data_of data_of decode_pairs
dash_read word is = rw (same_word word (codes "-") is) refl

pub none_decoded : decode_of [] ≡ Ok (bytes_of [])
unfolding decode_pairs
none_decoded = refl

-- digits in pairs are some, of an even number, and none is in upper case
record IsPaired (word : List ℕ) : Type 0 where
  some : eqb (length word) 0 ≡ false
  even : length word % 2 ≡ 0
  digits : list_all is_hex_digit word ≡ true
  lower : list_any is_ascii_uppercase word ≡ false

paired : (word : List ℕ) → are_pairs word ≡ true → IsPaired word
paired word pairs =
    let in_twos : Bool = eqb (length word % 2) 0 in
    let some = and_parts (not (eqb (length word) 0)) (in_twos && list_all is_lower_digit word) pairs in
    let even = and_parts in_twos (list_all is_lower_digit word) some.1 in
    let all = sym (all_both word) ∙ even.1 in
    let digits = and_parts (list_all is_hex_digit word) (not (list_any is_ascii_uppercase word)) all in
    record {
      some = not_true _ some.0;
      even = eqb-true _ _ even.0;
      digits = digits.0;
      lower = not_true _ digits.1;
    }

module _ (word : List ℕ) where
  -- they can be decoded
  pub pairs_decoded : are_pairs word ≡ true → decode_of word ≡ Ok (bytes_of word)
  pairs_decoded pairs =
      let is = paired word pairs in
      let read = decode_of-digits word is.even (AllPass-from_list_all is_hex_digit word is.digits) in
      rw read.1 refl

  module _ (other : bytes_eq word (codes "-") ≡ false) where
    -- and are read as their bytes
    pub pairs_read : are_pairs word ≡ true → lower_data_of word ≡ Ok (bytes_of word)
    unfolding lower_data_of data_of
    pairs_read pairs = let is = paired word pairs in rw (is.lower, other, is.some, pairs_decoded pairs) refl

    -- all else is refused
    pub others_refused : are_pairs word ≡ false → lower_data_of word ≡ Err BadHex
    unfolding lower_data_of data_of
    others_refused bad = by (list_any is_ascii_uppercase word) (eqb (length word) 0) (decode_of word) refl refl refl
      where
        by : (upper none : Bool) (r : Result (List ℕ) FromHexError) → list_any is_ascii_uppercase word ≡ upper
            → eqb (length word) 0 ≡ none → decode_of word ≡ r → lower_data_of word ≡ Err BadHex
        by true none r u n d = rw u refl
        by false true r u n d = rw (u, other, n) refl
        by false false (Err e) u n d = rw (u, other, n, d) refl
        by false false (Ok bytes) u n d =
            let ok = decode_of-ok word bytes d in
            let digits : list_all is_hex_digit word ≡ true = list_all-from_AllPass is_hex_digit word ok.1 in
            let lower : list_all is_lower_digit word ≡ true = all_both word ∙ ap₂ (λ a b. a && not b) digits u in
            let even : eqb (length word % 2) 0 ≡ true = rw ok.0 refl in
            let pairs : are_pairs word ≡ true = rw (n, even, lower) refl in
            cc (sym pairs ∙ bad)
