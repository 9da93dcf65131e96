-- Bytes of 32 hexadecimal digits, lane by lane.
use Rattle.std.proofs.Common.{◌≡◌, ℕ, ◌+◌, ◌-◌, ◌*◌, ◌%◌, ◌^◌, ◌<◌, ◌≤◌, zero, suc, Bool, true, false, cond, ◌&&◌, eqb, ltb, List, [], ◌∷◌, ◌++◌, drop, length, map, replicate, take, refl, sym, ap, ap₂, subst, ◌∙◌, arith, w8, inl, inr}
use Rattle.std.proofs.lemmas.Bool.{and_parts, cases_lt, eqb-true}
use Rattle.std.proofs.lemmas.Bool.Decides.{nat_tests}
use Rattle.std.proofs.lemmas.List.{drop-drop, length-map}
use Rattle.std.proofs.lemmas.Simd.{length-chunk, map-map, mask_l-mod, pick_l_whole, splat_is_map, take_more_put_chunk, tops_compared, zip2_splat, zip2_splat_left}
use lib.Lanes.{Each1, chunk, mask_l, pick_l, put_chunk, sel_l, top, zip2}
use Rattle.std.proofs.Math.Seq.{take-add}
use mir.Val.{Fits, bits}
use Rattle.qtext.specs.Digits.{AreDigits, bytes_in, digit_or, lowers_in, uppers_in}

-- a byte of which a number was taken away, modulo 256
abbrev less : ℕ → ℕ → ℕ
less a d = (d + (2 ^ bits w8 - a)) % 2 ^ bits w8

abbrev less_than : ℕ → ℕ → ℕ
less_than a b = cond (ltb a b) (2 ^ bits w8 - 1) 0

-- a choice by a test of each lane
selected : (test : ℕ → Bool) (f g : ℕ → ℕ) (v : List ℕ) → sel_l (map test v) (map f v) (map g v) ≡ map (λ d. cond (test d) (f d) (g d)) v
selected test f g [] = refl
selected test f g (d ∷ v) = ap (λ ys. cond (test d) (f d) (g d) ∷ ys) (selected test f g v)

-- of the lanes that are one of N numbers from the first on, what stands so far behind another; and else what was there
module _ (v : List ℕ) (long : length v ≡ 16) where
  abbrev lowered : ℕ → List ℕ
  lowered a = zip2 (λ d x. less x d) v (replicate 16 a)

  lowered_is : (a : ℕ) → lowered a ≡ map (less a) v
  lowered_is a = zip2_splat (λ d x. less x d) v 16 a long

  ranged : (a many b : ℕ) (g : ℕ → ℕ) (others : List ℕ) → others ≡ map g v
      → sel_l (map (top 7) (zip2 less_than (lowered a) (replicate 16 many))) (lowered b) others
      ≡ map (λ d. cond (ltb (less a d) many) (less b d) (g d)) v
  ranged a many b g others is =
      let tests : map (top 7) (zip2 less_than (lowered a) (replicate 16 many)) ≡ map (λ d. ltb (less a d) many) v =
      tops_compared w8 ltb (lowered a) (replicate 16 many)
      ∙ zip2_splat ltb (lowered a) 16 many (ap length (lowered_is a) ∙ length-map v (less a) ∙ long)
      ∙ ap (map (λ x. ltb x many)) (lowered_is a) ∙ map-map (λ x. ltb x many) (less a) v in
      ap (λ ms. sel_l ms (lowered b) others) tests
      ∙ ap₂ (λ xs ys. sel_l (map (λ d. ltb (less a d) many) v) xs ys) (lowered_is b) is
      ∙ selected (λ d. ltb (less a d) many) (less b) g v

-- what the tests make of a lane
abbrev decimal_or : ℕ → ℕ
decimal_or d = cond (ltb (less 48 d) 10) (less 48 d) 255

abbrev lower_or : ℕ → ℕ
lower_or d = cond (ltb (less 97 d) 6) (less 87 d) (decimal_or d)

abbrev lane_value : ℕ → ℕ
lane_value d = cond (ltb (less 65 d) 6) (less 55 d) (lower_or d)

-- it is what the digit stands for, of the first N bytes
abbrev agree : ℕ → Bool
agree zero = true
agree (suc n) = eqb (lane_value n) (digit_or n) && agree n

agree_at : (n d : ℕ) → agree n ≡ true → d < n → lane_value d ≡ digit_or d
agree_at zero d e lt = absurd (omega arith)
agree_at (suc n) d e lt =
    let parts = and_parts (eqb (lane_value n) (digit_or n)) (agree n) e in
    elim (cases_lt d n) [
      | inl below ↦ agree_at n d parts.1 below
      | inr last ↦
          let same : d ≡ n = omega arith in
          rw same (eqb-true _ _ parts.0)
    ]

all_agree : (v : List ℕ) → Each1 (Fits w8) v → map lane_value v ≡ map digit_or v
all_agree [] small = refl
all_agree (d ∷ v) small = ap₂ (λ x xs. x ∷ xs) (agree_at 256 d refl small.0.fits) (all_agree v small.1)

-- what each of 16 digits stands for
pub values_are : (v : List ℕ) → length v ≡ 16 → Each1 (Fits w8) v
    → sel_l (map (top 7) (zip2 less_than (zip2 (λ d x. less x d) v (replicate 16 65)) (replicate 16 6))) (zip2 (λ d x. less x d) v (replicate 16 55))
    (sel_l (map (top 7) (zip2 less_than (zip2 (λ d x. less x d) v (replicate 16 97)) (replicate 16 6))) (zip2 (λ d x. less x d) v (replicate 16 87))
    (sel_l (map (top 7) (zip2 less_than (zip2 (λ d x. less x d) v (replicate 16 48)) (replicate 16 10))) (zip2 (λ d x. less x d) v (replicate 16 48))
    (replicate 16 255))) ≡ map digit_or v
values_are v long small =
    ranged v long 65 6 55 lower_or _ (ranged v long 97 6 87 decimal_or _ (ranged v long 48 10 48 (λ d. 255) (replicate 16 255)
    (splat_is_map v 16 255 long))) ∙ all_agree v small

-- where no bit of the mask is set no lane passes the test
none_pass : (v : List ℕ) → mask_l (map (ltb 15) v) ≡ 0 → Each1 (λ d. d < 16) v
none_pass [] none = tt
none_pass (d ∷ v) none = (
  elim (cases_lt d 16) [
    | inl low ↦ low
    | inr high ↦
        let passes : ltb 15 d ≡ true = grind (arith, nat_tests, high) in
        let counted : cond (ltb 15 d) 1 0 ≡ 1 = ap {B = ℕ} (λ b. cond b 1 0) passes in
        absurd (omega (arith, none, counted))
  ],
  none_pass v (omega (arith, none)),
)

-- so 16 lanes are values where their mask is empty
pub values_below : (v : List ℕ) → length v ≡ 16
    → mask_l (map (top 7) (zip2 less_than (replicate 16 15) v)) % 2 ^ 64 ≡ 0 → Each1 (λ d. d < 16) v
values_below v long empty =
    let tests = tops_compared w8 ltb (replicate 16 15) v ∙ zip2_splat_left ltb 15 16 v long in
    let whole = mask_l-mod (map (ltb 15) v) 64 (omega (arith, length-map v (ltb 15), long)) in
    none_pass v (sym whole ∙ sym (ap (λ ms. mask_l ms % 2 ^ 64) tests) ∙ empty)

-- bytes of halves, without an end of the numbers
joined_each : (us ls : List ℕ) → Each1 (λ d. d < 16) us → Each1 (λ d. d < 16) ls
    → zip2 (λ a b. (a + b) % 2 ^ bits w8) (map (λ u. u * 16 % 2 ^ bits w8) us) ls ≡ zip2 (λ u l. u * 16 + l) us ls
joined_each [] ls uppers lowers = refl
joined_each (u ∷ us) [] uppers lowers = refl
joined_each (u ∷ us) (l ∷ ls) uppers lowers =
    let byte : (u * 16 % 256 + l) % 256 ≡ u * 16 + l = omega (arith, uppers.0, lowers.0) in
    ap₂ (λ x xs. x ∷ xs) byte (joined_each us ls uppers.1 lowers.1)

pub joined_are : (us ls : List ℕ) → length us ≡ 16 → Each1 (λ d. d < 16) us → Each1 (λ d. d < 16) ls
    → zip2 (λ a b. (a + b) % 2 ^ bits w8) (zip2 (λ a b. a * b % 2 ^ bits w8) us (replicate 16 16)) ls ≡ zip2 (λ u l. u * 16 + l) us ls
joined_are us ls long uppers lowers =
    ap (λ xs. zip2 (λ a b. (a + b) % 2 ^ bits w8) xs ls) (zip2_splat (λ a b. a * b % 2 ^ bits w8) us 16 16 long)
    ∙ joined_each us ls uppers lowers

-- the lanes of even and of odd places
abbrev pub evens : List ℕ → List ℕ
evens ds = pick_l 0 ds (0 ∷ 2 ∷ 4 ∷ 6 ∷ 8 ∷ 10 ∷ 12 ∷ 14 ∷ 16 ∷ 18 ∷ 20 ∷ 22 ∷ 24 ∷ 26 ∷ 28 ∷ 30 ∷ [])

abbrev pub odds : List ℕ → List ℕ
odds ds = pick_l 0 ds (1 ∷ 3 ∷ 5 ∷ 7 ∷ 9 ∷ 11 ∷ 13 ∷ 15 ∷ 17 ∷ 19 ∷ 21 ∷ 23 ∷ 25 ∷ 27 ∷ 29 ∷ 31 ∷ [])

-- are the first and the second of each two of 32 digits
uppers_are : (v : List ℕ) → length v ≡ 32 → evens v ≡ uppers_in v
uppers_are v long = subst (λ u. evens u ≡ uppers_in u) (pick_l_whole 0 v 32 long) refl

lowers_are : (v : List ℕ) → length v ≡ 32 → odds v ≡ lowers_in v
lowers_are v long = subst (λ u. odds u ≡ lowers_in u) (pick_l_whole 0 v 32 long) refl

-- which are loaded in two parts
two_parts : (word : List ℕ) (at : ℕ) → chunk at 16 word ++ chunk (at + 16) 16 word ≡ chunk at 32 word
two_parts word at =
    ap (λ xs. chunk at 16 word ++ take 16 xs) (sym (drop-drop 16 at word)) ∙ sym (take-add 16 16 (drop at word))

module _ (word : List ℕ) (at : ℕ) (room : at + 32 ≤ length word) where
  parts_evens : map digit_or (evens (chunk at 16 word ++ chunk (at + 16) 16 word)) ≡ map digit_or (uppers_in (chunk at 32 word))
  parts_evens = ap (λ xs. map digit_or (evens xs)) (two_parts word at) ∙ ap (map digit_or) (uppers_are (chunk at 32 word) (length-chunk at 32 word room))

  parts_odds : map digit_or (odds (chunk at 16 word ++ chunk (at + 16) 16 word)) ≡ map digit_or (lowers_in (chunk at 32 word))
  parts_odds = ap (λ xs. map digit_or (odds xs)) (two_parts word at) ∙ ap (map digit_or) (lowers_are (chunk at 32 word) (length-chunk at 32 word room))

  module _ (us ls : List ℕ) (us_are : us ≡ map digit_or (evens (chunk at 16 word ++ chunk (at + 16) 16 word)))
      (ls_are : ls ≡ map digit_or (odds (chunk at 16 word ++ chunk (at + 16) 16 word))) where
    -- where all are below 16 they are digits
    pub are_digits : Each1 (λ d. d < 16) us → Each1 (λ d. d < 16) ls → AreDigits (chunk at 32 word)
    are_digits uppers lowers = record {
      uppers = subst (Each1 (λ d. d < 16)) (us_are ∙ parts_evens) uppers;
      lowers = subst (Each1 (λ d. d < 16)) (ls_are ∙ parts_odds) lowers;
    }

    -- and their bytes stand behind what stood there
    pub bytes_stand : (out joined : List ℕ) (to : ℕ) → joined ≡ zip2 (λ u l. u * 16 + l) us ls → length joined ≡ 16 → to + 16 ≤ length out
        → take (to + 16) (put_chunk to out joined) ≡ take to out ++ bytes_in (chunk at 32 word)
    bytes_stand out joined to is long within =
        take_more_put_chunk to out joined (to + 16) (omega (arith, long)) (omega (arith, within))
        ∙ ap (λ xs. take to out ++ xs) (is ∙ ap₂ (zip2 (λ u l. u * 16 + l)) (us_are ∙ parts_evens) (ls_are ∙ parts_odds))
