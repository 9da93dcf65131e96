-- Digits in lower case, lane by lane.
use Rattle.std.proofs.Common.{◌≡◌, ℕ, ◌+◌, ◌-◌, ◌*◌, ◌%◌, ◌^◌, ◌<◌, zero, suc, Bool, true, false, not, cond, ◌&&◌, eqb}
use Rattle.std.proofs.Common.{ltb, List, [], ◌∷◌, drop, length, map, replicate, refl, ap, ap₂, ◌∙◌, arith, w8, inl, inr}
use Rattle.std.specs.List.{list_all}
use Rattle.std.proofs.lemmas.Bool.{and_parts, cases_lt}
use Rattle.std.proofs.lemmas.Bool.Decides.{nat_tests}
use Rattle.std.proofs.lemmas.List.{length-map}
use Rattle.std.proofs.lemmas.List.Folds.{list_all-append}
use Rattle.std.proofs.lemmas.Simd.{chunk-drop, map-map, mask_l-mod, splat_is_map, tops_compared, zip2_splat}
use Rattle.std.proofs.lemmas.Simd.{zip2_splat_left}
use lib.Lanes.{Each1, chunk, mask_l, sel_l, top, zip2}
use mir.Val.{Fits, bits}
use Rattle.qtext_image_read.specs.Digits.{is_lower_digit}

-- how far a byte is behind another, modulo 256
abbrev behind : ℕ → ℕ → ℕ
behind a d = (d + (2 ^ bits w8 - a)) % 2 ^ bits w8

abbrev less_than : ℕ → ℕ → ℕ
less_than a b = cond (ltb a b) (2 ^ bits w8 - 1) 0

-- what a lane comes to: 0 for a letter
abbrev place : ℕ → ℕ
place d = cond (ltb (behind 97 d) 6) 0 (behind 48 d)

pub same_test : (a b : Bool) → cond a b (not b) ≡ true → a ≡ b
same_test true true e = refl
same_test true false e = absurd (cc)
same_test false true e = absurd (cc)
same_test false false e = refl

-- it is above 9 where it is no digit, of the first N bytes
abbrev agree : ℕ → Bool
agree zero = true
agree (suc n) = cond (not (ltb 9 (place n))) (is_lower_digit n) (not (is_lower_digit n)) && agree n

agree_at : (n d : ℕ) → agree n ≡ true → d < n → not (ltb 9 (place d)) ≡ is_lower_digit d
agree_at zero d e lt = absurd (omega arith)
agree_at (suc n) d e lt =
    let parts = and_parts (cond (not (ltb 9 (place n))) (is_lower_digit n) (not (is_lower_digit n))) (agree n) e in
    elim (cases_lt d n) [
      | inl below ↦ agree_at n d parts.1 below
      | inr last ↦
          let same : d ≡ n = omega arith in
          rw same (same_test (not (ltb 9 (place n))) (is_lower_digit n) parts.0)
    ]

-- a mask is empty where no lane passes
no_bit : (v : List ℕ) → Each1 (Fits w8) v → eqb (mask_l (map (λ d. ltb 9 (place d)) v)) 0 ≡ list_all is_lower_digit v
no_bit [] small = refl
no_bit (d ∷ v) small =
    bits_of (ltb 9 (place d)) (mask_l (map (λ d. ltb 9 (place d)) v))
    ∙ ap₂ (λ a b. a && b) (agree_at 256 d refl small.0.fits) (no_bit v small.1)
  where
    bits_of : (a : Bool) (rest : ℕ) → eqb (cond a 1 0 + 2 * rest) 0 ≡ not a && eqb rest 0
    bits_of true rest = grind (arith, nat_tests)
    bits_of false rest = grind (arith, nat_tests)

-- a choice by a test of each lane
selected : (test : ℕ → Bool) (f g : ℕ → ℕ) (v : List ℕ)
    → sel_l (map test v) (map f v) (map g v) ≡ map (λ d. cond (test d) (f d) (g d)) v
selected test f g [] = refl
selected test f g (d ∷ v) = ap (λ ys. cond (test d) (f d) (g d) ∷ ys) (selected test f g v)

module _ (v : List ℕ) (long : length v ≡ 16) where
  abbrev lowered : ℕ → List ℕ
  lowered a = zip2 (λ d x. behind x d) v (replicate 16 a)

  lowered_is : (a : ℕ) → lowered a ≡ map (behind a) v
  lowered_is a = zip2_splat (λ d x. behind x d) v 16 a long

  abbrev places : List ℕ
  places = sel_l (map (top 7) (zip2 less_than (lowered 97) (replicate 16 6))) (replicate 16 0) (lowered 48)

  places_are : places ≡ map place v
  places_are =
      let tests : map (top 7) (zip2 less_than (lowered 97) (replicate 16 6)) ≡ map (λ d. ltb (behind 97 d) 6) v =
      tops_compared w8 ltb (lowered 97) (replicate 16 6)
      ∙ zip2_splat ltb (lowered 97) 16 6 (ap length (lowered_is 97) ∙ length-map v (behind 97) ∙ long)
      ∙ ap (map (λ x. ltb x 6)) (lowered_is 97) ∙ map-map (λ x. ltb x 6) (behind 97) v in
      ap (λ ms. sel_l ms (replicate 16 0) (lowered 48)) tests
      ∙ ap₂ (λ xs ys. sel_l (map (λ d. ltb (behind 97 d) 6) v) xs ys) (splat_is_map v 16 0 long) (lowered_is 48)
      ∙ selected (λ d. ltb (behind 97 d) 6) (λ d. 0) (behind 48) v

  -- 16 lanes are digits where their mask is empty
  pub digit_lanes : Each1 (Fits w8) v
      → eqb (mask_l (map (top 7) (zip2 less_than (replicate 16 9) places)) % 2 ^ 64) 0 ≡ list_all is_lower_digit v
  digit_lanes small =
      let many : length places ≡ 16 = ap length places_are ∙ length-map v place ∙ long in
      let tests : map (top 7) (zip2 less_than (replicate 16 9) places) ≡ map (λ d. ltb 9 (place d)) v =
      tops_compared w8 ltb (replicate 16 9) places ∙ zip2_splat_left ltb 9 16 places many
      ∙ ap (map (ltb 9)) places_are ∙ map-map (ltb 9) place v in
      let tested : List Bool = map (λ d. ltb 9 (place d)) v in
      let whole = mask_l-mod tested 64 (omega (arith, length-map v (λ d. ltb 9 (place d)), long)) in
      ap (λ ms. eqb (mask_l ms % 2 ^ 64) 0) tests ∙ ap (λ n. eqb n 0) whole ∙ no_bit v small

-- in 16 bytes and in those after them
pub digits_on : (text : List ℕ) (at : ℕ)
    → list_all is_lower_digit (drop at text)
    ≡ list_all is_lower_digit (chunk at 16 text) && list_all is_lower_digit (drop (at + 16) text)
digits_on text at =
    ap (list_all is_lower_digit) (chunk-drop at 16 text)
    ∙ list_all-append is_lower_digit (chunk at 16 text) (drop (at + 16) text)
