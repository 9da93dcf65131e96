-- Which of 16 bytes do not print.
use Rattle.std.proofs.Common.{◌≡◌, ℕ, ◌+◌, ◌-◌, ◌<◌, ◌^◌, ◌%◌, Bool, not, cond, ltb, List, length, map, replicate, sym, ap, ◌∙◌, arith, w8, inl, inr}
use Rattle.std.proofs.lemmas.Bool.{cases_lt}
use Rattle.std.proofs.lemmas.Bool.Decides.{nat_tests}
use Rattle.std.proofs.lemmas.List.{length-map}
use Rattle.std.proofs.lemmas.Simd.{zip2_splat, zip2_splat_left, length-zip2, tops_compared, mask_l-mod, map-map, length-replicate}
use lib.Lanes.{zip2, mask_l, top}
use mir.Val.{Fits, bits}
use Rattle.qlanes.specs.Bytes.{is_printing}

-- a byte of which 0x21 was taken away, modulo 256
abbrev down : ℕ → ℕ
down byte = (byte + (2 ^ bits w8 - 33)) % 2 ^ bits w8

-- whether a byte does not print
abbrev pub stops : ℕ → Bool
stops byte = ltb 93 (down byte)

-- the test of each of 16 lanes, as a number of a bit a lane
abbrev pub stops_of : List ℕ → ℕ
stops_of v = mask_l (map (top 7) (zip2 (λ a b. cond (ltb a b) (2 ^ bits w8 - 1) 0) (replicate 16 93)
    (zip2 (λ a b. (a + (2 ^ bits w8 - b)) % 2 ^ bits w8) v (replicate 16 33)))) % 2 ^ 64

abbrev lowered : List ℕ → List ℕ
lowered v = zip2 (λ (a b : ℕ). (a + (2 ^ bits w8 - b)) % 2 ^ bits w8) v (replicate 16 33)

pub stops_are : (v : List ℕ) → length v ≡ 16 → stops_of v ≡ mask_l (map stops v)
stops_are v long =
    let same : lowered v ≡ map down v = zip2_splat (λ (a b : ℕ). (a + (2 ^ bits w8 - b)) % 2 ^ bits w8) v 16 33 long in
    let many : length (lowered v) ≡ 16 = length-zip2 _ v (replicate 16 33) (long ∙ sym (length-replicate {A = ℕ} 16 33)) ∙ long in
    ap (λ (ms : List Bool). mask_l ms % 2 ^ 64)
    (tops_compared w8 ltb (replicate 16 93) (lowered v) ∙ zip2_splat_left ltb 93 16 (lowered v) many
    ∙ ap (map (ltb 93)) same ∙ map-map (ltb 93) down v)
    ∙ mask_l-mod (map stops v) 64 (omega (arith, length-map v stops))

pub agree : (b : ℕ) → Fits w8 b → not (stops b) ≡ is_printing b
agree b small =
    let lt : b < 256 = small.fits in
    elim (cases_lt b 33) [
      | inl low ↦
          let is : down b ≡ b + 223 = omega arith in
          grind (arith, nat_tests)
      | inr high ↦
          let is : down b ≡ b - 33 = omega arith in
          grind (arith, nat_tests)
    ]
