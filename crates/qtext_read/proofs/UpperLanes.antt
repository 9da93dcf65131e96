-- Letters in upper case, lane by lane.
use Rattle.std.proofs.Common.{◌≡◌, ℕ, ◌+◌, ◌-◌, ◌*◌, ◌%◌, ◌^◌, ◌<◌, zero, suc, Bool, true, false, not, cond, ◌&&◌, ◌||◌, eqb, ltb, List, [], ◌∷◌, drop, length, map, replicate, refl, ap, ap₂, ◌∙◌, arith, w8, inl, inr}
use Rattle.std.specs.Char.{is_ascii_uppercase}
use Rattle.std.specs.List.{list_any}
use Rattle.std.proofs.lemmas.Bool.{and_parts, cases_lt}
use Rattle.std.proofs.lemmas.List.{length-map}
use Rattle.std.proofs.lemmas.Bool.Decides.{nat_tests}
use Rattle.std.proofs.lemmas.List.Folds.{list_any-append}
use Rattle.std.proofs.lemmas.Simd.{bitmask_splat, chunk-drop, map-map, zip2_splat}
use lib.Lanes.{Each1, chunk, mask_l, top, zip2}
use mir.Val.{Fits, bits}

-- how far a byte is behind `A`, modulo 256
abbrev behind : ℕ → ℕ
behind d = (d + (2 ^ bits w8 - 65)) % 2 ^ bits w8

abbrev is_upper : ℕ → Bool
is_upper d = ltb (behind d) 26

-- it is a letter in upper case where it is less than 26 behind, of the first N bytes
abbrev agree : ℕ → Bool
agree zero = true
agree (suc n) = cond (is_upper n) (is_ascii_uppercase n) (not (is_ascii_uppercase n)) && agree n

same_test : (a b : Bool) → cond a b (not b) ≡ true → a ≡ b
same_test true true e = refl
same_test true false e = absurd (cc)
same_test false true e = absurd (cc)
same_test false false e = refl

agree_at : (n d : ℕ) → agree n ≡ true → d < n → is_upper d ≡ is_ascii_uppercase d
agree_at zero d e lt = absurd (omega arith)
agree_at (suc n) d e lt =
    let parts = and_parts (cond (is_upper n) (is_ascii_uppercase n) (not (is_ascii_uppercase n))) (agree n) e in
    elim (cases_lt d n) [
      | inl below ↦ agree_at n d parts.1 below
      | inr last ↦
          let same : d ≡ n = omega arith in
          rw same (same_test (is_upper n) (is_ascii_uppercase n) parts.0)
    ]

-- a mask has a bit where a lane passes
some_bit : (v : List ℕ) → Each1 (Fits w8) v → not (eqb (mask_l (map is_upper v)) 0) ≡ list_any is_ascii_uppercase v
some_bit [] small = refl
some_bit (d ∷ v) small =
    bits_of (is_upper d) (mask_l (map is_upper v)) ∙ ap₂ (λ a b. a || b) (agree_at 256 d refl small.0.fits) (some_bit v small.1)
  where
    bits_of : (a : Bool) (rest : ℕ) → not (eqb (cond a 1 0 + 2 * rest) 0) ≡ a || not (eqb rest 0)
    bits_of true rest = grind (arith, nat_tests)
    bits_of false rest = grind (arith, nat_tests)

-- so it is of the mask of 16 lanes
pub upper_lanes : (v : List ℕ) → length v ≡ 16 → Each1 (Fits w8) v
    → not (eqb (mask_l (map (top 7) (zip2 (λ a b. cond (ltb a b) (2 ^ bits w8 - 1) 0)
    (zip2 (λ a b. (a + (2 ^ bits w8 - b)) % 2 ^ bits w8) v (replicate 16 65)) (replicate 16 26))) % 2 ^ 64) 0)
    ≡ list_any is_ascii_uppercase v
upper_lanes v long small =
    let lowered : List ℕ = zip2 (λ a b. (a + (2 ^ bits w8 - b)) % 2 ^ bits w8) v (replicate 16 65) in
    let is : lowered ≡ map behind v = zip2_splat (λ a b. (a + (2 ^ bits w8 - b)) % 2 ^ bits w8) v 16 65 long in
    let many : length lowered ≡ 16 = ap length is ∙ length-map v behind ∙ long in
    ap (λ n. not (eqb n 0)) (bitmask_splat w8 ltb lowered 16 26 many (omega arith) ∙ ap (λ xs. mask_l (map (λ x. ltb x 26) xs)) is
    ∙ ap mask_l (map-map (λ x. ltb x 26) behind v)) ∙ some_bit v small

-- in 16 bytes or in those after them
pub upper_on : (text : List ℕ) (at : ℕ)
    → list_any is_ascii_uppercase (drop at text) ≡ list_any is_ascii_uppercase (chunk at 16 text) || list_any is_ascii_uppercase (drop (at + 16) text)
upper_on text at =
    ap (list_any is_ascii_uppercase) (chunk-drop at 16 text)
    ∙ list_any-append is_ascii_uppercase (chunk at 16 text) (drop (at + 16) text)
