-- Hexadecimal digits of 16 bytes, lane by lane.
use Rattle.std.proofs.Common.{◌≡◌, ℕ, ◌+◌, ◌-◌, ◌*◌, ◌/◌, ◌%◌, ◌^◌, ◌<◌, ◌≤◌, zero, suc, Bool, true, false, cond, eqb, ltb, List, [], ◌∷◌, ◌++◌, length, map, drop, take, get_or, replicate, slice_index, refl, sym, ap, ap₂, subst, ◌∙◌, arith, w8, w16, inl, inr}
use Rattle.std.proofs.lemmas.List.{append_assoc, drop_more, get_or-map, length-map}
use Rattle.std.proofs.lemmas.Grind.{same_number_lists}
use Rattle.std.proofs.lemmas.Nat.{and_mask}
use Rattle.std.proofs.lemmas.Bool.{cases_lt}
use Rattle.std.proofs.lemmas.Bool.Decides.{nat_tests}
use Rattle.std.proofs.lemmas.Simd.{Each1-get_or, length-put_chunk, pick_l_whole, take_more_put_chunk, tops_compared, zip2_splat}
use lib.Bits.{bit_and}
use lib.Lanes.{Each1, chunk, number_l, pick_l, put_chunk, sel_l, top, zip2}
use mir.Val.{Fits, bits}
use Rattle.hex.specs.Hex.{encode_lower, encode_with, lower_digits}
use Rattle.qtext.proofs.DataFound.{lower_at}

-- two bytes in a row are one number
pub pair_in : (v : List ℕ) (k : ℕ) → k + 1 < length v → number_l 256 (chunk k 2 v) ≡ get_or v k 0 + 256 * get_or v (k + 1) 0
pair_in v k low =
    let first = drop_more v k 0 (omega (arith, low)) in
    let second = drop_more v (k + 1) 0 low in
    ap (λ xs. number_l 256 (take 2 xs)) (first ∙ ap (λ xs. get_or v k 0 ∷ xs) second) ∙ omega arith

-- a mask of four bits is a remainder
pub lower_half : (b : ℕ) → bit_and b 15 ≡ b % 16
lower_half b = and_mask b 4

-- functions that agree do the same to each element
pub same_map : (f g : ℕ → ℕ) → ((n : ℕ) → f n ≡ g n) → (xs : List ℕ) → map f xs ≡ map g xs
same_map f g same [] = refl
same_map f g same (x ∷ xs) = ap₂ (λ y ys. y ∷ ys) (same x) (same_map f g same xs)

module _ (v ps bs : List ℕ) (long : length v ≡ 16) (small : Each1 (Fits w8) v) (few : length ps ≡ 8)
    (paired : (j : ℕ) → j < 8 → get_or ps j 0 ≡ get_or v (2 * j) 0 + 256 * get_or v (2 * j + 1) 0)
    (parted : (j i : ℕ) → j < 8 → i < 2 → get_or bs (2 * j + i) 0 ≡ get_or (map (λ p. p / 16) ps) j 0 / 256 ^ i % 256) where
  -- of a number that was shifted by four bits, each lane's lower half is what was an upper one
  half_at : (j i : ℕ) → j < 8 → i < 2 → get_or bs (2 * j + i) 0 % 16 ≡ get_or v (2 * j + i) 0 / 16
  half_at j zero low within =
      let first = (Each1-get_or (Fits w8) v (2 * j) 0 (omega (arith, low, long)) small).fits in
      let is : get_or bs (2 * j + 0) 0 ≡ get_or ps j 0 / 16 / 1 % 256 =
      parted j 0 low (omega arith) ∙ ap (λ p. p / 1 % 256) (get_or-map (λ p. p / 16) ps j 0 0 (omega (arith, low, few))) in
      let same : get_or v (2 * j + 0) 0 ≡ get_or v (2 * j) 0 = ap (λ n. get_or v n 0) (omega arith) in
      omega (arith, is, same, paired j low, first)
  half_at j (suc zero) low within =
      let first = (Each1-get_or (Fits w8) v (2 * j) 0 (omega (arith, low, long)) small).fits in
      let second = (Each1-get_or (Fits w8) v (2 * j + 1) 0 (omega (arith, low, long)) small).fits in
      let is : get_or bs (2 * j + 1) 0 ≡ get_or ps j 0 / 16 / 256 % 256 =
      parted j 1 low (omega arith) ∙ ap (λ p. p / 256 % 256) (get_or-map (λ p. p / 16) ps j 0 0 (omega (arith, low, few))) in
      omega (arith, is, paired j low, first, second)
  half_at j (suc (suc i)) low within = absurd (omega (arith, within))

  pub upper_lanes : length bs ≡ 16 → map (λ b. b % 16) bs ≡ map (λ b. b / 16) v
  upper_lanes many =
      let as_many = length-map bs (λ b. b % 16) ∙ many ∙ sym long ∙ sym (length-map v (λ b. b / 16)) in
      same_number_lists (map (λ b. b % 16) bs) (map (λ b. b / 16) v) as_many λ k lt.
      let low : k < 16 = omega (arith, lt, length-map bs (λ b. b % 16), many) in
      let j : ℕ = k / 2 in
      let i : ℕ = k % 2 in
      let is : 2 * j + i ≡ k = omega arith in
      get_or-map (λ b. b % 16) bs k 0 0 (omega (arith, low, many))
      ∙ subst (λ n. get_or bs n 0 % 16 ≡ get_or v n 0 / 16) is (half_at j i (omega (arith, low)) (omega arith))
      ∙ sym (get_or-map (λ b. b / 16) v k 0 0 (omega (arith, low, long)))

-- functions that agree below 16 do the same to numbers below it
pub same_map_below : (f g : ℕ → ℕ) → ((n : ℕ) → n < 16 → f n ≡ g n) → (xs : List ℕ) → Each1 (λ d. d < 16) xs → map f xs ≡ map g xs
same_map_below f g same [] small = refl
same_map_below f g same (x ∷ xs) small = ap₂ (λ y ys. y ∷ ys) (same x small.0) (same_map_below f g same xs small.1)

-- a choice of two numbers by a test of each lane
pub chosen : (test : ℕ → Bool) (n a b : ℕ) (xs : List ℕ) → length xs ≡ n
    → sel_l (map test xs) (replicate n a) (replicate n b) ≡ map (λ x. cond (test x) a b) xs
chosen test n a b [] long = refl
chosen test zero a b (x ∷ xs) long = absurd (omega (arith, long))
chosen test (suc n) a b (x ∷ xs) long = ap (λ ys. cond (test x) a b ∷ ys) (chosen test n a b xs (omega (arith, long)))

-- lanes beside what was computed of each
pub beside : (f : ℕ → ℕ → ℕ) (g : ℕ → ℕ) (xs : List ℕ) → zip2 f xs (map g xs) ≡ map (λ x. f x (g x)) xs
beside f g [] = refl
beside f g (x ∷ xs) = ap (λ ys. f x (g x) ∷ ys) (beside f g xs)

-- what is added to a number below 16 makes it its digit
abbrev pub distance : ℕ → ℕ
distance d = cond (ltb d 10) 48 87

digit_is : (d : ℕ) → d < 16 → (d + distance d) % 2 ^ bits w8 ≡ slice_index lower_digits d
digit_is d small = elim (cases_lt d 10) [
  | inl low ↦ grind (arith, nat_tests, low) ∙ sym (lower_at 16 d refl small)
  | inr high ↦ grind (arith, nat_tests, high) ∙ sym (lower_at 16 d refl small)
]

-- the digits of lanes below 16
pub digits_are : (v : List ℕ) → length v ≡ 16 → Each1 (λ d. d < 16) v
    → zip2 (λ a b. (a + b) % 2 ^ bits w8) v (sel_l (map (top 7) (zip2 (λ a b. cond (ltb a b) (2 ^ bits w8 - 1) 0) v (replicate 16 10)))
    (replicate 16 48) (replicate 16 87)) ≡ map (slice_index lower_digits) v
digits_are v long small =
    let add : ℕ → ℕ → ℕ = λ a b. (a + b) % 2 ^ bits w8 in
    let tests = tops_compared w8 ltb v (replicate 16 10) ∙ zip2_splat ltb v 16 10 long in
    ap (λ ms. zip2 add v (sel_l ms (replicate 16 48) (replicate 16 87))) tests
    ∙ ap (zip2 add v) (chosen (λ d. ltb d 10) 16 48 87 v long)
    ∙ beside add distance v
    ∙ same_map_below (λ d. add d (distance d)) (slice_index lower_digits) digit_is v small

-- the halves of bytes are below 16
pub uppers_below : (v : List ℕ) → Each1 (Fits w8) v → Each1 (λ d. d < 16) (map (λ b. b / 16) v)
uppers_below [] small = tt
uppers_below (b ∷ v) small = (omega (arith, small.0.fits), uppers_below v small.1)

pub lowers_below : (v : List ℕ) → Each1 (λ d. d < 16) (map (λ b. b % 16) v)
lowers_below [] = tt
lowers_below (b ∷ v) = (omega arith, lowers_below v)

-- the digits of upper and of lower halves, in turns: those of the first eight bytes, and those of the last
abbrev pub first_turns : List ℕ → List ℕ
first_turns ds = pick_l 0 ds (0 ∷ 16 ∷ 1 ∷ 17 ∷ 2 ∷ 18 ∷ 3 ∷ 19 ∷ 4 ∷ 20 ∷ 5 ∷ 21 ∷ 6 ∷ 22 ∷ 7 ∷ 23 ∷ [])

abbrev pub last_turns : List ℕ → List ℕ
last_turns ds = pick_l 0 ds (8 ∷ 24 ∷ 9 ∷ 25 ∷ 10 ∷ 26 ∷ 11 ∷ 27 ∷ 12 ∷ 28 ∷ 13 ∷ 29 ∷ 14 ∷ 30 ∷ 15 ∷ 31 ∷ [])

abbrev uppers : List ℕ → List ℕ
uppers v = map (slice_index lower_digits) (map (λ b. b / 16) v)

abbrev lowers : List ℕ → List ℕ
lowers v = map (slice_index lower_digits) (map (λ b. b % 16) v)

-- so the digits of 16 bytes are spelled
in_turns : (v : List ℕ) → length v ≡ 16 → encode_lower v ≡ first_turns (uppers v ++ lowers v) ++ last_turns (uppers v ++ lowers v)
unfolding encode_with
in_turns v long =
    subst (λ u. encode_lower u ≡ first_turns (uppers u ++ lowers u) ++ last_turns (uppers u ++ lowers u)) (pick_l_whole 0 v 16 long) refl

-- and stand behind what stood there
pub turns_stand : (v hs ls out : List ℕ) (to : ℕ) → length v ≡ 16 → hs ≡ uppers v → ls ≡ lowers v → to + 32 ≤ length out
    → take (to + 32) (put_chunk (to + 16) (put_chunk to out (first_turns (hs ++ ls))) (last_turns (hs ++ ls))) ≡ take to out ++ encode_lower v
turns_stand v hs ls out to long hs_are ls_are room =
    let first : List ℕ = first_turns (hs ++ ls) in
    let last : List ℕ = last_turns (hs ++ ls) in
    let both : first ++ last ≡ encode_lower v =
    ap₂ (λ xs ys. first_turns (xs ++ ys) ++ last_turns (xs ++ ys)) hs_are ls_are ∙ sym (in_turns v long) in
    take_more_put_chunk (to + 16) (put_chunk to out first) last (to + 32) (omega arith) (omega (arith, length-put_chunk to out first, room))
    ∙ ap (λ xs. xs ++ last) (take_more_put_chunk to out first (to + 16) (omega arith) (omega (arith, room)))
    ∙ append_assoc (take to out) first last ∙ ap (λ xs. take to out ++ xs) both
