-- Bytes that are the same, looked at in lanes.
use Rattle.std.proofs.Common.{◌≡◌, ℕ, suc, ◌+◌, ◌-◌, ◌*◌, ◌^◌, ◌≤◌, ◌<◌, Bool, true, false, cond, eqb, List, [], ◌∷◌, length, get_or}
use Rattle.std.proofs.Common.{refl, sym, ap, subst, ◌∙◌, inl, inr, arith, ⊎_elim, eq-eqb, ne_eqb}
use Rattle.std.proofs.lemmas.Bool.{cases_eq, cases_lt}
use Rattle.std.proofs.lemmas.List.{ext_get_or}
use Rattle.std.proofs.lemmas.Simd.{length-zip2, mask_l-lt, get_or-chunk}
use lib.Lanes.{chunk, mask_l, zip2}
use native.Mathlib.Nat.{two-pow-succ}

-- lanes whose mask is full are the same
pub full_is_same : (v w : List ℕ) → length v ≡ length w → 2 ^ length v ≤ mask_l (zip2 eqb v w) + 1 → v ≡ w
full_is_same [] [] long full = refl
full_is_same [] (y ∷ w) long full = absurd (omega (arith, long))
full_is_same (x ∷ v) [] long full = absurd (omega (arith, long))
full_is_same (x ∷ v) (y ∷ w) long full =
    let m : ℕ = mask_l (zip2 eqb v w) in
    let rest : length v ≡ length w = omega (arith, long) in
    let full_by : (b : Bool) → eqb x y ≡ b → 2 ^ suc (length v) ≤ cond b 1 0 + 2 * m + 1 =
    λ b is. subst (λ c. 2 ^ suc (length v) ≤ cond c 1 0 + 2 * m + 1) is full in
    elim (cases_eq x y) [
      | inl same ↦
          let some = full_by true (eq-eqb x y same) in
          let others = full_is_same v w rest (omega (arith, some, two-pow-succ (length v))) in
          λ i. same i ∷ others i
      | inr apart ↦
          let none = full_by false (ne_eqb x y apart) in
          absurd (omega (arith, none, mask_l-lt (zip2 eqb v w), ap (λ n. 2 ^ n) (length-zip2 eqb v w rest), two-pow-succ (length v)))
    ]

-- and of lanes that are the same it is full
pub same_is_full : (v : List ℕ) → mask_l (zip2 eqb v v) + 1 ≡ 2 ^ length v
same_is_full [] = refl
same_is_full (x ∷ v) =
    let one : mask_l (zip2 eqb (x ∷ v) (x ∷ v)) ≡ 1 + 2 * mask_l (zip2 eqb v v) =
    ap (λ b. cond b 1 0 + 2 * mask_l (zip2 eqb v v)) (eq-eqb x x refl) in
    omega (arith, one, same_is_full v, two-pow-succ (length v))

-- a byte under lanes that are the same
same_at : (one other : List ℕ) (at n : ℕ) → chunk at n one ≡ chunk at n other → (k : ℕ) → at ≤ k → k < at + n
    → get_or one k 0 ≡ get_or other k 0
same_at one other at n same k from to =
    let back : at + (k - at) ≡ k = omega arith in
    subst (λ j. get_or one j 0 ≡ get_or other j 0) back
    (sym (get_or-chunk at n one (k - at) 0 (omega arith)) ∙ ap (λ v. get_or v (k - at) 0) same
    ∙ get_or-chunk at n other (k - at) 0 (omega arith))

-- of N to 2 N bytes the first N and the last N are all
pub same_from_both : (one other : List ℕ) (len n : ℕ) → length one ≡ len → length other ≡ len → n ≤ len → len ≤ n + n
    → chunk 0 n one ≡ chunk 0 n other → chunk (len - n) n one ≡ chunk (len - n) n other → one ≡ other
same_from_both one other len n long as_long least most front back =
    ext_get_or 0 one other (long ∙ sym as_long) (λ k low.
    ⊎_elim (λ early. same_at one other 0 n front k (omega arith) (omega (arith, early)))
    (λ late. same_at one other (len - n) n back k (omega (arith, late, most)) (omega (arith, low, long, least)))
    (cases_lt k n))
