-- The digits of bytes.
use Rattle.std.proofs.Common.{◌-◌, ◌+◌, ◌≡◌, ◌<◌, ◌≤◌, ◌==◌, ℕ, suc, true, false, arith, tests, List, [], ◌∷◌, ◌++◌, length, refl}
use Rattle.std.specs.Prelude.{replicate}
use Rattle.hex.specs.Hex.{encode_lower, encode_with}
use Rattle.qtext.specs.Pieces.{data_text}

-- of equal bytes one after the other
pub one_more : (count i byte : ℕ) → i < count
    → encode_lower (replicate (count - i) byte) ≡ (encode_lower (byte ∷ []) ++ []) ++ encode_lower (replicate (count - (i + 1)) byte)
unfolding encode_with
one_more count i byte lt = let e : count - i ≡ suc (count - (i + 1)) = omega arith in rw e refl

pub none_left : (count i byte : ℕ) → count ≤ i → encode_lower (replicate (count - i) byte) ≡ []
unfolding encode_with
none_left count i byte le = let e : count - i ≡ 0 = omega arith in rw e refl

-- of no byte
pub no_digits : (bytes : List ℕ) → (length bytes == 0) ≡ true → encode_lower bytes ≡ []
unfolding encode_with
no_digits [] none = refl
no_digits (b ∷ bs) none =
    let zero : length (b ∷ bs) ≡ 0 = grind (arith, tests) in
    absurd (omega arith)

-- and of some
pub some_digits : (bytes : List ℕ) → (length bytes == 0) ≡ false → data_text bytes ≡ encode_lower bytes
some_digits [] some = absurd cc
some_digits (b ∷ bs) some = refl
