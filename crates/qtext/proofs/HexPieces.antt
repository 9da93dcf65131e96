-- The digits of bytes that are written in pieces.
use Rattle.std.proofs.Common.{◌≡◌, ℕ, ◌+◌, ◌*◌, ◌/◌, ◌%◌, List, [], ◌∷◌, ◌++◌, take, drop, slice_index, refl, sym, ap, ◌∙◌, append_assoc}
use Rattle.std.proofs.lemmas.List.{take-append-drop}
use Rattle.std.proofs.lemmas.Simd.{chunk-drop}
use lib.Lanes.{chunk}
use Rattle.hex.specs.Hex.{encode_lower, encode_with, lower_digits}

-- the digits of two lists of bytes
pub digits_append : (t xs ys : List ℕ) → encode_with t (xs ++ ys) ≡ encode_with t xs ++ encode_with t ys
unfolding encode_with
digits_append t [] ys = refl
digits_append t (b ∷ xs) ys =
    ap (λ (l : List ℕ). slice_index t (b / 16) ∷ slice_index t (b % 16) ∷ l) (digits_append t xs ys)

-- the digits of the first bytes, and those of the rest
cut : (n : ℕ) (bytes : List ℕ) → encode_lower bytes ≡ encode_lower (take n bytes) ++ encode_lower (drop n bytes)
cut n bytes =
    sym (ap encode_lower (take-append-drop n bytes)) ∙ digits_append lower_digits (take n bytes) (drop n bytes)

-- what stands before the digits goes out with those of the first bytes
pub first_piece : (n : ℕ) (before bytes : List ℕ)
    → before ++ encode_lower bytes ≡ (before ++ encode_lower (take n bytes)) ++ encode_lower (drop n bytes)
first_piece n before bytes = rw (cut n bytes) (sym (append_assoc before (encode_lower (take n bytes)) (encode_lower (drop n bytes))))

-- where the digits of the first bytes stand, and those of more after them, they are those of the first bytes and more
pub digits_on : (bytes out longer : List ℕ) (at more : ℕ)
    → take (2 * at) out ++ encode_lower (drop at bytes) ≡ encode_lower bytes
    → take (2 * (at + more)) longer ≡ take (2 * at) out ++ encode_lower (chunk at more bytes)
    → take (2 * (at + more)) longer ++ encode_lower (drop (at + more) bytes) ≡ encode_lower bytes
digits_on bytes out longer at more so_far next =
    let front : List ℕ = take (2 * at) out in
    let some : List ℕ = encode_lower (chunk at more bytes) in
    let rest : List ℕ = encode_lower (drop (at + more) bytes) in
    let parts : encode_lower (drop at bytes) ≡ some ++ rest =
    ap encode_lower (chunk-drop at more bytes) ∙ digits_append lower_digits (chunk at more bytes) (drop (at + more) bytes) in
    ap (λ xs. xs ++ rest) next ∙ append_assoc front some rest ∙ ap (λ xs. front ++ xs) (sym parts) ∙ so_far
