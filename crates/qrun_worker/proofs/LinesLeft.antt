-- The lines of a script that are left, which are kept the other way round.
use Rattle.std.proofs.Common.{◌≡◌, ℕ, suc, ◌+◌, ◌<◌, List, [], ◌∷◌, length, take, drop, get_or, reverse, ap, ◌∙◌, arith}
use Rattle.std.proofs.Math.Seq.{take-suc}
use Rattle.std.proofs.lemmas.List.{reverse-append}

-- all but the next one
pub one_dropped : {X : Type 0} (xs : List X) (k : ℕ) → k < length xs → drop 1 (reverse (take (k + 1) xs)) ≡ reverse (take k xs)
one_dropped [] k less = absurd (omega (arith, less))
one_dropped (x ∷ xs) k less =
    let one : k + 1 ≡ suc k = omega arith in
    ap (λ n. drop 1 (reverse (take n (x ∷ xs)))) one ∙ ap (λ ls. drop 1 (reverse ls)) (take-suc (x ∷ xs) k x less)
    ∙ ap (drop 1) (reverse-append (take k (x ∷ xs)) (get_or (x ∷ xs) k x ∷ []))
