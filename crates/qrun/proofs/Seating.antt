-- Seats by their places.
use Rattle.std.proofs.Common.{◌≡◌, ℕ, zero, suc, ◌+◌, ◌-◌, ◌<◌, add-one, take, List, [], ◌∷◌, ◌++◌, length, slice_index_or, below_more, refl, sym, ap, ◌∙◌, length-append, arith}
use Rattle.std.proofs.Math.Seq.{take-append_seam}
use Rattle.std.proofs.lemmas.List.{get_or_append_left, get_or_at, get_or_push}
use Rattle.qshare.specs.Seats.{Seated, new_seat, seats_of}

pub seats_many : (n : ℕ) → length (seats_of n) ≡ n
seats_many zero = refl
seats_many (suc n) = omega (arith, length-append (seats_of n) (new_seat (n + 1) ∷ []), seats_many n)

-- the worker at this place has the next number
seat_is : (n k : ℕ) (d : Seated) → k < n → slice_index_or (seats_of n) k d ≡ new_seat (k + 1)
seat_is zero k d less = absurd (omega (arith, less))
seat_is (suc n) k d less =
    let many : length (seats_of n) ≡ n = seats_many n in
    below_more (λ i. slice_index_or (seats_of n ++ new_seat (n + 1) ∷ []) i d ≡ new_seat (i + 1)) n
    (λ i low. get_or_append_left (seats_of n) (new_seat (n + 1) ∷ []) d i (omega (arith, low, many)) ∙ seat_is n i d low)
    (get_or_push (seats_of n) (new_seat (n + 1)) d n many) k (omega (arith, less))

-- the seat after these
pub seat_next : (n : ℕ) (before rest : List Seated) (seat : Seated) → before ++ seat ∷ rest ≡ seats_of n
    → (seat ≡ new_seat (length before + 1)) × (length before < n)
seat_next n before rest seat parts =
    let long : length (before ++ seat ∷ rest) ≡ length before + suc (length rest) = length-append before (seat ∷ rest) in
    let many : length (before ++ seat ∷ rest) ≡ n = ap length parts ∙ seats_many n in
    let low : length before < n = omega (arith, long, many) in
    let here : slice_index_or (before ++ seat ∷ rest) (length before) seat ≡ seat = get_or_at before seat rest seat (length before) refl in
    let there : slice_index_or (before ++ seat ∷ rest) (length before) seat ≡ new_seat (length before + 1) =
    ap (λ xs. slice_index_or xs (length before) seat) parts ∙ seat_is n (length before) seat low in
    (sym here ∙ there, low)

-- the last seat, and those before it
pub last_seat : (n len : ℕ) (all : List Seated) (d : Seated) → all ≡ seats_of (n + 1) → len ≡ length all
    → (take (len - 1) all ≡ seats_of n) × (slice_index_or all (len - 1) d ≡ new_seat (n + 1))
last_seat n len all d is many =
    let whole : all ≡ seats_of (suc n) = is ∙ ap seats_of (add-one n) in
    let at : len - 1 ≡ n = omega (arith, many, ap length is, seats_many (n + 1)) in
    let before : take n (seats_of n ++ new_seat (n + 1) ∷ []) ≡ seats_of n =
    ap (λ k. take k (seats_of n ++ new_seat (n + 1) ∷ [])) (sym (seats_many n)) ∙ take-append_seam (seats_of n) (new_seat (n + 1) ∷ []) in (
      (λ i. take (at i) (whole i)) ∙ before,
      (λ i. slice_index_or (whole i) (at i) d) ∙ seat_is (suc n) n d (omega arith),
    )

-- no seat is left
pub seats_ended : (n : ℕ) (before rest : List Seated) → before ++ rest ≡ seats_of n → length rest ≡ 0 → length before ≡ n
seats_ended n before rest parts none = omega (arith, length-append before rest, ap length parts, seats_many n, none)
