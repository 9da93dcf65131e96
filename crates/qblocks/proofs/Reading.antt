-- Lemmas on bytes that are read piece by piece.
use Rattle.std.proofs.Common.{◌≡◌, ℕ, ◌+◌, ◌-◌, ◌<◌, ◌≤◌, zero, suc, List, ◌∷◌, ◌++◌, [], length, get_or, take, drop, replicate, map, min, refl, sym, ap, ◌∙◌, arith, append_assoc, append-nil, ap₂, ⊎_elim, length-drop, length-take-le, length-append, take_at}
use Rattle.std.proofs.lemmas.Grind.{same_number_lists}
use Rattle.std.proofs.lemmas.Bool.{cases_lt}
use Rattle.std.proofs.lemmas.List.{get_or_append_left, get_or-append_right, get_or-take, get_or-drop, get_or_past, length-replicate, take_all, drop_all}
use Rattle.std.proofs.lemmas.List.FromFn.{length-map-range_with_len, get_or-map-range_with_len}
use Rattle.std.specs.List.{range_with_len}
use Rattle.qblocks.proofs.Bytes.{zeros}

-- the same bytes under other offsets
pub reads_same : (f g : ℕ → ℕ) (a b n : ℕ) → ((i : ℕ) → i < n → f (a + i) ≡ g (b + i))
    → map f (range_with_len a n) ≡ map g (range_with_len b n)
reads_same f g a b n same =
    same_number_lists (map f (range_with_len a n)) (map g (range_with_len b n))
    (length-map-range_with_len f a n ∙ sym (length-map-range_with_len g b n)) (λ i l.
    let low : i < n = omega (arith, length-map-range_with_len f a n) in
    get_or-map-range_with_len f a n i (a + i) 0 low refl ∙ same i low ∙ sym (get_or-map-range_with_len g b n i (b + i) 0 low refl))

-- a part of a list
pub reads-part : (xs : List ℕ) (a n : ℕ) → a + n ≤ length xs
    → take n (drop a xs) ≡ map (λ i. get_or xs i 0) (range_with_len a n)
reads-part xs a n l =
    let long = length-take-le n (drop a xs) (omega (arith, length-drop a xs)) in
    same_number_lists (take n (drop a xs)) (map (λ i. get_or xs i 0) (range_with_len a n)) (long
    ∙ sym (length-map-range_with_len (λ i. get_or xs i 0) a n)) (λ i h.
    let low : i < n = omega (arith, long) in
    get_or-take n (drop a xs) i 0 low ∙ get_or-drop a xs i 0 ∙ sym (get_or-map-range_with_len (λ i. get_or xs i 0) a n i (a + i) 0 low refl))

-- bytes that are 0
pub reads-zeros : (f : ℕ → ℕ) (a n : ℕ) → ((o : ℕ) → f o ≡ 0) → replicate n 0 ≡ map f (range_with_len a n)
reads-zeros f a n none =
    same_number_lists (replicate n 0) (map f (range_with_len a n)) (length-replicate {A = ℕ} n 0 ∙ sym (length-map-range_with_len f a n)) (λ i h.
    zeros n i ∙ sym (get_or-map-range_with_len f a n i (a + i) 0 (omega (arith, length-replicate {A = ℕ} n 0)) refl ∙ none (a + i)))

-- a list that is made longer by zeros
pub reads-resized : (f : ℕ → ℕ) (old new : List ℕ) (a n was long : ℕ)
    → new ≡ take long old ++ replicate (long - was) 0 → was ≡ length old → long ≡ was + n
    → ((o : ℕ) → f o ≡ 0) → new ≡ old ++ map f (range_with_len a n)
reads-resized f old new a n was long is known ends none =
    let count : long - was ≡ n = omega arith in
    is ∙ ap (λ xs. xs ++ replicate (long - was) 0) (take_all long old (omega arith))
    ∙ ap (λ (x : ℕ). old ++ replicate x 0) count ∙ ap (λ xs. old ++ xs) (reads-zeros f a n none)

-- the bytes of a list up to its end, and zeros for those past it
reads-past : (xs : List ℕ) (at n from to : ℕ) → from ≡ min at (length xs) → to ≡ min (at + n) (length xs)
    → take (to - from) (drop from xs) ++ replicate (n - (to - from)) 0
    ≡ map (λ i. get_or xs i 0) (range_with_len at n)
reads-past xs at n from to start ends =
    let f : ℕ → ℕ = λ i. get_or xs i 0 in
    let part = take (to - from) (drop from xs) in
    let long = length-take-le (to - from) (drop from xs) (omega (arith, length-drop from xs)) in
    let none = length-replicate {A = ℕ} (n - (to - from)) 0 in
    let all = length-append part (replicate (n - (to - from)) 0) in
    same_number_lists (part ++ replicate (n - (to - from)) 0) (map f (range_with_len at n))
    (omega (arith, all, long, none, length-map-range_with_len f at n)) (λ i h.
    let low : i < n = omega (arith, all, long, none) in
    ⊎_elim
    (λ early.
    let byte : from + i ≡ at + i = omega arith in
    get_or_append_left part (replicate (n - (to - from)) 0) 0 i (omega (arith, long))
    ∙ get_or-take (to - from) (drop from xs) i 0 early ∙ get_or-drop from xs i 0 ∙ ap f byte)
    (λ late.
    get_or-append_right part (replicate (n - (to - from)) 0) (to - from) i 0 long late
    ∙ zeros (n - (to - from)) (i - (to - from)) ∙ sym (get_or_past xs (at + i) 0 (omega arith)))
    (cases_lt i (to - from))
    ∙ sym (get_or-map-range_with_len f at n i (at + i) 0 low refl))

-- the same, after what was read before
pub reads-padded : (xs old mid new : List ℕ) (at n from to end was : ℕ) → from ≡ min at (length xs)
    → to ≡ min (at + n) (length xs) → mid ≡ old ++ take (to - from) (drop from xs)
    → new ≡ take end mid ++ replicate (end - was) 0 → was ≡ length mid → end ≡ length old + n
    → new ≡ old ++ map (λ i. get_or xs i 0) (range_with_len at n)
reads-padded xs old mid new at n from to end was start ends part padded known goal =
    let long = length-take-le (to - from) (drop from xs) (omega (arith, length-drop from xs)) in
    let all = ap length part ∙ length-append old (take (to - from) (drop from xs)) in
    let count : end - was ≡ n - (to - from) = omega (arith, all, long) in
    padded ∙ ap (λ l. l ++ replicate (end - was) 0) (take_all end mid (omega (arith, all, long)) ∙ part)
    ∙ append_assoc old (take (to - from) (drop from xs)) (replicate (end - was) 0)
    ∙ ap (λ l. old ++ l) (ap (λ (x : ℕ). take (to - from) (drop from xs) ++ replicate x 0) count ∙ reads-past xs at n from to start ends)

-- two pieces beside each other
reads-append : (f : ℕ → ℕ) (a n m : ℕ)
    → map f (range_with_len a (n + m)) ≡ map f (range_with_len a n) ++ map f (range_with_len (a + n) m)
reads-append f a zero m =
    let count : 0 + m ≡ m = omega arith in
    let at : a + 0 ≡ a = omega arith in
    ap (λ (x : ℕ). map f (range_with_len a x)) count ∙ ap (λ (x : ℕ). map f (range_with_len x m)) (sym at)
reads-append f a (suc n) m =
    let count : suc n + m ≡ suc (n + m) = omega arith in
    let at : a + 1 + n ≡ a + suc n = omega arith in
    ap (λ (x : ℕ). map f (range_with_len a x)) count
    ∙ ap (λ xs. f a ∷ xs) (reads-append f (a + 1) n m ∙ ap (λ (x : ℕ). map f (range_with_len (a + 1) n) ++ map f (range_with_len x m)) at)

-- a piece more is read
pub reads-next : (f g : ℕ → ℕ) (old now new : List ℕ) (a done b m to : ℕ)
    → now ≡ old ++ map f (range_with_len a done) → new ≡ now ++ map g (range_with_len b m)
    → ((i : ℕ) → i < m → g (b + i) ≡ f (a + done + i)) → to ≡ done + m
    → new ≡ old ++ map f (range_with_len a to)
reads-next f g old now new a done b m to so_far more same ends =
    more ∙ ap (λ xs. xs ++ map g (range_with_len b m)) so_far
    ∙ ap (λ xs. (old ++ map f (range_with_len a done)) ++ xs) (reads_same g f b (a + done) m same)
    ∙ append_assoc old (map f (range_with_len a done)) (map f (range_with_len (a + done) m))
    ∙ ap (λ xs. old ++ xs) (sym (reads-append f a done m) ∙ ap (λ (x : ℕ). map f (range_with_len a x)) (sym ends))

-- how long a list is that grew by bytes that were read
pub length-read : (f : ℕ → ℕ) (old new : List ℕ) (a n : ℕ) → new ≡ old ++ map f (range_with_len a n)
    → length new ≡ length old + n
length-read f old new a n e =
    ap length e ∙ length-append old (map f (range_with_len a n)) ∙ ap (λ (x : ℕ). length old + x) (length-map-range_with_len f a n)

-- a buffer that is filled by the bytes of a list up to its end, and then by zeros
pub fills-past : (xs out part none : List ℕ) (at from to q r : ℕ) → from ≡ min at (length xs)
    → to ≡ min (at + length out) (length xs) → part ≡ take (to - from) (drop from xs) → none ≡ replicate q 0
    → q ≡ length out - (to - from) → length out ≤ r + (to - from)
    → take (to - from) (part ++ drop (to - from) out) ++ (none ++ drop r (drop (to - from) (part ++ drop (to - from) out)))
    ≡ map (λ i. get_or xs i 0) (range_with_len at (length out))
fills-past xs out part none at from to q r start ends is zeros_behind rest whole =
    let k : ℕ = to - from in
    let long : length part ≡ k = ap length is ∙ length-take-le k (drop from xs) (omega (arith, length-drop from xs)) in
    let mid = part ++ drop k out in
    let behind : drop r (drop k mid) ≡ [] = drop_all r (drop k mid)
    (omega (arith, length-drop k mid, length-append part (drop k out), length-drop k out, long)) in
    ap₂ (λ u v. u ++ (none ++ v)) (take_at part (drop k out) k long) behind
    ∙ ap (λ l. part ++ l) (append-nil none)
    ∙ ap₂ (λ u v. u ++ v) is (zeros_behind ∙ ap (λ (x : ℕ). replicate x 0) rest)
    ∙ reads-past xs at (length out) from to start ends

-- a piece more is filled, of a buffer that is filled from its front
pub fills-next : (f g : ℕ → ℕ) (out part back : List ℕ) (a done b m to : ℕ)
    → take done out ≡ map f (range_with_len a done) → done ≤ length out → part ≡ map g (range_with_len b m)
    → ((i : ℕ) → i < m → g (b + i) ≡ f (a + done + i)) → to ≡ done + m
    → take to (take done out ++ (part ++ back)) ≡ map f (range_with_len a to)
fills-next f g out part back a done b m to so_far room more same ends =
    let front = take done out in
    let long = length-take-le done out room in
    let piece = ap length more ∙ length-map-range_with_len g b m in
    let all : length (front ++ part) ≡ to = omega (arith, length-append front part, long, piece) in
    ap (take to) (sym (append_assoc front part back)) ∙ take_at (front ++ part) back to all
    ∙ reads-next f g [] front (front ++ part) a done b m to so_far (ap (λ xs. front ++ xs) more) same ends
