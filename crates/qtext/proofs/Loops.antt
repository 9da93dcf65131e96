-- Reading one after the other, as a loop does.
use Rattle.std.proofs.Common.{◌≡◌, ℕ, ◌<◌, ◌≤◌, ◌+◌, List, [], ◌∷◌, ◌++◌, length, get_or, drop, map, Result, Ok, Err, refl, sym, ap, ◌∙◌, append_assoc, add-one, drop-cons}
use Rattle.std.proofs.lemmas.List.{append-nil, drop_all}
use Rattle.qtext.specs.declared.text_fault.TextKind.{TextKind}
use Rattle.qtext.specs.declared.read_fault.ReadFault.{ReadFault}
use Rattle.qtext.specs.declared.read_fault.ReadFault.TheVariants as faults
use Rattle.qtext.specs.Reading.{◌>>=◌, each_of}
use Rattle.qtext.specs.Gives.{Fails}

-- what was read before, and what is still read
abbrev pub with_front : {A E : Type 0} → List A → Result (List A) E → Result (List A) E
with_front front read = read >>= λ xs. Ok (front ++ xs)

-- a value read joins those read before
regroup : {A E : Type 0} (front : List A) (y : A) (read : Result (List A) E)
    → with_front front (read >>= λ ys. Ok (y ∷ ys)) ≡ with_front (front ++ y ∷ []) read
regroup {A} {E} front y (Ok ys) =
    let okay : List A → Result (List A) E = λ l. Ok l in ap okay (sym (append_assoc front (y ∷ []) ys))
regroup front y (Err e) = refl

-- the reading goes on after a value that could be read
pub goes_on : {A B E : Type 0} (read : A → Result B E) (front : List B) (x : A) (xs rest : List A) (y : B)
    (total : Result (List B) E) → read x ≡ Ok y → rest ≡ x ∷ xs → with_front front (each_of read rest) ≡ total
    → with_front (front ++ y ∷ []) (each_of read xs) ≡ total
unfolding each_of
goes_on read front x xs rest y total h cut so_far =
    let one : with_front front (each_of read (x ∷ xs)) ≡ with_front (front ++ y ∷ []) (each_of read xs) =
    rw h (regroup front y (each_of read xs)) in
    sym one ∙ (rw cut at so_far)

-- the reading ends at a value that could not be read
pub ends : {A B E : Type 0} (read : A → Result B E) (front : List B) (x : A) (xs rest : List A) (e : E)
    (total : Result (List B) E) → read x ≡ Err e → rest ≡ x ∷ xs → with_front front (each_of read rest) ≡ total
    → total ≡ Err e
unfolding each_of
ends {A} {B} {E} read front x xs rest e total h cut so_far =
    let one : with_front front (each_of read (x ∷ xs)) ≡ Err e = rw h refl in
    sym (rw cut at so_far) ∙ one

-- the reading of a script's parts ends at a fault, or out of memory
pub ends_at : {A B : Type 0} (read : A → Result B TextKind) (front : List B) (x : A) (xs rest : List A) (e : ReadFault)
    (total : Result (List B) TextKind) → Fails e (read x) → rest ≡ x ∷ xs → with_front front (each_of read rest) ≡ total
    → Fails e total
ends_at read front x xs rest faults.Memory total h cut so_far = tt
ends_at read front x xs rest (faults.Fault f) total h cut so_far = ends read front x xs rest f total h cut so_far

-- nothing is left to read
pub is_done : {A B E : Type 0} (read : A → Result B E) (front : List B) (rest : List A) (total : Result (List B) E)
    → rest ≡ [] → with_front front (each_of read rest) ≡ total → total ≡ Ok front
unfolding each_of
is_done {A} {B} {E} read front rest total cut so_far =
    let okay : List B → Result (List B) E = λ l. Ok l in sym (rw cut at so_far) ∙ ap okay (append-nil front)

-- the rest from the index of a value on, seen by a view
pub rest_at : {A V : Type 0} (view : A → V) (xs : List A) (i : ℕ) (x : A) → i < length xs → x ≡ get_or xs i x
    → map view (drop i xs) ≡ view x ∷ map view (drop (i + 1) xs)
rest_at {A} {V} view xs i x lt is =
    let cut : drop i xs ≡ get_or xs i x ∷ drop (i + 1) xs = rw add-one (drop-cons xs i x lt) in
    let follow : A → List A = λ y. y ∷ drop (i + 1) xs in
    ap (map view) (cut ∙ ap follow (sym is))

-- nothing is left past the last index
pub rest_past : {A V : Type 0} (view : A → V) (xs : List A) (i : ℕ) → length xs ≤ i → map view (drop i xs) ≡ []
rest_past view xs i le = ap (map view) (drop_all i xs le)
