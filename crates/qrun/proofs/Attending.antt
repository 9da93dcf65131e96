-- Workers that are ready, by their places.
use Rattle.std.proofs.Common.{◌≡◌, ◌+◌, ◌<◌, List, [], ◌∷◌, ◌++◌, length, map, slice_index_or, below_more, refl, sym, ap, ◌∙◌, append-nil, append_assoc, length-append, arith}
use Rattle.std.proofs.lemmas.List.{get_or_append_left, get_or_at, get_or_push, map-append, nil_from_length}
use Rattle.qrun.specs.Crews.{AreNumbered}
use Rattle.qrun_worker.specs.Work.{Prepared}

-- the clients of workers
abbrev pub clients_in : {C : Type 0} → List (Prepared C) → List C
clients_in {C} all = map (λ (a : Prepared C). a.client) all

-- one worker more
pub numbered_more : {C : Type 0} (all : List (Prepared C)) (a : Prepared C) → AreNumbered all → a.worker ≡ length all + 1
    → AreNumbered (all ++ a ∷ [])
numbered_more {C} all a are is k d less =
    below_more (λ i. (slice_index_or (all ++ a ∷ []) i d).worker ≡ i + 1) (length all)
    (λ i low. ap (λ (x : Prepared C). x.worker) (get_or_append_left all (a ∷ []) d i low) ∙ are i d low)
    (ap (λ (x : Prepared C). x.worker) (get_or_push all a d (length all) refl) ∙ is)
    k (omega (arith, less, length-append all (a ∷ [])))

pub clients_more : {C : Type 0} (all : List (Prepared C)) (a : Prepared C) (client : C) (left clients : List C) → a.client ≡ client
    → clients_in all ++ client ∷ left ≡ clients → clients_in (all ++ a ∷ []) ++ left ≡ clients
clients_more {C} all a client left clients is parts =
    ap (λ xs. xs ++ left) (map-append (λ (x : Prepared C). x.client) all (a ∷ []))
    ∙ append_assoc (clients_in all) (a.client ∷ []) left ∙ ap (λ x. clients_in all ++ x ∷ left) is ∙ parts

-- no client is left
pub clients_all : {C : Type 0} (all : List (Prepared C)) (left clients : List C) → length left ≡ 0 → clients_in all ++ left ≡ clients
    → clients_in all ≡ clients
clients_all all left clients none parts =
    sym (append-nil (clients_in all)) ∙ ap (λ xs. clients_in all ++ xs) (sym (nil_from_length left none)) ∙ parts

-- the next of them stands at its place
pub at_place : {X : Type 0} (all before rest : List X) (x d : X) → before ++ x ∷ rest ≡ all → slice_index_or all (length before) d ≡ x
at_place all before rest x d parts =
    ap (λ xs. slice_index_or xs (length before) d) (sym parts) ∙ get_or_at before x rest d (length before) refl

pub place_low : {X : Type 0} (all before rest : List X) (x : X) → before ++ x ∷ rest ≡ all → length before < length all
place_low all before rest x parts = omega (arith, ap length parts, length-append before (x ∷ rest))

-- and has the next number
pub number_is : {C : Type 0} (all before rest : List (Prepared C)) (a : Prepared C) → before ++ a ∷ rest ≡ all → AreNumbered all
    → a.worker ≡ length before + 1
number_is {C} all before rest a parts are =
    ap (λ (x : Prepared C). x.worker) (sym (at_place all before rest a a parts)) ∙ are (length before) a (place_low all before rest a parts)
