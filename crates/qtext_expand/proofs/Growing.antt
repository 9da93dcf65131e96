-- Texts that grow item by item, as loops put them together.
use Rattle.std.proofs.Common.{◌≡◌, ℕ, ◌<◌, ◌≤◌, ◌+◌, true, false, ltb, Ok, Err, List, [], ◌∷◌, ◌++◌, length, get_or, map, take, drop, refl, sym, ap, ◌∙◌, append_assoc, add-one, arith, drop-cons}
use Rattle.std.specs.List.{flat_map}
use Rattle.std.proofs.lemmas.Bool.{le-ltb}
use Rattle.std.proofs.lemmas.Bool.Decides.{nat_tests}
use Rattle.qtext.specs.declared.text_fault.TextKind.TheVariants.{TooMany}
use Rattle.std.proofs.lemmas.List.{append-nil, map-append, take_more}
use Rattle.std.proofs.lemmas.List.Concat.{flat_map-append, flat_map-cons}
use Rattle.qplain.specs.declared.principal.Principal.{Principal}
use Rattle.qtext_expand.specs.FriendlyCalls.{piece_call, piece_calls, pieces_in, pieces_of, way_call, way_calls}
use Rattle.qtext_expand.specs.FriendlyWords.{begins, friendly_words, some_word}
use Rattle.qtext_expand.specs.Names.{groups_text, named_text}

-- one more item
pub map_more : {A B : Type 0} (view : A → B) (xs : List A) (i : ℕ) (d : A) → i < length xs
    → map view (take (i + 1) xs) ≡ map view (take i xs) ++ view (get_or xs i d) ∷ []
map_more view xs i d lt = ap (map view) (take_more xs i d lt) ∙ map-append view (take i xs) (get_or xs i d ∷ [])

pub flat_more : {A B : Type 0} (text : B → List ℕ) (view : A → B) (xs : List A) (i : ℕ) (d : A) → i < length xs
    → flat_map text (map view (take (i + 1) xs)) ≡ flat_map text (map view (take i xs)) ++ text (view (get_or xs i d))
flat_more {A} text view xs i d lt =
    let x : A = get_or xs i d in
    ap (flat_map text) (map_more view xs i d lt) ∙ flat_map-append text (map view (take i xs)) (view x ∷ [])
    ∙ ap (λ (l : List ℕ). flat_map text (map view (take i xs)) ++ l) (flat_map-cons text (view x) [] ∙ append-nil (text (view x)))

-- the items from one on
pub rest_from : {A B : Type 0} (view : A → B) (xs : List A) (i : ℕ) (d : A) → i < length xs
    → map view (drop i xs) ≡ view (get_or xs i d) ∷ map view (drop (i + 1) xs)
rest_from view xs i d lt =
    let cut : drop i xs ≡ get_or xs i d ∷ drop (i + 1) xs = rw add-one (drop-cons xs i d lt) in
    ap (map view) cut

-- ---- groups of a caller

pub next_group : (separator : ℕ) (groups : List Principal) (text name : List ℕ) (names rest : List (List ℕ)) (total : List ℕ)
    → rest ≡ name ∷ names → text ++ groups_text separator groups rest ≡ total
    → ((text ++ separator ∷ []) ++ named_text groups name) ++ groups_text separator groups names ≡ total
next_group separator groups text name names rest total cut so_far =
    let named : List ℕ = named_text groups name in
    let others : List ℕ = groups_text separator groups names in
    let one : text ++ groups_text separator groups (name ∷ names) ≡ ((text ++ separator ∷ []) ++ named) ++ others =
    ap (λ (l : List ℕ). text ++ l) (flat_map-cons (λ name. separator ∷ named_text groups name) name names)
    ∙ sym (append_assoc (text ++ separator ∷ []) named others ∙ append_assoc text (separator ∷ []) (named ++ others)) in
    sym one ∙ (rw cut at so_far)

pub no_group : (separator : ℕ) (groups : List Principal) (text : List ℕ) (rest : List (List ℕ)) (total : List ℕ)
    → rest ≡ [] → text ++ groups_text separator groups rest ≡ total → text ≡ total
no_group separator groups text rest total cut so_far = sym (append-nil text) ∙ (rw cut at so_far)

-- ---- words up to a comment

pub next_word : (front : List (List ℕ)) (word : List ℕ) (words rest total : List (List ℕ)) → begins 35 word ≡ false → rest ≡ word ∷ words
    → front ++ friendly_words rest ≡ total → (front ++ some_word word) ++ friendly_words words ≡ total
unfolding friendly_words
next_word front word words rest total none cut so_far =
    let one : front ++ friendly_words (word ∷ words) ≡ (front ++ some_word word) ++ friendly_words words =
    rw none (sym (append_assoc front (some_word word) (friendly_words words))) in
    sym one ∙ (rw cut at so_far)

pub comment : (front : List (List ℕ)) (word : List ℕ) (words rest total : List (List ℕ)) → begins 35 word ≡ true → rest ≡ word ∷ words
    → front ++ friendly_words rest ≡ total → front ≡ total
unfolding friendly_words
comment front word words rest total is cut so_far =
    let one : front ++ friendly_words (word ∷ words) ≡ front = rw is (append-nil front) in
    sym one ∙ (rw cut at so_far)

pub no_word : (front rest total : List (List ℕ)) → rest ≡ [] → front ++ friendly_words rest ≡ total → front ≡ total
unfolding friendly_words
no_word front rest total cut so_far = sym (append-nil front) ∙ (rw cut at so_far)

-- ---- calls by number

pub ways_more : (path : List ℕ) (n : ℕ) → way_calls path (n + 1) ≡ way_calls path n ++ way_call path (n + 1)
unfolding way_calls
ways_more path n = rw add-one refl

pub no_ways : (path : List ℕ) → way_calls path 0 ≡ []
unfolding way_calls
no_ways path = refl

pub pieces_more : (path byte : List ℕ) (off count n : ℕ)
    → piece_calls path byte off count (n + 1) ≡ piece_calls path byte off count n ++ piece_call path byte off count n ∷ []
unfolding piece_calls
pieces_more path byte off count n = rw add-one refl

pub no_pieces : (path byte : List ℕ) (off count : ℕ) → piece_calls path byte off count 0 ≡ []
unfolding piece_calls
no_pieces path byte off count = refl

pub too_many_pieces : (path byte : List ℕ) (off count n : ℕ) → n ≡ pieces_in count → 65536 < n → pieces_of path byte off count ≡ Err TooMany
unfolding pieces_of
too_many_pieces path byte off count n e lt =
    let over : 65536 < pieces_in count = rw (← e) lt in
    let test : ltb 65536 (pieces_in count) ≡ true = grind (arith, nat_tests) in
    rw test refl

pub few_pieces : (path byte : List ℕ) (off count n : ℕ) → n ≡ pieces_in count → n ≤ 65536
    → pieces_of path byte off count ≡ Ok (piece_calls path byte off count n)
unfolding pieces_of
few_pieces path byte off count n e le =
    let under : pieces_in count ≤ 65536 = rw (← e) le in
    let test : ltb 65536 (pieces_in count) ≡ false = le-ltb _ _ under in
    rw (test, e) refl
