-- Names listed one after another, beside a text of their bytes.
use Rattle.std.proofs.Common.{◌≡◌, ℕ, ◌+◌, ◌<◌, ◌≤◌, ◌^◌, List, [], ◌∷◌, ◌++◌, add-zero, ap, append-nil, append_assoc, arith, drop, flat_map, get_or, length, map, refl, sym, take, zero-add, ◌∙◌}
use Rattle.std.proofs.Math.Nat.{add_assoc}
use Rattle.std.proofs.Math.Seq.{drop-append_seam, take-append_seam}
use Rattle.std.proofs.lemmas.List.{length-append, take-append-drop, take_more}
use Rattle.std.proofs.lemmas.List.Folds.{length-flat_map-take}
use Rattle.std.proofs.lemmas.Grind.{flat_map-append}
use Rattle.qstore_tree.specs.declared.name.Name.{Name}
use Rattle.qstore_tree.specs.Listed.{name_entry}
use Rattle.qsession.specs.declared.names.ListedName.{ListedName}
use Rattle.qsession.specs.Names.{bytes_of, name_in, row_at}

-- the rows of names whose bytes begin at a place
abbrev pub rows_at : ℕ → List Name → List ListedName
rows_at at [] = []
rows_at at (n ∷ ns) = row_at at n ∷ rows_at (at + length (bytes_of n)) ns

-- one name more
pub rows_at-snoc : (at : ℕ) (ns : List Name) (n : Name)
    → rows_at at (ns ++ n ∷ []) ≡ rows_at at ns ++ row_at (at + length (flat_map bytes_of ns)) n ∷ []
rows_at-snoc at [] n = ap (λ k. row_at k n ∷ []) (sym (add-zero at))
rows_at-snoc at (m ∷ ns) n =
    ap (λ l. row_at at m ∷ l) (rows_at-snoc (at + length (bytes_of m)) ns n
    ∙ ap (λ k. rows_at (at + length (bytes_of m)) ns ++ row_at k n ∷ [])
    (add_assoc at (length (bytes_of m)) (length (flat_map bytes_of ns))
    ∙ ap (λ k. at + k) (sym (length-append (bytes_of m) (flat_map bytes_of ns)))))

-- where the bytes of a name stand behind others
shape : (before bytes after rest : List ℕ) → before ++ ((bytes ++ after) ++ rest) ≡ (before ++ bytes) ++ (after ++ rest)
shape before bytes after rest =
    ap (λ l. before ++ l) (append_assoc bytes after rest) ∙ sym (append_assoc before bytes (after ++ rest))

read_at : (before bytes after rest : List ℕ) → take (length bytes) (drop (length before) (before ++ ((bytes ++ after) ++ rest))) ≡ bytes
read_at before bytes after rest =
    ap (take (length bytes)) (drop-append_seam before ((bytes ++ after) ++ rest) ∙ append_assoc bytes after rest)
    ∙ take-append_seam bytes (after ++ rest)

named-from : (before : List ℕ) (ns : List Name) (rest : List ℕ)
    → map (name_in (before ++ (flat_map bytes_of ns ++ rest))) (rows_at (length before) ns) ≡ map name_entry ns
named-from before [] rest = refl
named-from before (n ∷ ns) rest =
    let bytes = bytes_of n in
    let after = flat_map bytes_of ns in
    let first : name_in (before ++ ((bytes ++ after) ++ rest)) (row_at (length before) n) ≡ name_entry n =
    ap (λ (b : List ℕ). ((n.dir, b), n.ino)) (read_at before bytes after rest) in
    let others : map (name_in (before ++ ((bytes ++ after) ++ rest))) (rows_at (length before + length bytes) ns) ≡ map name_entry ns =
    (λ i. map (name_in (shape before bytes after rest i)) (rows_at (sym (length-append before bytes) i) ns))
    ∙ named-from (before ++ bytes) ns rest in
    λ i. first i ∷ others i

-- the rows name what they were made of, where the text begins with the bytes
pub rows-named : (text : List ℕ) (ns : List Name) (k : ℕ) → take k text ≡ flat_map bytes_of ns
    → map (name_in text) (rows_at 0 ns) ≡ map name_entry ns
rows-named text ns k begins =
    ap (λ (t : List ℕ). map (name_in t) (rows_at 0 ns)) (sym (take-append-drop k text) ∙ ap (λ l. l ++ drop k text) begins)
    ∙ named-from [] ns (drop k text)

-- the first names stand in the list, and their bytes in the text up to a place
pub record AreListed (names : List Name) (i at : ℕ) (list : List ListedName) (text : List ℕ) : Type 0 where
  pub place : at ≡ length (flat_map bytes_of (take i names))
  pub bytes : take at text ≡ flat_map bytes_of (take i names)
  pub rows : take i list ≡ rows_at 0 (take i names)

-- so does one more, when its row and its bytes are put behind them
pub listed-step : (names : List Name) (i at next : ℕ) (list longer : List ListedName) (text newer : List ℕ) (d : Name)
    → i < length names → AreListed names i at list text
    → next ≡ at + length (bytes_of (get_or names i d)) → take next newer ≡ take at text ++ bytes_of (get_or names i d)
    → take (i + 1) longer ≡ take i list ++ row_at at (get_or names i d) ∷ [] → AreListed names (i + 1) next longer newer
listed-step names i at next list longer text newer d within so_far further put set =
    let first = take i names in
    let n = get_or names i d in
    let more : take (i + 1) names ≡ first ++ n ∷ [] = take_more names i d within in
    let bytes_more : flat_map bytes_of (take (i + 1) names) ≡ flat_map bytes_of first ++ bytes_of n =
    ap (flat_map bytes_of) more ∙ flat_map-append bytes_of first (n ∷ []) ∙ ap (λ b. flat_map bytes_of first ++ b) (append-nil (bytes_of n)) in
    let place : at ≡ 0 + length (flat_map bytes_of first) = so_far.place ∙ sym (zero-add (length (flat_map bytes_of first))) in
    record {
      place =
          further ∙ ap (λ k. k + length (bytes_of n)) so_far.place ∙ sym (length-append (flat_map bytes_of first) (bytes_of n))
          ∙ ap length (sym bytes_more);
      bytes = put ∙ ap (λ b. b ++ bytes_of n) so_far.bytes ∙ sym bytes_more;
      rows = set ∙ (λ j. so_far.rows j ++ row_at (place j) n ∷ []) ∙ sym (rows_at-snoc 0 first n) ∙ ap (rows_at 0) (sym more);
    }

-- none stands there at first
pub none-listed : (names : List Name) (list : List ListedName) (text : List ℕ) → AreListed names 0 0 list text
none-listed names list text = record { place = refl; bytes = refl; rows = refl }

-- when all do, the list names them
pub all-listed : (names : List Name) (i at : ℕ) (list : List ListedName) (text : List ℕ) → take i names ≡ names → AreListed names i at list text
    → map (name_in text) (take i list) ≡ map name_entry names
all-listed names i at list text all listed =
    ap (map (name_in text)) (listed.rows ∙ ap (rows_at 0) all) ∙ rows-named text names at (listed.bytes ∙ ap (flat_map bytes_of) all)

-- the next name's bytes have room where all do
pub room-listed : (names : List Name) (i at : ℕ) (list : List ListedName) (text : List ℕ) (d : Name) → i < length names
    → AreListed names i at list text → length (flat_map bytes_of names) ≤ length text → at + length (bytes_of (get_or names i d)) ≤ length text
room-listed names i at list text d within listed fits =
    let most = length-flat_map-take bytes_of names i d within in
    omega (arith, most, listed.place, fits)

-- where one name more passes what a number holds, so do all
pub too_many : (names : List Name) (i len : ℕ) (d : Name) → i < length names → len ≡ length (flat_map bytes_of (take i names))
    → (len + length (bytes_of (get_or names i d)) < 2 ^ 64 → ⊥) → 2 ^ 64 ≤ length (flat_map bytes_of names)
too_many names i len d within is past =
    let most = length-flat_map-take bytes_of names i d within in
    omega (arith, most, is, past)
