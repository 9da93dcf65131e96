-- Rows and names as they stand in what a caller lends, and the numbers that are told of them.
use Rattle.std.proofs.Common.{◌≡◌, ℕ, ◌<◌, ◌≤◌, ◌^◌, ◌-◌, ◌⊎◌, min, List, [], ◌∷◌, ◌++◌, ap, arith, flat_map, length, map, refl, sym, subst, take, ◌∙◌}
use Rattle.std.proofs.lemmas.List.{length-map, take-map}
use Rattle.std.proofs.Math.Nat.{min-eq_left}
use Rattle.qstore_tree.specs.declared.name.Name.{Name}
use Rattle.qsession.specs.Tellings.{IsPut, room_code}
use Rattle.qsession.specs.declared.names.ListedName.{ListedName}
use Rattle.qstore_tree.specs.Listed.{name_entry}
use Rattle.qsession.specs.Names.{AreNamesPut, bytes_in, bytes_of, name_in, names_code}

-- the number of what has room
pub fits : (count room : ℕ) → count ≤ room → room_code count room ≡ 0
fits count room h = grind (arith, h)

-- the rows that structs stand for are put into a list that has room for them
pub rows-put : {A B : Type 0} (row : A → B) (rows : List B) (list : List A) → length rows ≤ length list
    → map row (take (length rows) list) ≡ rows → IsPut rows (map row list) (length rows) 0
rows-put row rows list room front = record {
  number_is = sym (fits (length rows) (length (map row list)) (subst (λ n. length rows ≤ n) (sym (length-map list row)) room));
  len_is = refl;
  front = λ _. take-map row (length rows) list ∙ front;
}

-- the bytes of names that are borrowed are theirs
bytes-map : (ns : List Name) → flat_map (λ name. name.0.1) (map name_entry ns) ≡ flat_map bytes_of ns
bytes-map [] = refl
bytes-map (n ∷ ns) = ap (λ l. bytes_of n ++ l) (bytes-map ns)

pub bytes_in-map : (ns : List Name) → bytes_in (map name_entry ns) ≡ length (flat_map bytes_of ns)
bytes_in-map ns = ap length (bytes-map ns)

-- how many bytes are told, of as many as a number holds
pub len-told : (ns : List Name) (len : ℕ) → len ≡ length (flat_map bytes_of ns) → len < 2 ^ 64 → len ≡ min (bytes_in (map name_entry ns)) (2 ^ 64 - 1)
len-told ns len is small =
    let bytes = bytes_in-map ns in
    is ∙ sym bytes ∙ sym (min-eq_left (omega (arith, bytes, is, small)))

-- names have room in a list, and their bytes in a text
names-fit : (ns : List Name) (rows room : ℕ) → length ns ≤ rows → length (flat_map bytes_of ns) ≤ room
    → names_code (map name_entry ns) rows room ≡ 0
names-fit ns rows room many long =
    let count = length-map ns name_entry in
    let bytes = bytes_in-map ns in
    grind (arith, count, bytes, many, long)

-- or one of the two has too little
names-past : (ns : List Name) (rows room : ℕ) → (rows < length ns) ⊎ (room < length (flat_map bytes_of ns))
    → names_code (map name_entry ns) rows room ≡ 69
names-past ns rows room past =
    let count = length-map ns name_entry in
    let bytes = bytes_in-map ns in
    grind (arith, count, bytes, past)

zero≢69 : (number : ℕ) → number ≡ 0 → number ≡ 69 → ⊥
zero≢69 number zero is = omega (arith, zero, is)

-- so all of them are told
pub names-put : (ns : List Name) (list : List ListedName) (text : List ℕ) (len : ℕ) → length ns ≤ length list → len ≡ length (flat_map bytes_of ns)
    → len ≤ length text → len < 2 ^ 64 → map (name_in text) (take (length ns) list) ≡ map name_entry ns
    → AreNamesPut (map name_entry ns) list text (length ns) len 0
names-put ns list text len many is long small front = record {
  number_is = sym (names-fit ns (length list) (length text) many (omega (arith, is, long)));
  count_is = sym (length-map ns name_entry);
  len_is = len-told ns len is small;
  front = λ _. front;
}

-- or how much room they take
pub names-told : (ns : List Name) (list : List ListedName) (text : List ℕ) (len number : ℕ)
    → (length list < length ns) ⊎ (length text < length (flat_map bytes_of ns)) → len ≡ min (bytes_in (map name_entry ns)) (2 ^ 64 - 1)
    → number ≡ 69 → AreNamesPut (map name_entry ns) list text (length ns) len number
names-told ns list text len number past is room = record {
  number_is = room ∙ sym (names-past ns (length list) (length text) past);
  count_is = sym (length-map ns name_entry);
  len_is = is;
  front = λ zero. absurd (zero≢69 number zero room);
}
