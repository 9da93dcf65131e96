-- Fields of records of CSV, one after the other.
use Rattle.std.proofs.Common.{◌≡◌, ◌==◌, ◌+◌, ◌<◌, ◌≤◌, ◌∙◌, ℕ, Bool, true, false, add-one, ap, append_assoc, codes, drop-cons, drop, get_or, length, List, [], ◌∷◌, ◌++◌, map, refl, sym, arith}
use Rattle.std.proofs.lemmas.List.{drop_all}
use Rattle.std.specs.Borrow.{Bor}
use Rattle.std.specs.List.{flat_map}
use Rattle.csv.specs.Writing.{default_writer, escaped, field_text, fields_text, is_blank, row_text}
use Rattle.qtext_rows.specs.Csv.{doubled_byte, next_field}

-- what stands for a byte, and then what stands for the others
escaped-cons : (b : ℕ) (rest : List ℕ) → escaped default_writer (b ∷ rest) ≡ doubled_byte b ++ escaped default_writer rest
unfolding escaped
escaped-cons b rest = go (b == 34) refl
  where
    go : (is : Bool) → (b == 34) ≡ is → escaped default_writer (b ∷ rest) ≡ doubled_byte b ++ escaped default_writer rest
    go true e = rw e refl
    go false e = rw e refl

pub next_byte : (field : List ℕ) (i b d : ℕ) → b ≡ get_or field i d → i < length field
    → escaped default_writer (drop i field) ≡ doubled_byte b ++ escaped default_writer (drop (i + 1) field)
next_byte field i b d is lt =
    let cut : drop i field ≡ b ∷ drop (i + 1) field = rw (is, add-one) (drop-cons field i d lt) in
    ap (escaped default_writer) cut ∙ escaped-cons b (drop (i + 1) field)

pub no_byte : (field : List ℕ) (i : ℕ) → length field ≤ i → escaped default_writer (drop i field) ≡ []
unfolding escaped
no_byte field i le = rw (drop_all i field le) refl

-- the fields behind the first
behind : (fields : List (Bor (List ℕ))) → flat_map (λ f. next_field f.now) fields ≡ fields_text default_writer (map (λ f. f.now) fields)
unfolding fields_text
behind [] = refl
behind (f ∷ fs) = rw (behind fs) refl

-- a record of at least two fields
pub row_parts : (first : List ℕ) (fields : List (Bor (List ℕ))) → 0 < length fields
    → field_text default_writer first ++ (flat_map (λ f. next_field f.now) fields ++ codes "\n")
    ≡ row_text default_writer (first ∷ map (λ f. f.now) fields)
unfolding is_blank
row_parts first [] some = absurd (omega arith)
row_parts first (f ∷ fs) some =
    ap (λ (rest : List ℕ). field_text default_writer first ++ (rest ++ codes "\n")) (behind (f ∷ fs))
    ∙ sym (append_assoc (field_text default_writer first) (fields_text default_writer (map (λ g. g.now) (f ∷ fs))) (codes "\n"))
