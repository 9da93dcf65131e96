-- Rows in their sections, with blocks in order, begin those of the state that is made of them, but for uses.
use Rattle.std.proofs.Common.{◌≡◌, ℕ, true, List, [], ◌∷◌, ◌++◌, map, refl, sym, ap, ◌∙◌}
use Rattle.std.specs.List.{flat_map, starts_with, AllByRecursion}
use Rattle.std.specs.Cmp.Lexicographic.{pointwise}
use Rattle.std.specs.Str.{bytes_eq}
use Rattle.std.proofs.lemmas.Bool.{and_parts}
use Rattle.std.proofs.lemmas.List.{map-append}
use Rattle.std.proofs.lemmas.Slice.Eq.{bytes_eq-Decides}
use Rattle.qplain.specs.State.{State}
use Rattle.qplain_image.specs.Blocks.{AreBlocksOf}
use Rattle.qplain_image.specs.Parts.{HolderPart, Sections, part_rows, section_rows}
use Rattle.qplain_image.specs.Rows.{Row, Bounds, Grace, Record, Name, blank, holder_row, made_of, rows_of}
use Rattle.qplain_image.proofs.Returning.{made, parts-back, state_of}
use Rattle.qtext.proofs.Joining.{and_both}
use Rattle.qtext.proofs.StepsFound.{same_word}
use Rattle.qtext_image.specs.Faults.{are_begun, is_same_row, untold}
use Rattle.qtext_image.specs.Spelling.{row_words}

-- ---- words that are the same

words-same : (ws : List (List ℕ)) → pointwise bytes_eq ws ws ≡ true
words-same [] = refl
words-same (w ∷ ws) = and_both (bytes_eq w w) (pointwise bytes_eq ws ws) ((bytes_eq-Decides w w).1 refl) (words-same ws)

pub same-words : (ws vs : List (List ℕ)) → pointwise bytes_eq ws vs ≡ true → ws ≡ vs
same-words [] [] e = refl
same-words [] (v ∷ vs) e = absurd (cc e)
same-words (w ∷ ws) [] e = absurd (cc e)
same-words (w ∷ ws) (v ∷ vs) e =
    let parts = and_parts (bytes_eq w v) (pointwise bytes_eq ws vs) e in
    λ i. same_word w v parts.0 i ∷ same-words ws vs parts.1 i

pub row-same : (r : Row) → is_same_row r r ≡ true
row-same r = words-same (row_words r)

-- rows begin themselves, whatever follows
begins : (rs more : List Row) → starts_with is_same_row (rs ++ more) rs ≡ true
begins [] more = refl
begins (r ∷ rs) more = and_both (is_same_row r r) (starts_with is_same_row (rs ++ more) rs) (row-same r) (begins rs more)

pub begins-itself : (rs : List Row) → starts_with is_same_row rs rs ≡ true
begins-itself [] = refl
begins-itself (r ∷ rs) = and_both (is_same_row r r) (starts_with is_same_row rs rs) (row-same r) (begins-itself rs)

-- ---- sections

records-untold : (S : State) (ts : List HolderPart)
    → map untold (map (holder_row S) (map (λ t. t.holder) ts)) ≡ map untold (map (λ t. Record t.holder t.blocks t.inodes) ts)
records-untold S [] = refl
records-untold S (t ∷ ts) = ap (λ l. Record t.holder 0 0 ∷ l) (records-untold S ts)

-- rows apart from uses, section by section
apart : (one records rest : List Row) → map untold one ≡ map untold records → map untold (one ++ rest) ≡ map untold (records ++ rest)
apart one records rest same = map-append untold one rest ∙ ap (λ l. l ++ map untold rest) same ∙ sym (map-append untold records rest)

pub sections-untold : (limit : ℕ) (s : Sections) → AllByRecursion (λ p. AreBlocksOf p.size 0 p.blocks) s.inodes
    → map untold (rows_of (made_of limit (section_rows s))) ≡ map untold (section_rows s)
sections-untold limit s are =
    let S : State = state_of limit s in
    let records : List Row = map (λ t. Record t.holder t.blocks t.inodes) s.records in
    let names : List Row = map (λ e. Name e.0 e.1) s.names in
    let head : List Row = Bounds s.size s.most s.next ∷ Grace s.graces ∷ [] in
    ap (λ T. map untold (rows_of T)) (made limit s)
    ∙ ap (λ l. map untold (head ++ (map (holder_row S) S.holders ++ (l ++ names)))) (parts-back s.inodes are)
    ∙ ap (λ l. head ++ l) (apart (map (holder_row S) S.holders) records (flat_map part_rows s.inodes ++ names) (records-untold S s.records))

pub sections-in_order : (limit : ℕ) (s : Sections) → AllByRecursion (λ p. AreBlocksOf p.size 0 p.blocks) s.inodes
    → are_begun (section_rows s) (made_of limit (section_rows s)) ≡ true
sections-in_order limit s are =
    ap (λ l. starts_with is_same_row l (map untold (section_rows s))) (sections-untold limit s are) ∙ begins-itself (map untold (section_rows s))

pub bounds-in_order : (limit size most next : ℕ) → are_begun (Bounds size most next ∷ []) (made_of limit (Bounds size most next ∷ [])) ≡ true
bounds-in_order limit size most next = begins (Bounds size most next ∷ []) (Grace (blank limit).graces ∷ [])
