-- Where rows are taken in one after the other: when no line is at fault.
use Rattle.std.proofs.Common.{◌≡◌, ℕ, Bool, true, false, List, [], ◌∷◌, ◌++◌, map, None, refl, sym, ap, subst, ◌∙◌, append_assoc}
use Rattle.std.specs.List.{flat_map}
use Rattle.std.proofs.lemmas.List.{append-nil, map-append}
use Rattle.qplain.specs.declared.owners.Owners.{Owners}
use Rattle.qplain.specs.State.{NameKey}
use Rattle.qplain_image.specs.Parts.{HolderPart, InodePart, Sections, part_rows, section_rows}
use Rattle.qplain_image.specs.Rows.{Row, Bounds, Grace, Record, FileHead, Block, Name}
use Rattle.qtext_image.specs.Faults.{row_fault}

-- behind the rows before them, no line of these rows is at fault
abbrev pub Passes : ℕ → List Row → List Row → Type 0
Passes limit before [] = Unit {0}
Passes limit before (r ∷ rs) = (row_fault limit (before ++ r ∷ []) ≡ None) × Passes limit (before ++ r ∷ []) rs

pub passes-both : (limit : ℕ) (before rs more : List Row) → Passes limit before rs → Passes limit (before ++ rs) more → Passes limit before (rs ++ more)
passes-both limit before [] more own later = subst (λ b. Passes limit b more) (append-nil before) later
passes-both limit before (r ∷ rs) more own later =
    (own.0, passes-both limit (before ++ r ∷ []) rs more own.1 (subst (λ b. Passes limit b more) (sym (append_assoc before (r ∷ []) rs)) later))

-- ---- one row more in a section

pub names-end : (records inodes names more : List Row) → records ++ (inodes ++ (names ++ more)) ≡ (records ++ (inodes ++ names)) ++ more
names-end records inodes names more = sym (append_assoc records (inodes ++ names) more ∙ ap (λ l. records ++ l) (append_assoc inodes names more))

pub inodes-end : (records inodes more : List Row) → records ++ ((inodes ++ more) ++ []) ≡ (records ++ (inodes ++ [])) ++ more
inodes-end records inodes more =
    ap (λ l. records ++ l) (append-nil (inodes ++ more)) ∙ sym (append_assoc records inodes more)
    ∙ ap (λ l. (records ++ l) ++ more) (sym (append-nil inodes))

records-end : (records more : List Row) → (records ++ more) ++ [] ≡ (records ++ []) ++ more
records-end records more = append-nil (records ++ more) ∙ ap (λ l. l ++ more) (sym (append-nil records))

-- the row of a holder
abbrev pub record_row : HolderPart → Row
record_row t = Record t.holder t.blocks t.inodes

-- and of a name
abbrev pub name_row : NameKey × ℕ → Row
name_row e = Name e.0 e.1

-- the sections with these records, inodes and names
abbrev pub sections_with : Sections → List HolderPart → List InodePart → List (NameKey × ℕ) → Sections
sections_with s records inodes names = record s { records = records; inodes = inodes; names = names }

-- what is told of an inode
abbrev pub part_of : Bool → ℕ → Owners → ℕ → List (ℕ × List ℕ) → InodePart
part_of dir number owners size blocks = record { number = number; dir = dir; owners = owners; size = size; blocks = blocks }

pub flat_map-end : (ps : List InodePart) (p : InodePart) → flat_map part_rows (ps ++ p ∷ []) ≡ flat_map part_rows ps ++ part_rows p
flat_map-end [] p = append-nil (part_rows p)
flat_map-end (q ∷ ps) p = ap (λ l. part_rows q ++ l) (flat_map-end ps p) ∙ sym (append_assoc (part_rows q) (flat_map part_rows ps) (part_rows p))

module _ (limit : ℕ) (s : Sections) where
  -- the rows up to some of these records, up to some of these inodes, and up to some of these names
  abbrev pub upto_records : List HolderPart → Sections
  upto_records done = sections_with s done [] []

  abbrev pub upto_inodes : List InodePart → Sections
  upto_inodes done = sections_with s s.records done []

  abbrev pub upto_names : List (NameKey × ℕ) → Sections
  upto_names done = sections_with s s.records s.inodes done

  -- no line is at fault where the rows of each beginning are not
  pub record ArePassed : Type 0 where
    pub bounds : row_fault limit (Bounds s.size s.most s.next ∷ []) ≡ None
    pub records : (done rest : List HolderPart) → done ++ rest ≡ s.records → row_fault limit (section_rows (upto_records done)) ≡ None
    pub inodes : (done rest : List InodePart) (p : InodePart) (blocks more : List (ℕ × List ℕ)) → done ++ p ∷ rest ≡ s.inodes → blocks ++ more ≡ p.blocks
        → row_fault limit (section_rows (upto_inodes (done ++ record p { blocks = blocks } ∷ []))) ≡ None
    pub names : (done rest : List (NameKey × ℕ)) → done ++ rest ≡ s.names → row_fault limit (section_rows (upto_names done)) ≡ None

  module _ (passed : ArePassed) where
    next-row : (before after rest : List Row) (r : Row) → after ≡ before ++ r ∷ [] → row_fault limit after ≡ None → Passes limit after rest
        → Passes limit before (r ∷ rest)
    next-row before after rest r is own later = (subst (λ p. row_fault limit p ≡ None) is own, subst (λ p. Passes limit p rest) is later)

    records-pass : (done rest : List HolderPart) → done ++ rest ≡ s.records → Passes limit (section_rows (upto_records done)) (map record_row rest)
    records-pass done [] all = tt
    records-pass done (t ∷ rest) all =
        let more : (done ++ t ∷ []) ++ rest ≡ s.records = append_assoc done (t ∷ []) rest ∙ all in
        next-row (section_rows (upto_records done)) (section_rows (upto_records (done ++ t ∷ []))) (map record_row rest) (record_row t)
        (ap (λ l. Bounds s.size s.most s.next ∷ Grace s.graces ∷ l)
        (ap (λ l. l ++ []) (map-append record_row done (t ∷ [])) ∙ records-end (map record_row done) (record_row t ∷ [])))
        (passed.records (done ++ t ∷ []) rest more)
        (records-pass (done ++ t ∷ []) rest more)

    names-pass : (done rest : List (NameKey × ℕ)) → done ++ rest ≡ s.names → Passes limit (section_rows (upto_names done)) (map name_row rest)
    names-pass done [] all = tt
    names-pass done (e ∷ rest) all =
        let more : (done ++ e ∷ []) ++ rest ≡ s.names = append_assoc done (e ∷ []) rest ∙ all in
        next-row (section_rows (upto_names done)) (section_rows (upto_names (done ++ e ∷ []))) (map name_row rest) (name_row e)
        (ap (λ l. Bounds s.size s.most s.next ∷ Grace s.graces ∷ l)
        (ap (λ l. map record_row s.records ++ (flat_map part_rows s.inodes ++ l)) (map-append name_row done (e ∷ []))
        ∙ names-end (map record_row s.records) (flat_map part_rows s.inodes) (map name_row done) (name_row e ∷ [])))
        (passed.names (done ++ e ∷ []) rest more)
        (names-pass (done ++ e ∷ []) rest more)

    -- the rows up to an inode more
    inodes-more : (done : List InodePart) (p : InodePart)
        → section_rows (upto_inodes (done ++ p ∷ [])) ≡ section_rows (upto_inodes done) ++ part_rows p
    inodes-more done p =
        ap (λ l. Bounds s.size s.most s.next ∷ Grace s.graces ∷ l)
        (ap (λ l. map record_row s.records ++ (l ++ [])) (flat_map-end done p)
        ∙ inodes-end (map record_row s.records) (flat_map part_rows done) (part_rows p))

    blocks-pass : (done rest : List InodePart) (number : ℕ) (owners : Owners) (size : ℕ) (blocks : List (ℕ × List ℕ))
        → done ++ part_of false number owners size blocks ∷ rest ≡ s.inodes → (first more : List (ℕ × List ℕ)) → first ++ more ≡ blocks
        → Passes limit (section_rows (upto_inodes (done ++ part_of false number owners size first ∷ []))) (map (λ b. Block b) more)
    blocks-pass done rest number owners size blocks all first [] are = tt
    blocks-pass done rest number owners size blocks all first (b ∷ more) are =
        let part : List (ℕ × List ℕ) → InodePart = part_of false number owners size in
        let here : (first ++ b ∷ []) ++ more ≡ blocks = append_assoc first (b ∷ []) more ∙ are in
        let row : part_rows (part (first ++ b ∷ [])) ≡ part_rows (part first) ++ Block b ∷ [] =
        ap (λ l. FileHead number owners size ∷ l) (map-append (λ (x : ℕ × List ℕ). Block x) first (b ∷ [])) in
        next-row (section_rows (upto_inodes (done ++ part first ∷ []))) (section_rows (upto_inodes (done ++ part (first ++ b ∷ []) ∷ [])))
        (map (λ x. Block x) more) (Block b)
        (inodes-more done (part (first ++ b ∷ [])) ∙ ap (λ l. section_rows (upto_inodes done) ++ l) row
        ∙ sym (append_assoc (section_rows (upto_inodes done)) (part_rows (part first)) (Block b ∷ []))
        ∙ ap (λ l. l ++ Block b ∷ []) (sym (inodes-more done (part first))))
        (passed.inodes done rest (part blocks) (first ++ b ∷ []) more all here)
        (blocks-pass done rest number owners size blocks all (first ++ b ∷ []) more here)

    inode-pass : (done rest : List InodePart) (dir : Bool) (number : ℕ) (owners : Owners) (size : ℕ) (blocks : List (ℕ × List ℕ))
        → done ++ part_of dir number owners size blocks ∷ rest ≡ s.inodes
        → Passes limit (section_rows (upto_inodes done)) (part_rows (part_of dir number owners size blocks))
    inode-pass done rest true number owners size blocks all =
        let part : InodePart = part_of true number owners size blocks in
        next-row (section_rows (upto_inodes done)) (section_rows (upto_inodes (done ++ part ∷ []))) [] _ (inodes-more done part)
        (passed.inodes done rest part blocks [] all (append-nil blocks)) tt
    inode-pass done rest false number owners size blocks all =
        let part : InodePart = part_of false number owners size blocks in
        next-row (section_rows (upto_inodes done)) (section_rows (upto_inodes (done ++ part_of false number owners size [] ∷ [])))
        (map (λ b. Block b) blocks) _ (inodes-more done (part_of false number owners size []))
        (passed.inodes done rest part [] blocks all refl)
        (blocks-pass done rest number owners size blocks all [] blocks refl)

    inodes-pass : (done rest : List InodePart) → done ++ rest ≡ s.inodes → Passes limit (section_rows (upto_inodes done)) (flat_map part_rows rest)
    inodes-pass done [] all = tt
    inodes-pass done (p ∷ rest) all =
        passes-both limit (section_rows (upto_inodes done)) (part_rows p) (flat_map part_rows rest)
        (inode-pass done rest p.dir p.number p.owners p.size p.blocks all)
        (subst (λ b. Passes limit b (flat_map part_rows rest)) (inodes-more done p)
        (inodes-pass (done ++ p ∷ []) rest (append_assoc done (p ∷ []) rest ∙ all)))

    pub all-pass : Passes limit [] (section_rows s)
    all-pass =
        let head : List Row = Bounds s.size s.most s.next ∷ Grace s.graces ∷ [] in
        let records : List Row = map record_row s.records in
        let inodes : List Row = flat_map part_rows s.inodes in
        let names : List Row = map name_row s.names in
        let told : section_rows (upto_inodes []) ≡ head ++ records = ap (λ l. Bounds s.size s.most s.next ∷ Grace s.graces ∷ l) (append-nil records) in
        let made : section_rows (upto_names []) ≡ (head ++ records) ++ inodes =
        ap (λ l. Bounds s.size s.most s.next ∷ Grace s.graces ∷ (records ++ l)) (append-nil inodes) ∙ sym (append_assoc head records inodes) in (
          passed.bounds,
          (
            passed.records [] s.records refl,
            passes-both limit head records (inodes ++ names) (records-pass [] s.records refl)
                (passes-both limit (head ++ records) inodes names (subst (λ b. Passes limit b inodes) told (inodes-pass [] s.inodes refl))
                (subst (λ b. Passes limit b names) made (names-pass [] s.names refl))),
          ),
        )
