-- Where one row more stands: sections with one part more, or rows that no state has.
use Rattle.std.proofs.Common.{◌≡◌, ℕ, ◌+◌, suc, Bool, true, false, List, [], ◌∷◌, ◌++◌, length, map, refl, sym, ap, subst, ◌∙◌, append_assoc, arith}
use Rattle.std.specs.List.{flat_map, starts_with, AllByRecursion}
use Rattle.std.proofs.lemmas.List.{append-nil, length-append, length-map}
use Rattle.std.proofs.lemmas.List.Sums.{fold-append}
use Rattle.qrules.specs.declared.kind.Kind.{Kind}
use Rattle.qrules.specs.declared.kind.Kind.TheVariants.{User, Group, Project}
use Rattle.qblocks.specs.File.{File}
use Rattle.qplain.specs.declared.owners.Owners.{Owners}
use Rattle.qplain.specs.State.{Holder, Inode, NameKey, State}
use Rattle.qplain_image.specs.Parts.{HolderPart, InodePart, Sections, part_rows, rows_in, section_rows}
use Rattle.qplain_image.specs.Rows.{rows_by, Row, Bounds, Grace, Record, Name, blank, holder_row, inode_rows, made_of, rows_by, rows_of, with_row}
use Rattle.qplain_image.proofs.Returning.{entry_of, parts-back, state_of}
use Rattle.qtext_image.specs.Faults.{are_begun, is_same_row, untold}
use Rattle.qtext_image.proofs.NextLists.{map-end, starts-behind, starts-longer}
use Rattle.qtext_image.proofs.Ordered.{sections-in_order}
use Rattle.qtext_image.proofs.Parted.{HasBlocks}
use Rattle.qtext_image.proofs.Prefixes.{flat_map-end, inodes-end, name_row, names-end, record_row}

-- the state that one row more makes
pub made-more : (limit : ℕ) (rows : List Row) (r : Row) → made_of limit (rows ++ r ∷ []) ≡ with_row (made_of limit rows) r
made-more limit rows r = fold-append with_row (blank limit) rows (r ∷ [])

-- rows of sections begin those of their state
pub begun-more : (limit : ℕ) (s new : Sections) (r : Row) → section_rows s ++ r ∷ [] ≡ section_rows new → AllByRecursion HasBlocks new.inodes
    → are_begun (section_rows s ++ r ∷ []) (with_row (made_of limit (section_rows s)) r) ≡ true
begun-more limit s new r is blocks =
    ap (are_begun (section_rows s ++ r ∷ [])) (sym (made-more limit (section_rows s) r))
    ∙ subst (λ rows. are_begun rows (made_of limit rows) ≡ true) (sym is) (sections-in_order limit new blocks)

-- ---- sections with one part more

pub record-more : (s : Sections) (t : HolderPart) (inodes : List InodePart) (names : List (NameKey × ℕ)) → inodes ≡ [] → names ≡ []
    → section_rows (record s { inodes = inodes; names = names }) ++ record_row t ∷ []
    ≡ section_rows (record s { records = s.records ++ t ∷ []; inodes = inodes; names = names })
record-more s t [] [] none free =
    ap (λ l. Bounds s.size s.most s.next ∷ Grace s.graces ∷ l)
    (ap (λ l. l ++ record_row t ∷ []) (append-nil (map record_row s.records)) ∙ sym (map-end record_row s.records t)
    ∙ sym (append-nil (map record_row (s.records ++ t ∷ []))))
record-more s t (p ∷ ps) names none free = absurd (cc none)
record-more s t [] (e ∷ es) none free = absurd (cc free)

pub inode-more : (s : Sections) (p : InodePart) (names : List (NameKey × ℕ)) → names ≡ []
    → section_rows (record s { names = names }) ++ part_rows p ≡ section_rows (record s { inodes = s.inodes ++ p ∷ []; names = names })
inode-more s p [] free =
    ap (λ l. Bounds s.size s.most s.next ∷ Grace s.graces ∷ l)
    (sym (ap (λ l. map record_row s.records ++ (l ++ [])) (flat_map-end s.inodes p)
    ∙ inodes-end (map record_row s.records) (flat_map part_rows s.inodes) (part_rows p)))
inode-more s p (e ∷ es) free = absurd (cc free)

pub name-more : (s : Sections) (e : NameKey × ℕ) → section_rows s ++ name_row e ∷ [] ≡ section_rows (record s { names = s.names ++ e ∷ [] })
name-more s e =
    ap (λ l. Bounds s.size s.most s.next ∷ Grace s.graces ∷ l)
    (sym (ap (λ l. map record_row s.records ++ (flat_map part_rows s.inodes ++ l)) (map-end name_row s.names e)
    ∙ names-end (map record_row s.records) (flat_map part_rows s.inodes) (map name_row s.names) (name_row e ∷ [])))

-- ---- rows that no state has

-- behind as many rows
pub begun-behind : (T : State) (rows front back first rest : List Row) → rows_of T ≡ front ++ back → rows ≡ first ++ rest → length front ≡ length first
    → are_begun rows T ≡ true → starts_with is_same_row (map untold back) (map untold rest) ≡ true
begun-behind T rows front back first rest own told same begun =
    starts-behind is_same_row (map untold front) (map untold first) (map untold back) (map untold rest)
    (length-map front untold ∙ same ∙ sym (length-map first untold))
    (sym (λ i. starts_with is_same_row ((ap (map untold) own ∙ map-both front back) i) ((ap (map untold) told ∙ map-both first rest) i)) ∙ begun)
  where
    map-both : (xs ys : List Row) → map untold (xs ++ ys) ≡ map untold xs ++ map untold ys
    map-both [] ys = refl
    map-both (x ∷ xs) ys = ap (λ l. untold x ∷ l) (map-both xs ys)

-- rows are not more than those of the state
pub too-long : (s : Sections) (T : State) (r : Row) → length T.holders ≡ length s.records → flat_map inode_rows T.inodes ≡ flat_map part_rows s.inodes
    → T.names ≡ s.names → are_begun (section_rows s ++ r ∷ []) T ≡ true → ⊥
too-long s T r holders inodes names begun =
    let told : ℕ = length (flat_map part_rows s.inodes) in
    let own : length (rows_of T) ≡ suc (suc (length T.holders + (length (flat_map inode_rows T.inodes) + length T.names))) =
    ap (λ n. suc (suc n)) (length-append (map (holder_row T) T.holders) _
    ∙ (λ i. length-map T.holders (holder_row T) i
    + (length-append (flat_map inode_rows T.inodes) (map name_row T.names)
    ∙ ap (λ n. length (flat_map inode_rows T.inodes) + n) (length-map T.names name_row)) i)) in
    let rows : length (section_rows s) ≡ suc (suc (length s.records + (told + length s.names))) =
    ap (λ n. suc (suc n)) (length-append (map record_row s.records) _
    ∙ (λ i. length-map s.records record_row i
    + (length-append (flat_map part_rows s.inodes) (map name_row s.names) ∙ ap (λ n. told + n) (length-map s.names name_row)) i)) in
    let same : length (flat_map inode_rows T.inodes) ≡ told = ap (λ (l : List Row). length l) inodes in
    let named : length T.names ≡ length s.names = ap (λ (l : List (NameKey × ℕ)). length l) names in
    let longer = starts-longer is_same_row (map untold (rows_of T)) (map untold (section_rows s ++ r ∷ [])) begun in
    let few = length-map (rows_of T) untold in
    let many = length-map (section_rows s ++ r ∷ []) untold in
    let more = length-append (section_rows s) (r ∷ []) in
    omega (arith, longer, few, many, more, own, rows, same, named, holders)

-- a holder does not stand where an inode does
record-not-inode : (dir : Bool) (number : ℕ) (owners : Owners) (size : ℕ) (blocks : List (ℕ × List ℕ)) (h : Holder) (m n : ℕ) (back more names end : List Row)
    → starts_with is_same_row (map untold (Record h m n ∷ back)) (map untold (((rows_in dir number owners size blocks ++ more) ++ names) ++ end)) ≡ true → ⊥
record-not-inode dir number owners size blocks h m n back more names end e = by h.kind dir refl e
  where
    by : (kind : Kind) (d : Bool) → h.kind ≡ kind
        → starts_with is_same_row (map untold (Record h m n ∷ back)) (map untold (((rows_in d number owners size blocks ++ more) ++ names) ++ end)) ≡ true → ⊥
    by User true is e = cc
    by User false is e = cc
    by Group true is e = cc
    by Group false is e = cc
    by Project true is e = cc
    by Project false is e = cc

pub record-nowhere : (limit : ℕ) (s : Sections) (t : HolderPart) (p : InodePart) (ps : List InodePart) → s.inodes ≡ p ∷ ps
    → are_begun (section_rows s ++ record_row t ∷ []) (with_row (state_of limit s) (record_row t)) ≡ true → ⊥
record-nowhere limit s t p ps is begun =
    let T : State = with_row (state_of limit s) (record_row t) in
    let hs : List Holder = map (λ x. x.holder) s.records in
    let head : List Row = Bounds s.size s.most s.next ∷ Grace s.graces ∷ [] in
    let names : List Row = map name_row s.names in
    let back : List Row = flat_map inode_rows T.inodes ++ names in
    record-not-inode p.dir p.number p.owners p.size p.blocks t.holder 0 0 back (flat_map part_rows ps) names (record_row t ∷ [])
    (begun-behind T (section_rows s ++ record_row t ∷ []) (head ++ map (holder_row T) hs) (holder_row T t.holder ∷ back) (head ++ map record_row s.records)
    (((part_rows p ++ flat_map part_rows ps) ++ names) ++ record_row t ∷ [])
    (ap (λ l. head ++ (l ++ back)) (map-end (holder_row T) hs t.holder)
    ∙ ap (λ l. head ++ l) (append_assoc (map (holder_row T) hs) (holder_row T t.holder ∷ []) back))
    (ap (λ l. head ++ l) (append_assoc (map record_row s.records) (flat_map part_rows s.inodes ++ names) (record_row t ∷ []))
    ∙ ap (λ l. head ++ (map record_row s.records ++ ((flat_map part_rows l ++ names) ++ record_row t ∷ []))) is)
    (ap (λ n. suc (suc n)) (length-map hs (holder_row T) ∙ length-map s.records (λ x. x.holder) ∙ sym (length-map s.records record_row)))
    begun)

-- the rows of a state with an inode more, and rows of sections, behind as many rows
pub inodes-behind : (s : Sections) (done : List InodePart) (T : State) (e : ℕ × Inode) (told rest : List Row) → AllByRecursion HasBlocks done
    → T.inodes ≡ map entry_of done ++ e ∷ [] → length T.holders ≡ length s.records
    → told ≡ Bounds s.size s.most s.next ∷ Grace s.graces ∷ (map record_row s.records ++ (flat_map part_rows done ++ rest)) → are_begun told T ≡ true
    → starts_with is_same_row (map untold (inode_rows e ++ map name_row T.names)) (map untold rest) ≡ true
inodes-behind s done T e told rest blocks inodes holders is begun =
    let own : List Row = Bounds T.size T.most_inodes T.next ∷ Grace T.graces ∷ [] in
    let head : List Row = Bounds s.size s.most s.next ∷ Grace s.graces ∷ [] in
    let names : List Row = map name_row T.names in
    let before : List Row = flat_map inode_rows (map entry_of done) in
    let back : flat_map inode_rows T.inodes ≡ before ++ inode_rows e = ap (flat_map inode_rows) inodes ∙ flat-end (map entry_of done) in
    begun-behind T told (own ++ (map (holder_row T) T.holders ++ before)) (inode_rows e ++ names) (head ++
    (map record_row s.records ++ flat_map part_rows done)) rest
    (ap (λ l. own ++ l) (ap (λ l. map (holder_row T) T.holders ++ (l ++ names)) back
    ∙ ap (λ l. map (holder_row T) T.holders ++ l) (append_assoc before (inode_rows e) names)
    ∙ sym (append_assoc (map (holder_row T) T.holders) before (inode_rows e ++ names))))
    (is ∙ ap (λ l. head ++ l) (sym (append_assoc (map record_row s.records) (flat_map part_rows done) rest)))
    (ap (λ n. suc (suc n)) (length-append (map (holder_row T) T.holders) before
    ∙ (λ i. (length-map T.holders (holder_row T) ∙ holders ∙ sym (length-map s.records record_row)) i + length (parts-back done blocks i))
    ∙ sym (length-append (map record_row s.records) (flat_map part_rows done))))
    begun
  where
    flat-end : (es : List (ℕ × Inode)) → flat_map inode_rows (es ++ e ∷ []) ≡ flat_map inode_rows es ++ inode_rows e
    flat-end [] = append-nil (inode_rows e)
    flat-end (x ∷ es) = ap (λ l. inode_rows x ++ l) (flat-end es) ∙ sym (append_assoc (inode_rows x) (flat_map inode_rows es) (inode_rows e))

-- an inode does not stand where a name does
inode-not-name : (e : ℕ × Inode) (key : NameKey) (number : ℕ) (back rest : List Row)
    → starts_with is_same_row (map untold (inode_rows e ++ back)) (map untold (Name key number ∷ rest)) ≡ true → ⊥
inode-not-name e key number back rest same = by e.1.dir e.0 e.1.owners e.1.file same
  where
    by : (dir : Bool) (n : ℕ) (owners : Owners) (file : File)
        → starts_with is_same_row (map untold (rows_by dir n owners file ++ back)) (map untold (Name key number ∷ rest)) ≡ true → ⊥
    by true n owners file e = cc
    by false n owners file e = cc

pub inode-nowhere : (limit : ℕ) (s : Sections) (e : ℕ × Inode) (r : Row) (x : NameKey × ℕ) (xs : List (NameKey × ℕ)) → AllByRecursion HasBlocks s.inodes
    → s.names ≡ x ∷ xs
    → are_begun (section_rows s ++ r ∷ []) (record (state_of limit s) { inodes = map entry_of s.inodes ++ e ∷ [] }) ≡ true → ⊥
inode-nowhere limit s e r x xs blocks is begun =
    let T : State = record (state_of limit s) { inodes = map entry_of s.inodes ++ e ∷ [] } in
    let head : List Row = Bounds s.size s.most s.next ∷ Grace s.graces ∷ [] in
    inode-not-name e x.0 x.1 (map name_row s.names) (map name_row xs ++ r ∷ [])
    (inodes-behind s s.inodes T e (section_rows s ++ r ∷ []) (name_row x ∷ (map name_row xs ++ r ∷ [])) blocks refl (length-map s.records (λ t. t.holder))
    (ap (λ l. head ++ l) (append_assoc (map record_row s.records) _ (r ∷ []) ∙ ap (λ l. map record_row s.records ++ l)
    (append_assoc (flat_map part_rows s.inodes) _ (r ∷ []) ∙ ap (λ l. flat_map part_rows s.inodes ++ (map name_row l ++ r ∷ [])) is)))
    begun)
