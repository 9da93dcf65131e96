-- What is wrong with one row more is told by the state that the rows before it make.
use Rattle.std.proofs.Common.{◌≡◌, ℕ, ◌+◌, ◌<◌, ◌^◌, Bool, true, false, nat_le, List, [], ◌∷◌, ◌++◌, None, map, refl, sym, ap, subst, ◌∙◌, append_assoc}
use Rattle.std.specs.List.{AllByRecursion}
use Rattle.std.proofs.lemmas.Bool.{and_parts}
use Rattle.std.proofs.lemmas.List.{append-nil, length-map}
use Rattle.qplain.specs.declared.bounds.TheConstants.{MAX_NUMBER}
use Rattle.qplain.specs.State.{Inode, NameKey, State, new_directory}
use Rattle.qplain_image.specs.Blocks.{unfilled}
use Rattle.qplain_image.specs.Parts.{HolderPart, InodePart, Sections, section_rows}
use Rattle.qplain_image.specs.Rows.{Row, Bounds, Grace, Record, Directory, FileHead, Block, Name, made_of, with_row}
use Rattle.qplain_image.proofs.Returning.{entry_of, made, parts-back, state_of}
use Rattle.qtext_image.specs.Faults.{are_begun, are_blocks_long, are_bounds_fit, fault_in, is_ordered, is_same_row, row_fault, untold}
use Rattle.qtext_image.specs.Held.{IsRow}
use Rattle.qtext_image.specs.NextFaults.{next_fault}
use Rattle.qtext_image.proofs.NextFiles.{Grows, block-next}
use Rattle.qtext_image.proofs.NextOrder.{inode-more, inode-nowhere, made-more, name-more, record-more, record-nowhere, too-long}
use Rattle.qtext_image.proofs.NextRows.{bad-order, bounds-next, each-end, graces-next, inode-next, name-next, record-next}
use Rattle.qtext_image.proofs.NextTests.{IsTold, names-none, told-of}
use Rattle.qtext_image.proofs.Parted.{HasBlocks}
use Rattle.qtext_image.proofs.Passing.{passed}
use Rattle.qtext_image.proofs.Prefixes.{Passes, part_of}
use Rattle.qtext_image.proofs.NextHeads.{not-first, first-next, not-second, no-graces, second-next}

-- the index of a block has 64 bits: decimals of larger numbers do not tell these apart
abbrev pub HasLowIndex : Row → Type 0
HasLowIndex (Block b) = b.0 < 2 ^ 64
HasLowIndex r = Unit {0}

-- as it is in each row that its type can hold
pub low-index : (r : Row) → IsRow r → HasLowIndex r
low-index (Bounds size most next) is = tt
low-index (Grace g) is = tt
low-index (Record h blocks inodes) is = tt
low-index (Directory number owners) is = tt
low-index (FileHead number owners size) is = tt
low-index (Block b) is = is.0
low-index (Name key number) is = tt

pub low-indexes : (rows : List Row) → AllByRecursion IsRow rows → AllByRecursion HasLowIndex rows
low-indexes [] all = tt
low-indexes (r ∷ rows) all = (low-index r all.0, low-indexes rows all.1)

-- what rows are none of whose lines is at fault: none, the bounds, or sections
pub data IsBegun (limit : ℕ) (rows : List Row) : Type 0 where
  Empty : rows ≡ [] → IsBegun limit rows
  Bounded : (size most next : ℕ) → rows ≡ Bounds size most next ∷ [] → are_bounds_fit (made_of limit rows) ≡ true
      → nat_le (made_of limit rows).next (MAX_NUMBER + 1) ≡ true → IsBegun limit rows
  Sectioned : (s : Sections) → rows ≡ section_rows s → AllByRecursion HasBlocks s.inodes → IsTold (state_of limit s) → IsBegun limit rows

-- ---- behind sections

module _ (limit : ℕ) (small : limit < 2 ^ 64) (s : Sections) (blocks : AllByRecursion HasBlocks s.inodes) (told : IsTold (state_of limit s)) where
  abbrev S : State
  S = state_of limit s

  sections-next : (r : Row) → HasLowIndex r → fault_in (section_rows s ++ r ∷ []) (with_row S r) ≡ next_fault S r
  sections-next (Bounds size most next) low = bounds-next limit s blocks told size most next
  sections-next (Grace g) low = graces-next limit s blocks told g
  sections-next (Record h b i) low = record-next limit s blocks told h b i
  sections-next (Directory number owners) low =
      inode-next limit s blocks told (part_of true number owners 0 []) (number, new_directory owners) (Directory number owners) refl tt refl (λ n. refl) refl
  sections-next (FileHead number owners size) low =
      inode-next limit s blocks told (part_of false number owners size []) (number, record { dir = false; owners = owners; file = unfilled size })
      (FileHead number owners size) refl tt refl (λ n. refl) refl
  sections-next (Block b) low = (block-next limit s blocks told b small low).0
  sections-next (Name key number) low = name-next limit s blocks told key number

  inode-grows : (p : InodePart) (e : ℕ × Inode) (r : Row) → HasBlocks p
      → (s.names ≡ [] → section_rows s ++ r ∷ [] ≡ section_rows (record s { inodes = s.inodes ++ p ∷ [] }))
      → are_begun (section_rows s ++ r ∷ []) (record S { inodes = map entry_of s.inodes ++ e ∷ [] }) ≡ true → Grows s r
  inode-grows p e r has rows begun = by s.names refl
    where
      by : (names : List (NameKey × ℕ)) → s.names ≡ names → Grows s r
      by [] free = (record s { inodes = s.inodes ++ p ∷ [] }, rows free, each-end s.inodes p blocks has)
      by (x ∷ xs) names = absurd (inode-nowhere limit s e r x xs blocks names begun)

  grows : (r : Row) → HasLowIndex r → are_blocks_long 0 (section_rows s ++ r ∷ []) ≡ true
      → are_begun (section_rows s ++ r ∷ []) (with_row S r) ≡ true → Grows s r
  grows (Bounds size most next) low long begun =
      absurd (too-long s (with_row S (Bounds size most next)) (Bounds size most next) (length-map s.records (λ t. t.holder))
      (parts-back s.inodes blocks) refl begun)
  grows (Grace g) low long begun =
      absurd (too-long s (with_row S (Grace g)) (Grace g) (length-map s.records (λ t. t.holder)) (parts-back s.inodes blocks) refl begun)
  grows (Record h b i) low long begun = by s.inodes refl
    where
      t : HolderPart
      t = record { holder = h; blocks = b; inodes = i }

      by : (ps : List InodePart) → s.inodes ≡ ps → Grows s (Record h b i)
      by [] none =
          (record s { records = s.records ++ t ∷ [] }, record-more s t s.inodes s.names none (names-none S told.lead (ap (map entry_of) none)), blocks)
      by (p ∷ ps) is = absurd (record-nowhere limit s t p ps is begun)
  grows (Directory number owners) low long begun =
      inode-grows (part_of true number owners 0 []) (number, new_directory owners) (Directory number owners) tt
      (λ free. inode-more s (part_of true number owners 0 []) s.names free) begun
  grows (FileHead number owners size) low long begun =
      inode-grows (part_of false number owners size []) (number, record { dir = false; owners = owners; file = unfilled size }) (FileHead number owners size) tt
      (λ free. inode-more s (part_of false number owners size []) s.names free) begun
  grows (Block b) low long begun = (block-next limit s blocks told b small low).1 long begun
  grows (Name key number) low long begun = (record s { names = s.names ++ (key, number) ∷ [] }, name-more s (key, number), blocks)

-- ---- any row

-- the fault of one row more
more-next : (limit : ℕ) (rows : List Row) (r : Row) → limit < 2 ^ 64 → HasLowIndex r → IsBegun limit rows
    → fault_in (rows ++ r ∷ []) (with_row (made_of limit rows) r) ≡ next_fault (made_of limit rows) r
more-next limit rows r small low (Empty is) =
    subst (λ l. fault_in (l ++ r ∷ []) (with_row (made_of limit l) r) ≡ next_fault (made_of limit l) r) (sym is) (first-next limit r)
more-next limit rows r small low (Bounded size most next is fit few) =
    subst (λ l. fault_in (l ++ r ∷ []) (with_row (made_of limit l) r) ≡ next_fault (made_of limit l) r) (sym is)
    (second-next limit size most next r (subst (λ l. are_bounds_fit (made_of limit l)
    ≡ true) is fit) (subst (λ l. nat_le (made_of limit l).next (MAX_NUMBER + 1) ≡ true) is few))
more-next limit rows r small low (Sectioned s is blocks told) =
    subst (λ l. fault_in (l ++ r ∷ []) (with_row (made_of limit l) r) ≡ next_fault (made_of limit l) r) (sym is)
    (subst (λ T. fault_in (section_rows s ++ r ∷ []) (with_row T r) ≡ next_fault T r) (sym (made limit s)) (sections-next limit small s blocks told r low))

-- rows with one more that is not at fault
sectioned : (limit : ℕ) (rows : List Row) (s : Sections) → rows ≡ section_rows s → AllByRecursion HasBlocks s.inodes → row_fault limit rows ≡ None
    → IsBegun limit rows
sectioned limit rows s is blocks none =
    Sectioned s is blocks
    (subst IsTold (made limit s)
    (told-of _ _ _ (made_of limit (section_rows s)) (passed (section_rows s) (made_of limit (section_rows s)) (subst (λ l. row_fault limit l ≡ None) is none))))

-- rows whose last is not at fault begin those of their state
begun-of : (limit : ℕ) (rows : List Row) → row_fault limit rows ≡ None → are_begun rows (made_of limit rows) ≡ true
begun-of limit rows none = by (are_blocks_long 0 rows) (are_begun rows (made_of limit rows)) (is_ordered (made_of limit rows)) refl refl refl
  where
    by : (l b o : Bool) → are_blocks_long 0 rows ≡ l → are_begun rows (made_of limit rows) ≡ b → is_ordered (made_of limit rows) ≡ o
        → are_begun rows (made_of limit rows) ≡ true
    by l true o long is ordered = is
    by true false o long is ordered = absurd (let bad = bad-order rows (made_of limit rows) long is in cc (sym bad ∙ none))
    by false false o long is ordered = absurd (let sound = (passed rows (made_of limit rows) none).long in cc)

step : (limit : ℕ) (rows : List Row) (r : Row) → limit < 2 ^ 64 → HasLowIndex r → IsBegun limit rows → row_fault limit (rows ++ r ∷ []) ≡ None
    → IsBegun limit (rows ++ r ∷ [])
step limit rows r small low (Empty is) none = by r refl
  where
    one : row_fault limit (r ∷ []) ≡ None
    one = subst (λ l. row_fault limit (l ++ r ∷ []) ≡ None) is none

    begun : are_begun (r ∷ []) (made_of limit (r ∷ [])) ≡ true
    begun = begun-of limit (r ∷ []) one

    by : (q : Row) → r ≡ q → IsBegun limit (rows ++ r ∷ [])
    by (Bounds size most next) same =
        let is_all : rows ++ r ∷ [] ≡ Bounds size most next ∷ [] = λ i. is i ++ same i ∷ [] in
        let ranged = (passed (rows ++ r ∷ []) (made_of limit (rows ++ r ∷ [])) none).ranged in
        let inner = and_parts _ _ (and_parts _ _ (and_parts _ _ ranged).0).0 in
        let parts = and_parts (are_bounds_fit (made_of limit (rows ++ r ∷ []))) (nat_le (made_of limit (rows ++ r ∷ [])).next (MAX_NUMBER + 1)) inner.0 in
        Bounded size most next is_all parts.0 parts.1
    by (Grace g) same = let b = subst (λ q. are_begun (q ∷ []) (made_of limit (q ∷ [])) ≡ true) same begun in absurd (cc b)
    by (Record h b i) same = let e = subst (λ q. are_begun (q ∷ []) (made_of limit (q ∷ [])) ≡ true) same begun in absurd (cc (sym (not-first limit h b i) ∙ e))
    by (Directory number owners) same = let b = subst (λ q. are_begun (q ∷ []) (made_of limit (q ∷ [])) ≡ true) same begun in absurd (cc b)
    by (FileHead number owners size) same = let b = subst (λ q. are_begun (q ∷ []) (made_of limit (q ∷ [])) ≡ true) same begun in absurd (cc b)
    by (Block c) same = let b = subst (λ q. are_begun (q ∷ []) (made_of limit (q ∷ [])) ≡ true) same begun in absurd (cc b)
    by (Name key number) same = let b = subst (λ q. are_begun (q ∷ []) (made_of limit (q ∷ [])) ≡ true) same begun in absurd (cc b)
step limit rows r small low (Bounded size most next is fit few) none = by r refl
  where
    never : is_same_row (untold r) (Grace (made_of limit (Bounds size most next ∷ r ∷ [])).graces) ≡ false → IsBegun limit (rows ++ r ∷ [])
    never other =
        absurd (not-second (made_of limit (Bounds size most next ∷ r ∷ [])) (Bounds size most next) r other
        (begun-of limit (Bounds size most next ∷ r ∷ []) (subst (λ l. row_fault limit (l ++ r ∷ []) ≡ None) is none)))

    by : (q : Row) → r ≡ q → IsBegun limit (rows ++ r ∷ [])
    by (Grace g) same =
        let s : Sections = record { size = size; most = most; next = next; graces = g; records = []; inodes = []; names = [] } in
        sectioned limit (rows ++ r ∷ []) s (λ i. is i ++ same i ∷ []) tt none
    by (Bounds a b c) same = never (ap (λ q. is_same_row (untold q) (Grace (made_of limit (Bounds size most next ∷ r ∷ [])).graces)) same)
    by (Record h b i) same =
        never (ap (λ q. is_same_row (untold q) (Grace (made_of limit (Bounds size most next ∷ r ∷ [])).graces)) same ∙ no-graces _ h)
    by (Directory number owners) same = never (ap (λ q. is_same_row (untold q) (Grace (made_of limit (Bounds size most next ∷ r ∷ [])).graces)) same)
    by (FileHead number owners told) same = never (ap (λ q. is_same_row (untold q) (Grace (made_of limit (Bounds size most next ∷ r ∷ [])).graces)) same)
    by (Block c) same = never (ap (λ q. is_same_row (untold q) (Grace (made_of limit (Bounds size most next ∷ r ∷ [])).graces)) same)
    by (Name key number) same = never (ap (λ q. is_same_row (untold q) (Grace (made_of limit (Bounds size most next ∷ r ∷ [])).graces)) same)
step limit rows r small low (Sectioned s is blocks told) none =
    let here : row_fault limit (section_rows s ++ r ∷ []) ≡ None = subst (λ l. row_fault limit (l ++ r ∷ []) ≡ None) is none in
    let begun : are_begun (section_rows s ++ r ∷ []) (with_row (state_of limit s) r) ≡ true =
    ap (are_begun (section_rows s ++ r ∷ [])) (ap (λ T. with_row T r) (sym (made limit s)) ∙ sym (made-more limit (section_rows s) r))
    ∙ begun-of limit (section_rows s ++ r ∷ []) here in
    let long = (passed (section_rows s ++ r ∷ []) (made_of limit (section_rows s ++ r ∷ [])) here).long in
    let new = grows limit small s blocks told r low long begun in
    sectioned limit (rows ++ r ∷ []) new.0 (ap (λ l. l ++ r ∷ []) is ∙ new.1) new.2 none

pub begun-all : (limit : ℕ) (before rows : List Row) → limit < 2 ^ 64 → AllByRecursion HasLowIndex rows → IsBegun limit before → Passes limit before rows
    → IsBegun limit (before ++ rows)
begun-all limit before [] small low begun passes = subst (IsBegun limit) (sym (append-nil before)) begun
begun-all limit before (r ∷ rows) small low begun passes =
    subst (IsBegun limit) (append_assoc before (r ∷ []) rows)
    (begun-all limit (before ++ r ∷ []) rows small low.1 (step limit before r small low.0 begun passes.0) passes.1)

-- where no line of the rows is at fault, what is wrong with one more is what their state tells
pub row-fault-next : (limit : ℕ) (rows : List Row) (r : Row) → limit < 2 ^ 64 → AllByRecursion HasLowIndex rows → HasLowIndex r → Passes limit [] rows
    → row_fault limit (rows ++ r ∷ []) ≡ next_fault (made_of limit rows) r
row-fault-next limit rows r small lows low passes =
    ap (fault_in (rows ++ r ∷ [])) (made-more limit rows r)
    ∙ more-next limit rows r small low (begun-all limit [] rows small lows (Empty refl) passes)

-- so it is for rows that their types can hold
pub row-fault-next-typed : (limit : ℕ) (rows : List Row) (r : Row) → limit < 2 ^ 64 → AllByRecursion IsRow rows → IsRow r → Passes limit [] rows
    → row_fault limit (rows ++ r ∷ []) ≡ next_fault (made_of limit rows) r
row-fault-next-typed limit rows r small typed own passes = row-fault-next limit rows r small (low-indexes rows typed) (low-index r own) passes
