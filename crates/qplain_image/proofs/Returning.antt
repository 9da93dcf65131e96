-- Rows in their sections are those of the state that they make.
use Rattle.std.proofs.Common.{◌≡◌, ℕ, Bool, true, false, List, [], ◌∷◌, ◌++◌, map, fold, refl, sym, ap, subst, ◌∙◌, append_assoc}
use Rattle.std.specs.List.{flat_map, AllByRecursion}
use Rattle.std.proofs.lemmas.List.{append-nil}
use Rattle.std.proofs.lemmas.List.Sums.{fold-append}
use Rattle.qblocks.specs.File.{File, empty_file}
use Rattle.qplain.specs.declared.owners.Owners.{Owners}
use Rattle.qplain.specs.State.{Inode, State}
use Rattle.qplain_image.specs.Blocks.{AreBlocksOf, refilled, unfilled}
use Rattle.qplain_image.specs.Parts.{HasUses, HolderPart, InodePart, RowsAreGivenBack, Sections, part_rows, rows_in, section_rows}
use Rattle.qplain_image.specs.Rows.{Row, Bounds, Grace, Record, FileHead, Block, Name, blank, holder_row, inode_rows, made_of, rows_by, rows_of, with_row}
use Rattle.qplain_image.proofs.GivingBack.{blocks_are_given_back}
use Rattle.qplain_image.proofs.Remaking.{with_blocks, with_names}

-- the file of an inode
abbrev pub file_by : Bool → ℕ → List (ℕ × List ℕ) → File
file_by true size blocks = empty_file
file_by false size blocks = refilled size blocks

-- the inode beside its number
abbrev pub entry_of : InodePart → ℕ × Inode
entry_of p = (p.number, record { dir = p.dir; owners = p.owners; file = file_by p.dir p.size p.blocks })

-- ---- what is made

with_records : (T : State) (ts : List HolderPart) → fold with_row T (map (λ t. Record t.holder t.blocks t.inodes) ts)
    ≡ record T { holders = T.holders ++ map (λ t. t.holder) ts }
with_records T [] = ap (λ xs. record T { holders = xs }) (sym (append-nil T.holders))
with_records T (t ∷ ts) =
    with_records (record T { holders = T.holders ++ t.holder ∷ [] }) ts
    ∙ ap (λ xs. record T { holders = xs }) (append_assoc T.holders (t.holder ∷ []) (map (λ x. x.holder) ts))

with_part : (T : State) (number : ℕ) (dir : Bool) (owners : Owners) (size : ℕ) (blocks : List (ℕ × List ℕ))
    → fold with_row T (rows_in dir number owners size blocks)
    ≡ record T { inodes = T.inodes ++ (number, record { dir = dir; owners = owners; file = file_by dir size blocks }) ∷ [] }
with_part T number true owners size blocks = refl
with_part T number false owners size blocks =
    let begun : Inode = record { dir = false; owners = owners; file = unfilled size } in
    with_blocks (record T { inodes = T.inodes ++ (number, begun) ∷ [] }) T.inodes number begun blocks refl

with_parts : (T : State) (ps : List InodePart) → fold with_row T (flat_map part_rows ps) ≡ record T { inodes = T.inodes ++ map entry_of ps }
with_parts T [] = ap (λ xs. record T { inodes = xs }) (sym (append-nil T.inodes))
with_parts T (p ∷ ps) =
    fold-append with_row T (part_rows p) (flat_map part_rows ps)
    ∙ ap (λ U. fold with_row U (flat_map part_rows ps)) (with_part T p.number p.dir p.owners p.size p.blocks)
    ∙ with_parts (record T { inodes = T.inodes ++ entry_of p ∷ [] }) ps
    ∙ ap (λ xs. record T { inodes = xs }) (append_assoc T.inodes (entry_of p ∷ []) (map entry_of ps))

-- the state that sections make
abbrev pub state_of : ℕ → Sections → State
state_of limit s = record {
  size = s.size;
  most_inodes = s.most;
  file_limit = limit;
  graces = s.graces;
  holders = map (λ t. t.holder) s.records;
  inodes = map entry_of s.inodes;
  names = s.names;
  next = s.next;
}

pub made : (limit : ℕ) (s : Sections) → made_of limit (section_rows s) ≡ state_of limit s
made limit s =
    let begun : State = record (blank limit) { size = s.size; most_inodes = s.most; next = s.next; graces = s.graces } in
    let inodes : List Row = flat_map part_rows s.inodes in
    let names : List Row = map (λ e. Name e.0 e.1) s.names in
    let held : State = record begun { holders = map (λ t. t.holder) s.records } in
    fold-append with_row begun (map (λ t. Record t.holder t.blocks t.inodes) s.records) (inodes ++ names)
    ∙ ap (λ T. fold with_row T (inodes ++ names)) (with_records begun s.records)
    ∙ fold-append with_row held inodes names
    ∙ ap (λ T. fold with_row T names) (with_parts held s.inodes)
    ∙ with_names (record held { inodes = map entry_of s.inodes }) s.names

-- ---- what is given back

records-back : (S : State) (ts : List HolderPart) → AllByRecursion (HasUses S) ts
    → map (holder_row S) (map (λ t. t.holder) ts) ≡ map (λ t. Record t.holder t.blocks t.inodes) ts
records-back S [] all = refl
records-back S (t ∷ ts) all = λ i. Record t.holder (sym all.0.blocks i) (sym all.0.inodes i) ∷ records-back S ts all.1 i

part-back : (number : ℕ) (dir : Bool) (owners : Owners) (size : ℕ) (blocks : List (ℕ × List ℕ)) → AreBlocksOf size 0 blocks
    → rows_by dir number owners (file_by dir size blocks) ≡ rows_in dir number owners size blocks
part-back number true owners size blocks are = refl
part-back number false owners size blocks are =
    let back = blocks_are_given_back size blocks are in
    λ i. FileHead number owners (back.0 i) ∷ map (λ b. Block b) (back.1 i)

pub parts-back : (ps : List InodePart) → AllByRecursion (λ p. AreBlocksOf p.size 0 p.blocks) ps → flat_map inode_rows (map entry_of ps) ≡ flat_map part_rows ps
parts-back [] all = refl
parts-back (p ∷ ps) all = λ i. part-back p.number p.dir p.owners p.size p.blocks all.0 i ++ parts-back ps all.1 i

pub rows_are_given_back : RowsAreGivenBack
rows_are_given_back limit s are =
    let S : State = state_of limit s in
    let is : made_of limit (section_rows s) ≡ S = made limit s in
    let told : AllByRecursion (HasUses S) s.records = subst (λ T. AllByRecursion (HasUses T) s.records) is are.told in
    let names : List Row = map (λ e. Name e.0 e.1) s.names in
    ap rows_of is
    ∙ (λ i. Bounds s.size s.most s.next ∷ Grace s.graces ∷ (records-back S s.records told i ++ (parts-back s.inodes are.blocks i ++ names)))
