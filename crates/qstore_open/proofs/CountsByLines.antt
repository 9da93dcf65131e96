-- What the counts at the end of an image show, line by line.
use Rattle.std.proofs.Common.{◌≡◌, ℕ, ◌+◌, ◌^◌, ◌<◌, ◌≤◌, ◌==◌, Bool, true, false, ◌&&◌, cond, nat_le, List, [], ◌∷◌, ◌++◌, decimal, length, map, Option, Some, None, refl, sym, ap, subst, ◌∙◌, add-zero, append_assoc, arith, tests}
use Rattle.std.specs.List.{flat_map, AllByRecursion}
use Rattle.std.proofs.lemmas.Bool.{and_parts, eq-eqb, eqb-true}
use Rattle.std.proofs.lemmas.Fmt.{decimal_injective}
use Rattle.std.proofs.lemmas.List.{length-map}
use Rattle.qrules.specs.Sort.{Sort, Inodes, Blocks}
use Rattle.qblocks.specs.File.{blocks_of}
use Rattle.qplain.specs.declared.bounds.TheConstants.{ROOT}
use Rattle.qplain.specs.declared.owners.Owners.{Owners}
use Rattle.qplain.specs.State.{Holder, NameKey, State, is_directory, new_directory, new_file}
use Rattle.qplain.specs.Use.{account_of, total_of, use_of}
use Rattle.qplain_laws.specs.Laws.{has_right_names}
use Rattle.qplain_laws.proofs.Replacing.{use-le-total}
use Rattle.qplain_image.specs.Blocks.{AreBlocksOf, block_in, refilled}
use Rattle.qplain_image.specs.Parts.{HolderPart, InodePart, Sections, part_rows, rows_in, section_rows}
use Rattle.qplain_image.specs.Rows.{Row, Bounds, Grace, Record, Directory, FileHead, Block, Name, holder_row, inode_rows, made_of, rows_of}
use Rattle.qplain_image.proofs.GivingBack.{blocks_are_given_back}
use Rattle.qplain_image.proofs.Returning.{entry_of, file_by, made, parts-back, state_of}
use Rattle.qtext_image.specs.Counts.{count_fault, has_ends, is_balanced, is_in_tree}
use Rattle.qtext_image.specs.Faults.{ImageFault, BadCount, BadOrder, is_same_row}
use Rattle.qtext_image.specs.Spelling.{row_words}
use Rattle.qtext_image.proofs.Ordered.{row-same, same-words}
use Rattle.qtext_image.proofs.Parted.{HasBlocks}
use Rattle.qstore_open.specs.Ending.{AreCountsTyped, bad_count, end_line, inodes_line, is_placed, is_told_right, records_line}
use Rattle.qstore_open.proofs.Levels.{both, same-test}

-- ---- one row

-- a count is wrong in this line
abbrev wrong : ℕ → Option ImageFault
wrong line = Some (record { line = line; kind = BadCount })

branch : (b : Bool) (others : Option ImageFault) (lines : Option ℕ) (line : ℕ) → others ≡ bad_count lines
    → cond b others (wrong line) ≡ bad_count (cond b lines (Some line))
branch true others lines line e = e
branch false others lines line e = refl

module _ (S : State) where
  -- the state's own row is as it has to be, or a count is wrong in its line
  own-row : (line : ℕ) (r : Row) (told rows : List Row)
      → count_fault S line (r ∷ told) (r ∷ rows) ≡ cond (is_balanced S r) (count_fault S (line + 1) told rows) (wrong line)
  own-row line r told rows = ap (λ b. cond (b && is_balanced S r) (count_fault S (line + 1) told rows) (wrong line)) (row-same r)

  -- ---- names, and inodes with their blocks

  names-right : (line : ℕ) (es : List (NameKey × ℕ)) → count_fault S line (map (λ e. Name e.0 e.1) es) (map (λ e. Name e.0 e.1) es) ≡ None
  names-right line [] = refl
  names-right line (e ∷ es) = own-row line (Name e.0 e.1) (map (λ x. Name x.0 x.1) es) (map (λ x. Name x.0 x.1) es) ∙ names-right (line + 1) es

  blocks-right : (line : ℕ) (bs : List (ℕ × List ℕ)) (rest : List Row)
      → count_fault S line (map (λ b. Block b) bs ++ rest) (map (λ b. Block b) bs ++ rest) ≡ count_fault S (line + length bs) rest rest
  blocks-right line [] rest = ap (λ n. count_fault S n rest rest) (sym (add-zero line))
  blocks-right line (b ∷ bs) rest =
      own-row line (Block b) (map (λ x. Block x) bs ++ rest) (map (λ x. Block x) bs ++ rest)
      ∙ blocks-right (line + 1) bs rest
      ∙ (let same : line + 1 + length bs ≡ line + length (b ∷ bs) = omega arith in ap (λ n. count_fault S n rest rest) same)

  many-blocks : (size : ℕ) (bs : List (ℕ × List ℕ)) → AreBlocksOf size 0 bs → length bs ≡ blocks_of (refilled size bs)
  many-blocks size bs are =
      sym (ap length (blocks_are_given_back size bs are).1)
      ∙ length-map (refilled size bs).allocated (λ k. (k, block_in (refilled size bs) k))

  inode-lines : (line : ℕ) (number : ℕ) (dir : Bool) (owners : Owners) (size : ℕ) (bs : List (ℕ × List ℕ)) (rest : List Row) (lines : ℕ → Option ℕ)
      → AreBlocksOf size 0 bs → ((n : ℕ) → count_fault S n rest rest ≡ bad_count (lines n))
      → count_fault S line (rows_in dir number owners size bs ++ rest) (rows_in dir number owners size bs ++ rest)
      ≡ bad_count (cond (is_placed S (entry_of (record { number = number; dir = dir; owners = owners; size = size; blocks = bs })))
      (lines (line + 1 + blocks_of (file_by dir size bs))) (Some line))
  inode-lines line number true owners size bs rest lines are later =
      own-row line (Directory number owners) rest rest
      ∙ branch (has_right_names S (number, new_directory owners) && is_in_tree S number) (count_fault S (line + 1) rest rest) (lines (line + 1 + 0)) line
      (later (line + 1) ∙ ap (λ n. bad_count (lines n)) (sym (add-zero (line + 1))))
  inode-lines line number false owners size bs rest lines are later =
      own-row line (FileHead number owners size) (map (λ b. Block b) bs ++ rest) (map (λ b. Block b) bs ++ rest)
      ∙ branch (has_right_names S (number, new_file owners) && is_in_tree S number) (count_fault S (line + 1) (map (λ b. Block b) bs ++ rest) (map
      (λ b. Block b) bs ++ rest))
      (lines (line + 1 + blocks_of (refilled size bs))) line
      (blocks-right (line + 1) bs rest ∙ later (line + 1 + length bs) ∙ ap (λ n. bad_count (lines (line + 1 + n))) (many-blocks size bs are))

  inodes-lines : (line : ℕ) (ps : List InodePart) (rest : List Row) → AllByRecursion HasBlocks ps → ((n : ℕ) → count_fault S n rest rest ≡ None)
      → count_fault S line (flat_map part_rows ps ++ rest) (flat_map part_rows ps ++ rest) ≡ bad_count (inodes_line S line (map entry_of ps))
  inodes-lines line [] rest all right = right line
  inodes-lines line (p ∷ ps) rest all right =
      ap (λ rows. count_fault S line rows rows) (append_assoc (part_rows p) (flat_map part_rows ps) rest)
      ∙ inode-lines line p.number p.dir p.owners p.size p.blocks (flat_map part_rows ps ++ rest) (λ n. inodes_line S n (map entry_of ps)) all.0
      (λ n. inodes-lines n ps rest all.1 right)

  -- ---- records

  -- no use is more than 64 bits can tell
  abbrev AreUsesSmall : Type 0
  AreUsesSmall = (h : Holder) (sort : Sort) → use_of S h.kind h.id sort < 2 ^ 64

  record-same : (small : AreUsesSmall) (t : HolderPart) → t.blocks < 2 ^ 64 → t.inodes < 2 ^ 64
      → is_same_row (Record t.holder t.blocks t.inodes) (holder_row S t.holder)
      ≡ (t.blocks == use_of S t.holder.kind t.holder.id Blocks && t.inodes == use_of S t.holder.kind t.holder.id Inodes)
  record-same small t blocks inodes =
      let h : Holder = t.holder in
      let used : ℕ = use_of S h.kind h.id Blocks in
      let owned : ℕ = use_of S h.kind h.id Inodes in
      same-test (is_same_row (Record h t.blocks t.inodes) (holder_row S h)) (t.blocks == used && t.inodes == owned)
      (λ e.
      let words : row_words (Record h t.blocks t.inodes) ≡ row_words (Record h used owned) = same-words _ _ e in
      let one : decimal t.blocks ≡ decimal used = cc words in
      let other : decimal t.inodes ≡ decimal owned = cc words in
      both (t.blocks == used) (t.inodes == owned)
      (eq-eqb t.blocks used (decimal_injective t.blocks used blocks (small h Blocks) one))
      (eq-eqb t.inodes owned (decimal_injective t.inodes owned inodes (small h Inodes) other)))
      (λ e.
      let parts = and_parts (t.blocks == used) (t.inodes == owned) e in
      let one : t.blocks ≡ used = eqb-true t.blocks used parts.0 in
      let other : t.inodes ≡ owned = eqb-true t.inodes owned parts.1 in
      (λ i. is_same_row (Record h (one i) (other i)) (holder_row S h)) ∙ row-same (holder_row S h))

  records-lines : (small : AreUsesSmall) (line : ℕ) (ts : List HolderPart) (told rows : List Row)
      → AllByRecursion (λ t. (t.blocks < 2 ^ 64) × (t.inodes < 2 ^ 64)) ts → ((n : ℕ) → count_fault S n told rows ≡ bad_count (inodes_line S n S.inodes))
      → count_fault S line (map (λ t. Record t.holder t.blocks t.inodes) ts ++ told) (map (holder_row S) (map (λ t. t.holder) ts) ++ rows)
      ≡ bad_count (records_line S line ts)
  records-lines small line [] told rows typed later = later line
  records-lines small line (t ∷ ts) told rows typed later =
      ap (λ b. cond (b && has_ends (account_of S t.holder))
      (count_fault S (line + 1) (map (λ x. Record x.holder x.blocks x.inodes) ts ++ told) (map (holder_row S) (map (λ x. x.holder) ts) ++ rows)) (wrong line))
      (record-same small t typed.0.0 typed.0.1)
      ∙ branch (is_told_right S t) (count_fault S (line + 1) (map (λ x. Record x.holder x.blocks x.inodes) ts ++ told) (map (holder_row S) (map
      (λ x. x.holder) ts) ++ rows))
      (records_line S (line + 1) ts) line (records-lines small (line + 1) ts told rows typed.1 later)

-- ---- all rows

few : (s : Sections) (S : State) → AreCountsTyped s → total_of S Blocks ≤ s.size → total_of S Inodes ≤ s.most → AreUsesSmall S
few s S typed blocks inodes h Blocks = omega (arith, use-le-total S h.kind h.id Blocks, blocks, typed.size)
few s S typed blocks inodes h Inodes = omega (arith, use-le-total S h.kind h.id Inodes, inodes, typed.most)

counts-state : (limit : ℕ) (s : Sections) → AllByRecursion HasBlocks s.inodes → AreCountsTyped s
    → count_fault (state_of limit s) 2 (section_rows s) (rows_of (state_of limit s)) ≡ bad_count (end_line (state_of limit s) s.records)
counts-state limit s all typed =
    own-row S 2 (Bounds s.size s.most s.next) (Grace s.graces ∷ told) (Grace s.graces ∷ rows)
    ∙ by (is_balanced S (Bounds s.size s.most s.next)) refl
  where
    S : State
    S = state_of limit s

    told : List Row
    told = map (λ t. Record t.holder t.blocks t.inodes) s.records ++ (flat_map part_rows s.inodes ++ map (λ e. Name e.0 e.1) s.names)

    rows : List Row
    rows = map (holder_row S) S.holders ++ (flat_map inode_rows S.inodes ++ map (λ e. Name e.0 e.1) s.names)

    by : (b : Bool) → is_balanced S (Bounds s.size s.most s.next) ≡ b
        → cond b (count_fault S 3 (Grace s.graces ∷ told) (Grace s.graces ∷ rows)) (wrong 2)
        ≡ bad_count (cond b (records_line S 4 s.records) (Some 2))
    by true balanced =
        let bounds = and_parts _ (is_directory S ROOT) balanced in
        let totals = and_parts (nat_le (total_of S Blocks) s.size) (nat_le (total_of S Inodes) s.most) bounds.0 in
        let blocks : total_of S Blocks ≤ s.size = grind (arith, tests, totals.0) in
        let inodes : total_of S Inodes ≤ s.most = grind (arith, tests, totals.1) in
        let names : List Row = map (λ e. Name e.0 e.1) s.names in
        own-row S 3 (Grace s.graces) told rows
        ∙ records-lines S (few s S typed blocks inodes) 4 s.records (flat_map part_rows s.inodes ++ names) (flat_map inode_rows S.inodes ++ names) typed.records
        (λ n. ap (λ l. count_fault S n (flat_map part_rows s.inodes ++ names) (l ++ names)) (parts-back s.inodes all)
        ∙ inodes-lines S n s.inodes names all (λ m. names-right S m s.names))
    by false balanced = refl

-- what is wrong with rows in sections beside all others is told by their lines
pub counts-by-lines : (limit : ℕ) (s : Sections) → AllByRecursion HasBlocks s.inodes → AreCountsTyped s
    → count_fault (made_of limit (section_rows s)) 2 (section_rows s) (rows_of (made_of limit (section_rows s)))
    ≡ bad_count (end_line (made_of limit (section_rows s)) s.records)
counts-by-lines limit s all typed =
    subst (λ S. count_fault S 2 (section_rows s) (rows_of S) ≡ bad_count (end_line S s.records)) (sym (made limit s)) (counts-state limit s all typed)

-- with no row at all, the end stands too early
pub no-rows : (limit : ℕ) → count_fault (made_of limit []) 2 [] (rows_of (made_of limit [])) ≡ Some (record { line = 2; kind = BadOrder })
no-rows limit = refl

-- with the bounds alone there is no root
pub bounds-alone : (limit size most next : ℕ)
    → let S = made_of limit (Bounds size most next ∷ []) in
    count_fault S 2 (Bounds size most next ∷ []) (rows_of S) ≡ Some (record { line = 2; kind = BadCount })
bounds-alone limit size most next =
    let S : State = made_of limit (Bounds size most next ∷ []) in
    own-row S 2 (Bounds size most next) [] (Grace S.graces ∷ [])
    ∙ ap (λ b. cond b (count_fault S 3 [] (Grace S.graces ∷ [])) (wrong 2)) (and-none (nat_le 0 size && nat_le 0 most))
  where
    and-none : (a : Bool) → (a && false) ≡ false
    and-none true = refl
    and-none false = refl
