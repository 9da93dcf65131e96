-- The fault of one block more behind sections.
use Rattle.std.proofs.Common.{◌≡◌, ◌⊎◌, ℕ, ◌<◌, ◌^◌, Bool, true, false, ◌&&◌, List, [], ◌∷◌, ◌++◌, map, inl, inr, refl, sym, ap, subst, ◌∙◌, append_assoc, arith}
use Rattle.std.specs.List.{flat_map, list_all, starts_with, AllByRecursion}
use Rattle.std.specs.Map.{values_of}
use Rattle.std.specs.Ordering.{nat_cmp}
use Rattle.std.proofs.lemmas.Bool.{and_parts}
use Rattle.std.proofs.lemmas.List.{length-map}
use Rattle.qblocks.specs.File.{File, begins_below, empty_file, size_of}
use Rattle.qplain.specs.declared.owners.Owners.{Owners}
use Rattle.qplain.specs.State.{Inode, NameKey, State}
use Rattle.qplain_image.specs.Blocks.{IsBlockOf, blocks_in, refilled, with_block}
use Rattle.qplain_image.specs.Parts.{InodePart, Sections, part_rows, section_rows}
use Rattle.qplain_image.specs.Rows.{Row, Bounds, Grace, Directory, FileHead, Block, inode_rows, with_last_block, with_row}
use Rattle.qplain_image.proofs.GivingBack.{blocks_are_given_back}
use Rattle.qplain_image.proofs.Returning.{entry_of, file_by, state_of}
use Rattle.qtext.proofs.Joining.{and_both}
use Rattle.qtext_image.specs.Faults.{are_begun, are_blocks_long, are_numbers_fit, do_lead, fault_in, has_good_names, has_known_owners, is_ordered, is_same_row, untold}
use Rattle.qtext_image.specs.NextFaults.{block_fault, is_behind, is_block_long, last_file, open_file}
use Rattle.qtext_image.proofs.NextBlocks.{allocated-are, block-not-name, block-of, block-stands, blocks-end, last-block, last-file, size-kept}
use Rattle.qtext_image.proofs.NextLists.{and-true, both-ways, last-of, map-end}
use Rattle.qtext_image.proofs.NextOrder.{inode-more, inodes-behind, too-long}
use Rattle.qtext_image.proofs.NextRows.{begun-here, each-end, not-so}
use Rattle.qtext_image.proofs.NextTests.{IsTold, long-more, names-none, same-fault, told_size}
use Rattle.qtext_image.proofs.Parted.{HasBlocks, sections-long}
use Rattle.qtext_image.proofs.Prefixes.{flat_map-end, name_row, part_of, record_row}
use Rattle.qtext_image.proofs.NextSwaps.{told-append, told-blocks, told-sections, names-shorter, begins-none, first-parts, open-none, open-last, swap-order, swap-tests, size-fits, told-names}

-- with this row they are rows of other sections
abbrev pub Grows : Sections → Row → Type 0
Grows s r = (new : Sections) × (section_rows s ++ r ∷ [] ≡ section_rows new) × AllByRecursion HasBlocks new.inodes

module _ (limit : ℕ) (s : Sections) (blocks : AllByRecursion HasBlocks s.inodes) (told : IsTold (state_of limit s)) (b : ℕ × List ℕ) where
  abbrev U : State
  U = state_of limit s

  abbrev rows : List Row
  rows = section_rows s ++ Block b ∷ []

  -- the fault, and the sections that the rows are where they begin those of their state
  abbrev Next : Type 0
  Next =
      (fault_in (section_rows s ++ Block b ∷ []) (with_row (state_of limit s) (Block b)) ≡ block_fault (open_file (state_of limit s)) b)
      × (are_blocks_long 0 (section_rows s ++ Block b ∷ []) ≡ true → are_begun (section_rows s ++ Block b ∷ []) (with_row (state_of limit s) (Block b)) ≡ true
      → Grows s (Block b))

  -- the lengths of blocks
  long : are_blocks_long 0 rows ≡ is_block_long (told_size 0 (section_rows s)) b
  long = long-more 0 (section_rows s) (Block b) (sections-long s blocks) ∙ and-true (is_block_long (told_size 0 (section_rows s)) b)

  -- where no file is open
  unopened : told_size 0 (section_rows s) ≡ 0 → open_file U ≡ empty_file → (are_begun rows (with_row U (Block b)) ≡ true → ⊥) → Next
  unopened none empty never =
      let V : State = with_row U (Block b) in
      let nowhere : are_begun rows V ≡ false = not-so (are_begun rows V) never in
      let last : (begins_below 0 b.0 && is_behind nat_cmp [] b.0) ≡ false = rw (begins-none b.0) refl in (
        same-fault (are_blocks_long 0 rows) (are_begun rows V && is_ordered V) (are_numbers_fit rows V) (has_good_names V)
            (list_all (has_known_owners V) (values_of V.inodes)) (do_lead V)
            (is_block_long 0 b) (begins_below 0 b.0 && is_behind nat_cmp [] b.0) true true true true
            (long ∙ ap (λ n. is_block_long n b) none) (λ same. rw (nowhere, last) refl) (λ same so. absurd (cc (sym so ∙ last)))
            ∙ sym (ap (λ file. block_fault file b) empty),
        (λ fits begun. absurd (never begun)),
      )

  -- behind no inode
  block-first : s.inodes ≡ [] → Next
  block-first is =
      let none : U.inodes ≡ [] = ap (map entry_of) is in
      let free : U.names ≡ [] = names-none U told.lead none in
      unopened
      (told-sections s ∙ (λ i. told_size (told_size 0 (flat_map part_rows (is i))) (map name_row (free i))))
      (λ i. open_file (record U { inodes = none i; names = free i }))
      (too-long s (with_row U (Block b)) (Block b) (length-map s.records (λ t. t.holder))
      ((λ i. flat_map inode_rows (with_last_block b (none i))) ∙ sym (ap (flat_map part_rows) is)) refl)

  -- behind this one
  module _ (init : List InodePart) (number : ℕ) (owners : Owners) (size : ℕ) (bs : List (ℕ × List ℕ)) where
    abbrev part : Bool → InodePart
    part dir = part_of dir number owners size bs

    abbrev swapped : Bool → ℕ × Inode
    swapped dir = (number, record { dir = dir; owners = owners; file = with_block (file_by dir size bs) b })

    swapped-are : (dir : Bool) → s.inodes ≡ init ++ part dir ∷ [] → with_last_block b U.inodes ≡ map entry_of init ++ swapped dir ∷ []
    swapped-are dir is =
        ap (λ ps. with_last_block b (map entry_of ps)) is ∙ ap (with_last_block b) (map-end entry_of init (part dir))
        ∙ last-block b (map entry_of init) (entry_of (part dir))

    -- what the rows begin with behind the other inodes
    behind-all : (dir : Bool) → s.inodes ≡ init ++ part dir ∷ [] → are_begun rows (with_row U (Block b)) ≡ true
        → starts_with is_same_row (map untold (inode_rows (swapped dir) ++ map name_row s.names)) (map untold (part_rows (part dir) ++
        (map name_row s.names ++ Block b ∷ []))) ≡ true
    behind-all dir is begun =
        let head : List Row = Bounds s.size s.most s.next ∷ Grace s.graces ∷ [] in
        let names : List Row = map name_row s.names in
        inodes-behind s init (with_row U (Block b)) (swapped dir) rows (part_rows (part dir) ++ (names ++ Block b ∷ []))
        (first-parts init (part dir) (subst (AllByRecursion HasBlocks) is blocks)).0
        (swapped-are dir is) (length-map s.records (λ t. t.holder))
        (ap (λ l. head ++ l) (append_assoc (map record_row s.records) _ (Block b ∷ []) ∙ ap (λ l. map record_row s.records ++ l)
        (append_assoc (flat_map part_rows s.inodes) names (Block b ∷ []) ∙ ap (λ l. l ++ (names ++ Block b ∷ [])) (ap (flat_map part_rows) is
        ∙ flat_map-end init (part dir))
        ∙ append_assoc (flat_map part_rows init) (part_rows (part dir)) (names ++ Block b ∷ []))))
        begun

    told-inodes : (dir : Bool) → s.inodes ≡ init ++ part dir ∷ []
        → told_size 0 (flat_map part_rows s.inodes) ≡ told_size (told_size 0 (flat_map part_rows init)) (part_rows (part dir))
    told-inodes dir is =
        ap (told_size 0) (ap (flat_map part_rows) is ∙ flat_map-end init (part dir)) ∙ told-append 0 (flat_map part_rows init) (part_rows (part dir))

    last-is : (dir : Bool) → s.inodes ≡ init ++ part dir ∷ [] → last_file U.inodes ≡ file_by dir size bs
    last-is dir is = ap (λ ps. last_file (map entry_of ps)) is ∙ ap last_file (map-end entry_of init (part dir))
        ∙ last-file (map entry_of init) (entry_of (part dir))

    open-is : (dir : Bool) → s.inodes ≡ init ++ part dir ∷ [] → file_by dir size bs ≡ empty_file → open_file U ≡ empty_file
    open-is dir is empty = by s.names refl
      where
        by : (names : List (NameKey × ℕ)) → s.names ≡ names → open_file U ≡ empty_file
        by [] free = open-last U free ∙ last-is dir is ∙ empty
        by (x ∷ xs) names = open-none U x xs names

    -- a directory
    block-dir : s.inodes ≡ init ++ part true ∷ [] → Next
    block-dir is =
        unopened (told-sections s ∙ ap (λ n. told_size n (map name_row s.names)) (told-inodes true is) ∙ told-names s.names)
        (open-is true is refl)
        (λ begun. names-shorter (map name_row s.names) (Block b)
        (and_parts (is_same_row (Directory number owners) (Directory number owners)) _ (behind-all true is begun)).1)

    -- a file, behind which a name stands
    block-named : s.inodes ≡ init ++ part false ∷ [] → (x : NameKey × ℕ) (xs : List (NameKey × ℕ)) → s.names ≡ x ∷ xs
        → Next
    block-named is x xs names =
        let g : File = with_block (refilled size bs) b in
        unopened (told-sections s ∙ ap (λ es. told_size (told_size 0 (flat_map part_rows s.inodes)) (map name_row es)) names ∙ told-names xs)
        (open-none U x xs names)
        (λ begun.
        let same = subst (λ es. starts_with is_same_row (map untold (inode_rows (swapped false) ++ map name_row es)) (map untold (part_rows
        (part false) ++ (map name_row es ++ Block b ∷ []))) ≡ true)
        names (behind-all false is begun) in
        block-not-name (blocks_in g) bs x xs b (and_parts (is_same_row (FileHead number owners size) (FileHead number owners (size_of g))) _ same).1)

    -- a file that is open
    block-open : limit < 2 ^ 64 → b.0 < 2 ^ 64 → s.inodes ≡ init ++ part false ∷ [] → s.names ≡ []
        → Next
    block-open small low is free = (
      ap (λ es. fault_in rows (record U { inodes = es })) (swapped-are false is)
          ∙ same-fault (are_blocks_long 0 rows) (are_begun rows V && is_ordered V) (are_numbers_fit rows V) (has_good_names V)
          (list_all (has_known_owners V) (values_of V.inodes)) (do_lead V)
          (is_block_long (size_of f) b) (begins_below (size_of f) b.0 && is_behind nat_cmp f.allocated b.0) true true true true
          (long ∙ ap (λ n. is_block_long n b) (told-size ∙ sym back.0))
          (λ fits. both-ways (are_begun rows V && is_ordered V) (begins_below (size_of f) b.0 && is_behind nat_cmp f.allocated b.0)
          (λ so. stands (and_parts (are_begun rows V) (is_ordered V) so).0) (λ may. begun-so fits may))
          (λ fits may. swap-tests U told (map entry_of init) number owners f g own (kept fits may) free (Bounds s.size s.most s.next) (Grace s.graces)
          ((map record_row s.records ++ (flat_map part_rows s.inodes ++ map name_row s.names)) ++ Block b ∷ []))
          ∙ sym (ap (λ file. block_fault file b) (open-last U free ∙ last-is false is)),
      (λ fits begun.
          let may = stands (ap (λ es. are_begun rows (record U { inodes = es })) (sym (swapped-are false is)) ∙ begun) in
          let long_too : is_block_long (size_of f) b ≡ true = sym (long ∙ ap (λ n. is_block_long n b) (told-size ∙ sym back.0)) ∙ fits in
          (record s { inodes = init ++ more ∷ [] }, rows-are, each-end init more both.0 (has long_too may))),
    )
      where
        f : File
        f = refilled size bs

        g : File
        g = with_block f b

        V : State
        V = record U { inodes = map entry_of init ++ swapped false ∷ [] }

        both : AllByRecursion HasBlocks init × HasBlocks (part false)
        both = first-parts init (part false) (subst (AllByRecursion HasBlocks) is blocks)

        back : (size_of f ≡ size) × (blocks_in f ≡ bs)
        back = blocks_are_given_back size bs both.1

        own : U.inodes ≡ map entry_of init ++ (number, record { dir = false; owners = owners; file = f }) ∷ []
        own = ap (map entry_of) is ∙ map-end entry_of init (part false)

        told-size : told_size 0 (section_rows s) ≡ size
        told-size =
            told-sections s ∙ ap (λ es. told_size (told_size 0 (flat_map part_rows s.inodes)) (map name_row es)) free ∙ told-inodes false is
            ∙ told-blocks size bs

        size-small : size < 2 ^ 64
        size-small = subst (λ n. n < 2 ^ 64) back.0 (size-fits U told (map entry_of init) number owners f f own refl free limit refl small)

        allocated : f.allocated ≡ map (λ c. c.0) bs
        allocated = allocated-are f bs back.1

        stands : are_begun rows V ≡ true → (begins_below (size_of f) b.0 && is_behind nat_cmp f.allocated b.0) ≡ true
        stands begun =
            let begins = behind-all false is (ap (λ es. are_begun rows (record U { inodes = es })) (swapped-are false is) ∙ begun) in
            let bare = subst (λ es. starts_with is_same_row (map untold (inode_rows (swapped false) ++ map name_row es)) (map untold (part_rows
            (part false) ++ (map name_row es ++ Block b ∷ []))) ≡ true)
            free begins in
            let so = block-stands number owners size bs b size-small low both.1 back.0 bare in
            and_both (begins_below (size_of f) b.0) (is_behind nat_cmp f.allocated b.0)
            (ap (λ n. begins_below n b.0) back.0 ∙ so.0) (ap (λ ks. is_behind nat_cmp ks b.0) allocated ∙ so.1)

        block : is_block_long (size_of f) b ≡ true → (begins_below (size_of f) b.0 && is_behind nat_cmp f.allocated b.0) ≡ true → IsBlockOf (size_of f) b
        block fits may = block-of (size_of f) b fits (and_parts (begins_below (size_of f) b.0) (is_behind nat_cmp f.allocated b.0) may).0

        kept : is_block_long (size_of f) b ≡ true → (begins_below (size_of f) b.0 && is_behind nat_cmp f.allocated b.0) ≡ true → size_of g ≡ size_of f
        kept fits may = size-kept f b (block fits may)

        more : InodePart
        more = part_of false number owners size (bs ++ b ∷ [])

        front : Sections
        front = record s { inodes = init }

        rows-are : section_rows s ++ Block b ∷ [] ≡ section_rows (record s { inodes = init ++ more ∷ [] })
        rows-are =
            ap (λ ps. section_rows (record s { inodes = ps }) ++ Block b ∷ []) is
            ∙ ap (λ l. l ++ Block b ∷ []) (sym (inode-more front (part false) s.names free))
            ∙ append_assoc (section_rows front) (part_rows (part false)) (Block b ∷ [])
            ∙ ap (λ l. section_rows front ++ FileHead number owners size ∷ l) (sym (map-end (λ (c : ℕ × List ℕ). Block c) bs b))
            ∙ inode-more front more s.names free

        has : is_block_long (size_of f) b ≡ true → (begins_below (size_of f) b.0 && is_behind nat_cmp f.allocated b.0) ≡ true → HasBlocks more
        has fits may =
            let behind = (and_parts (begins_below (size_of f) b.0) (is_behind nat_cmp f.allocated b.0) may).1 in
            blocks-end size 0 bs b both.1 (omega arith) (subst (λ n. IsBlockOf n b) back.0 (block fits may)) (ap (λ ks. is_behind nat_cmp ks b.0)
            (sym allocated) ∙ behind)

        begun-so : is_block_long (size_of f) b ≡ true → (begins_below (size_of f) b.0 && is_behind nat_cmp f.allocated b.0) ≡ true
            → (are_begun rows V && is_ordered V) ≡ true
        begun-so fits may =
            and_both (are_begun rows V) (is_ordered V)
            (ap (λ es. are_begun rows (record U { inodes = es })) (sym (swapped-are false is))
            ∙ begun-here limit s blocks told (record s { inodes = init ++ more ∷ [] }) (Block b) rows-are (each-end init more both.0 (has fits may)))
            (swap-order U told (map entry_of init) number owners f g own (kept fits may) free)

  -- behind any sections
  pub block-next : limit < 2 ^ 64 → b.0 < 2 ^ 64
      → (fault_in (section_rows s ++ Block b ∷ []) (with_row (state_of limit s) (Block b)) ≡ block_fault (open_file (state_of limit s)) b)
      × (are_blocks_long 0 (section_rows s ++ Block b ∷ []) ≡ true → are_begun (section_rows s ++ Block b ∷ []) (with_row (state_of limit s) (Block b)) ≡ true
      → Grows s (Block b))
  block-next small low = by (last-of s.inodes)
    where
      on : (init : List InodePart) (p : InodePart) (dir : Bool) → p.dir ≡ dir → s.inodes ≡ init ++ p ∷ [] → (names : List (NameKey × ℕ)) → s.names ≡ names
          → Next
      on init p true dir is names told =
          block-dir init p.number p.owners p.size p.blocks (is ∙ (λ i. init ++ part_of (dir i) p.number p.owners p.size p.blocks ∷ []))
      on init p false dir is [] free =
          block-open init p.number p.owners p.size p.blocks small low (is ∙ (λ i. init ++ part_of (dir i) p.number p.owners p.size p.blocks ∷ [])) free
      on init p false dir is (x ∷ xs) names =
          block-named init p.number p.owners p.size p.blocks (is ∙ (λ i. init ++ part_of (dir i) p.number p.owners p.size p.blocks ∷ [])) x xs names

      by : (s.inodes ≡ []) ⊎ ((init : List InodePart) × (p : InodePart) × (s.inodes ≡ init ++ p ∷ [])) → Next
      by (inl none) = block-first none
      by (inr some) = on some.0 some.1 some.1.dir refl some.2 s.names refl
