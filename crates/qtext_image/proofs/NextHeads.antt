-- The fault of the first row, and of one behind the bounds.
use Rattle.std.proofs.Common.{◌≡◌, ℕ, ◌+◌, true, false, not, ◌&&◌, nat_le, List, [], ◌∷◌, Some, refl, sym, ◌∙◌}
use Rattle.std.specs.List.{list_all}
use Rattle.std.specs.Map.{values_of}
use Rattle.std.specs.Ordering.{nat_cmp}
use Rattle.std.proofs.lemmas.Bool.{and_parts}
use Rattle.qrules.specs.declared.graces.Graces.{Graces}
use Rattle.qrules.specs.declared.kind.Kind.{Kind}
use Rattle.qrules.specs.declared.kind.Kind.TheVariants.{User, Group, Project}
use Rattle.qrules.specs.Range.{are_graces_in_range}
use Rattle.qblocks.specs.File.{begins_below, empty_file}
use Rattle.qplain.specs.declared.bounds.TheConstants.{MAX_NUMBER}
use Rattle.qplain.specs.State.{Holder, State}
use Rattle.qplain_image.specs.Parts.{Sections}
use Rattle.qplain_image.specs.Rows.{Row, Bounds, Grace, Record, Directory, FileHead, Block, Name, blank, with_row}
use Rattle.qtext_image.specs.Faults.{BadOrder, are_begun, are_blocks_long, are_bounds_fit, are_numbers_fit, do_lead, fault_in, has_good_names, has_known_owners, is_ordered, is_same_row, untold}
use Rattle.qtext_image.specs.NextFaults.{block_fault, bounds_fault, graces_fault, has_bounds, has_graces, is_behind, is_block_long, next_fault}
use Rattle.qtext_image.proofs.NextLists.{and-true}
use Rattle.qtext_image.proofs.NextRows.{bad-order, not-so}
use Rattle.qtext_image.proofs.NextTests.{bounds-told, same-fault}
use Rattle.qtext_image.proofs.Ordered.{bounds-in_order, sections-in_order}
use Rattle.qtext_image.proofs.NextSwaps.{begins-none}

-- ---- the first row

first-nowhere : (limit : ℕ) (r : Row) → are_begun (r ∷ []) (with_row (blank limit) r) ≡ false → are_blocks_long 0 (r ∷ []) ≡ true
    → next_fault (blank limit) r ≡ Some BadOrder → fault_in (r ∷ []) (with_row (blank limit) r) ≡ next_fault (blank limit) r
first-nowhere limit r none long is = bad-order (r ∷ []) (with_row (blank limit) r) long none ∙ sym is

-- a holder is no bounds and no graces
pub not-first : (limit : ℕ) (h : Holder) (b i : ℕ) → are_begun (Record h b i ∷ []) (with_row (blank limit) (Record h b i)) ≡ false
not-first limit h b i = by h.kind refl
  where
    by : (kind : Kind) → h.kind ≡ kind → are_begun (Record h b i ∷ []) (with_row (blank limit) (Record h b i)) ≡ false
    by User is = rw is refl
    by Group is = rw is refl
    by Project is = rw is refl

-- a block behind no inode
block-nowhere : (rows : List Row) (T : State) (b : ℕ × List ℕ) → are_begun rows T ≡ false → are_blocks_long 0 rows ≡ is_block_long 0 b
    → fault_in rows T ≡ block_fault empty_file b
block-nowhere rows T b none long =
    let last : (begins_below 0 b.0 && is_behind nat_cmp [] b.0) ≡ false = rw (begins-none b.0) refl in
    same-fault (are_blocks_long 0 rows) (are_begun rows T && is_ordered T) (are_numbers_fit rows T) (has_good_names T)
    (list_all (has_known_owners T) (values_of T.inodes)) (do_lead T)
    (is_block_long 0 b) (begins_below 0 b.0 && is_behind nat_cmp [] b.0) true true true true
    long (λ same. rw (none, last) refl) (λ same so. absurd (cc (sym so ∙ last)))

first-bounds : (limit size most next : ℕ)
    → fault_in (Bounds size most next ∷ []) (with_row (blank limit) (Bounds size most next)) ≡ bounds_fault (blank limit) size most next
first-bounds limit size most next =
    let rows : List Row = Bounds size most next ∷ [] in
    let T : State = with_row (blank limit) (Bounds size most next) in
    same-fault (are_blocks_long 0 rows) (are_begun rows T && is_ordered T) (are_numbers_fit rows T) (has_good_names T)
    (list_all (has_known_owners T) (values_of T.inodes)) (do_lead T)
    true true (are_bounds_fit T && nat_le next (MAX_NUMBER + 1)) true true true
    refl (λ same. rw (bounds-in_order limit size most next) refl)
    (λ same so. (and-true _ ∙ and-true _ ∙ and-true _, refl, refl, refl))

pub first-next : (limit : ℕ) (r : Row) → fault_in (r ∷ []) (with_row (blank limit) r) ≡ next_fault (blank limit) r
first-next limit (Bounds size most next) = first-bounds limit size most next
first-next limit (Grace g) = first-nowhere limit (Grace g) refl refl refl
first-next limit (Record h b i) = first-nowhere limit (Record h b i) (not-first limit h b i) refl refl
first-next limit (Directory number owners) = first-nowhere limit (Directory number owners) refl refl refl
first-next limit (FileHead number owners size) = first-nowhere limit (FileHead number owners size) refl refl refl
first-next limit (Block b) = block-nowhere (Block b ∷ []) (with_row (blank limit) (Block b)) b refl (and-true (is_block_long 0 b))
first-next limit (Name key number) = first-nowhere limit (Name key number) refl refl refl

-- ---- the second row

-- what is none of graces does not stand second
pub not-second : (T : State) (bounds r : Row) → is_same_row (untold r) (Grace T.graces) ≡ false → are_begun (bounds ∷ r ∷ []) T ≡ true → ⊥
not-second T bounds r other begun =
    let behind = and_parts (is_same_row (untold bounds) (Bounds T.size T.most_inodes T.next)) _ begun in
    let same : is_same_row (untold r) (Grace T.graces) ≡ true = (and_parts (is_same_row (untold r) (Grace T.graces)) _ behind.1).0 in
    absurd (cc (sym same ∙ other))

-- a holder is none
pub no-graces : (g : Graces) (h : Holder) → is_same_row (Record h 0 0) (Grace g) ≡ false
no-graces g h = by h.kind refl
  where
    by : (kind : Kind) → h.kind ≡ kind → is_same_row (Record h 0 0) (Grace g) ≡ false
    by User is = rw is refl
    by Group is = rw is refl
    by Project is = rw is refl

module _ (limit size most next : ℕ) where
  -- the state that the bounds make
  abbrev B : State
  B = with_row (blank limit) (Bounds size most next)

  abbrev two : Row → List Row
  two r = Bounds size most next ∷ r ∷ []

  -- what stands where the graces should
  second-nowhere : (r : Row) → is_same_row (untold r) (Grace (with_row (with_row (blank limit) (Bounds size most next)) r).graces) ≡ false
      → are_blocks_long 0 (r ∷ []) ≡ true → next_fault (with_row (blank limit) (Bounds size most next)) r ≡ Some BadOrder
      → fault_in (Bounds size most next ∷ r ∷ []) (with_row (with_row (blank limit) (Bounds size most next)) r)
      ≡ next_fault (with_row (blank limit) (Bounds size most next)) r
  second-nowhere r other long is =
      bad-order (two r) (with_row B r) long (not-so (are_begun (two r) (with_row B r)) (not-second (with_row B r) (Bounds size most next) r other)) ∙ sym is

  second-grace : (g : Graces) → has_bounds B ≡ true → are_bounds_fit B ≡ true → nat_le next (MAX_NUMBER + 1) ≡ true
      → fault_in (two (Grace g)) (with_row B (Grace g)) ≡ graces_fault B g
  second-grace g bounds fit few =
      let s : Sections = record { size = size; most = most; next = next; graces = g; records = []; inodes = []; names = [] } in
      let T : State = with_row B (Grace g) in
      let begun : are_begun (two (Grace g)) T ≡ true = sections-in_order limit s tt in
      same-fault (are_blocks_long 0 (two (Grace g))) (are_begun (two (Grace g)) T && is_ordered T) (are_numbers_fit (two (Grace g)) T) (has_good_names T)
      (list_all (has_known_owners T) (values_of T.inodes)) (do_lead T)
      true (has_bounds B && not (has_graces B)) (are_graces_in_range g) true true true
      refl (λ same. rw (begun, bounds) refl)
      (λ same so. (rw (fit, few) (and-true _ ∙ and-true _), refl, refl, refl))

  pub second-next : (r : Row) → are_bounds_fit B ≡ true → nat_le next (MAX_NUMBER + 1) ≡ true → fault_in (two r) (with_row B r) ≡ next_fault B r
  second-next (Bounds a b c) fit few =
      second-nowhere (Bounds a b c) refl refl (rw (bounds-told B fit) refl)
  second-next (Grace g) fit few = second-grace g (bounds-told B fit) fit few
  second-next (Record h b i) fit few = second-nowhere (Record h b i) (no-graces _ h) refl refl
  second-next (Directory number owners) fit few = second-nowhere (Directory number owners) refl refl refl
  second-next (FileHead number owners told) fit few = second-nowhere (FileHead number owners told) refl refl refl
  second-next (Block b) fit few =
      block-nowhere (two (Block b)) (with_row B (Block b)) b (not-so (are_begun (two (Block b)) (with_row B (Block b))) (not-second (with_row B
      (Block b)) (Bounds size most next) (Block b) refl)) (and-true (is_block_long 0 b))
  second-next (Name key number) fit few = second-nowhere (Name key number) refl refl refl
