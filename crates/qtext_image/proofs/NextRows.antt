-- The fault of one row more behind sections, for each kind of row but blocks.
use Rattle.std.proofs.Common.{◌≡◌, ℕ, Bool, true, false, not, ◌&&◌, List, [], ◌∷◌, ◌++◌, map, Some, refl, sym, ap, ◌∙◌}
use Rattle.std.specs.List.{flat_map, list_all, AllByRecursion}
use Rattle.std.specs.Map.{keys_of, values_of}
use Rattle.std.specs.Ordering.{nat_cmp}
use Rattle.std.proofs.lemmas.Bool.{and_parts}
use Rattle.std.proofs.lemmas.List.{length-map}
use Rattle.qrules.specs.declared.graces.Graces.{Graces}
use Rattle.qrules.specs.declared.kind.Kind.TheVariants.{User, Group}
use Rattle.qplain.specs.Principals.{is_principal_name}
use Rattle.qplain.specs.State.{Holder, Inode, NameKey, State, holder_cmp, name_key_cmp}
use Rattle.qplain_laws.specs.Laws.{leads}
use Rattle.qplain_image.specs.Parts.{HolderPart, InodePart, Sections, part_rows, section_rows}
use Rattle.qplain_image.specs.Rows.{Row, Bounds, Grace, Record, Name, with_row}
use Rattle.qplain_image.proofs.Returning.{entry_of, made, parts-back, state_of}
use Rattle.qtext_image.specs.Faults.{BadOrder, are_begun, are_blocks_long, are_numbers_fit, do_lead, fault_in, has_good_names, has_known_owners, holds_nothing, is_begun_kind, is_holder_fit, is_inode_fit, is_ordered, is_path_name}
use Rattle.qtext_image.specs.NextFaults.{are_none, bounds_fault, graces_fault, has_graces, holder_fault, inode_fault, is_behind, is_name_taken, may_hold, may_lead, may_stand, name_fault}
use Rattle.qtext_image.specs.Setups.{is_granted, principal_of, principals_of, setup_of}
use Rattle.qtext_image.proofs.NextHolders.{kinds-end, some-there}
use Rattle.qtext_image.proofs.NextLists.{rise-end}
use Rattle.qtext_image.proofs.NextNames.{name-order, name-tests}
use Rattle.qtext_image.proofs.NextOrder.{begun-more, inode-more, inode-nowhere, name-more, record-more, record-nowhere, too-long}
use Rattle.qtext_image.proofs.NextTests.{IsTold, bounds-told, graces-told, holder-tests, inode-order, inode-tests, long-more, names-none, same-fault, told_size}
use Rattle.qtext_image.proofs.Parted.{HasBlocks, sections-long}
use Rattle.qtext_image.proofs.Prefixes.{name_row, record_row}

pub not-so : (b : Bool) → (b ≡ true → ⊥) → b ≡ false
not-so true never = absurd (never refl)
not-so false never = refl

none-there : {A : Type 0} (xs : List A) → are_none xs ≡ true → xs ≡ []
none-there [] none = refl
none-there (x ∷ xs) none = let some = some-there x xs in cc

-- parts with one more
pub each-end : (ps : List InodePart) (p : InodePart) → AllByRecursion HasBlocks ps → HasBlocks p → AllByRecursion HasBlocks (ps ++ p ∷ [])
each-end [] p all one = (one, tt)
each-end (q ∷ ps) p all one = (all.0, each-end ps p all.1 one)

pub bad-order : (rows : List Row) (T : State) → are_blocks_long 0 rows ≡ true → are_begun rows T ≡ false → fault_in rows T ≡ Some BadOrder
bad-order rows T long none = rw (long, none) refl

hold-tests : (x y : Bool) → (((((x && true) && true) && true) && true) && y) ≡ (x && y)
hold-tests true y = refl
hold-tests false y = refl

holder-order : (S : State) (h : Holder) → IsTold S → S.inodes ≡ []
    → is_ordered (record S { holders = S.holders ++ h ∷ [] })
    ≡ (is_behind holder_cmp S.holders h && is_begun_kind (principals_of h.kind S.holders ++ principal_of h ∷ []))
holder-order S h told none =
    let T : State = record S { holders = S.holders ++ h ∷ [] } in
    let granted : is_granted S.inodes (setup_of T) ≡ true = ap (λ es. is_granted es (setup_of T)) none in
    rw (rise-end holder_cmp S.holders h told.holders_rise, told.numbers_rise, told.names_rise, told.hold, granted, kinds-end S h told.begin)
    (hold-tests (is_behind holder_cmp S.holders h) (is_begun_kind (principals_of h.kind S.holders ++ principal_of h ∷ [])))

none-stands : (u g b : Bool) → false ≡ ((((true && u) && g) && false) && b)
none-stands true true b = refl
none-stands true false b = refl
none-stands false g b = refl

module _ (limit : ℕ) (s : Sections) (blocks : AllByRecursion HasBlocks s.inodes) (told : IsTold (state_of limit s)) where
  abbrev S : State
  S = state_of limit s

  -- the rows behind the graces, with one more
  abbrev more : Row → List Row
  more r = (map record_row s.records ++ (flat_map part_rows s.inodes ++ map name_row s.names)) ++ r ∷ []

  pub begun-here : (new : Sections) (r : Row) → section_rows s ++ r ∷ [] ≡ section_rows new → AllByRecursion HasBlocks new.inodes
      → are_begun (section_rows s ++ r ∷ []) (with_row (state_of limit s) r) ≡ true
  begun-here new r is all = ap (λ T. are_begun (section_rows s ++ r ∷ []) (with_row T r)) (sym (made limit s)) ∙ begun-more limit s new r is all

  long : (r : Row) → ((size : ℕ) → are_blocks_long size (r ∷ []) ≡ true) → are_blocks_long 0 (section_rows s ++ r ∷ []) ≡ true
  long r one = long-more 0 (section_rows s) r (sections-long s blocks) ∙ one (told_size 0 (section_rows s))

  graces : has_graces S ≡ true
  graces = graces-told S told.graces

  pub bounds-next : (size most next : ℕ)
      → fault_in (section_rows s ++ Bounds size most next ∷ []) (with_row (state_of limit s) (Bounds size most next))
      ≡ bounds_fault (state_of limit s) size most next
  bounds-next size most next =
      let r : Row = Bounds size most next in
      bad-order (section_rows s ++ r ∷ []) (with_row S r) (long r (λ n. refl))
      (not-so _ (too-long s (with_row S r) r (length-map s.records (λ t. t.holder)) (parts-back s.inodes blocks) refl))
      ∙ sym (rw (bounds-told S told.bounds) refl)

  pub graces-next : (g : Graces) → fault_in (section_rows s ++ Grace g ∷ []) (with_row (state_of limit s) (Grace g)) ≡ graces_fault (state_of limit s) g
  graces-next g =
      let r : Row = Grace g in
      bad-order (section_rows s ++ r ∷ []) (with_row S r) (long r (λ n. refl))
      (not-so _ (too-long s (with_row S r) r (length-map s.records (λ t. t.holder)) (parts-back s.inodes blocks) refl))
      ∙ sym (rw (bounds-told S told.bounds, graces) refl)

  pub record-next : (h : Holder) (b i : ℕ)
      → fault_in (section_rows s ++ Record h b i ∷ []) (with_row (state_of limit s) (Record h b i)) ≡ holder_fault (state_of limit s) h
  record-next h b i =
      same-fault (are_blocks_long 0 rows) (are_begun rows T && is_ordered T) (are_numbers_fit rows T) (has_good_names T)
      (list_all (has_known_owners T) (values_of T.inodes)) (do_lead T)
      true (may_hold S h) (is_holder_fit h) (is_principal_name h.name && not (is_name_taken S h)) true true
      (long (Record h b i) (λ n. refl)) (λ same. order s.inodes refl)
      (λ same may.
      let behind = and_parts _ (is_begun_kind (principals_of h.kind S.holders ++ principal_of h ∷ [])) may in
      let none = and_parts _ (is_behind holder_cmp S.holders h) behind.0 in
      let free : S.inodes ≡ [] = none-there S.inodes (and_parts (has_graces S) (are_none S.inodes) none.0).1 in
      holder-tests S (Bounds s.size s.most s.next) (Grace s.graces) (more (Record h b i)) h told free (names-none S told.lead free) none.1)
    where
      t : HolderPart
      t = record { holder = h; blocks = b; inodes = i }

      rows : List Row
      rows = section_rows s ++ Record h b i ∷ []

      T : State
      T = with_row S (Record h b i)

      order : (ps : List InodePart) → s.inodes ≡ ps → (are_begun rows T && is_ordered T) ≡ may_hold S h
      order [] is =
          let none : S.inodes ≡ [] = ap (map entry_of) is in
          let free : s.names ≡ [] = names-none S told.lead none in
          let begun : are_begun rows T ≡ true =
          begun-here (record s { records = s.records ++ t ∷ [] }) (Record h b i) (record-more s t s.inodes s.names is free) blocks in
          let empty : are_none S.inodes ≡ true = ap (λ (l : List (ℕ × Inode)). are_none l) none in
          rw (begun, graces, empty) (holder-order S h told none)
      order (p ∷ ps) is =
          let nowhere : are_begun rows T ≡ false = not-so (are_begun rows T) (record-nowhere limit s t p ps is) in
          let some : are_none S.inodes ≡ false = ap (λ (l : List InodePart). are_none (map entry_of l)) is ∙ some-there (entry_of p) (map entry_of ps) in
          rw (nowhere, graces, some) refl

  pub inode-next : (p : InodePart) (e : ℕ × Inode) (r : Row) → part_rows p ≡ r ∷ [] → HasBlocks p → holds_nothing e.1 ≡ true
      → ((size : ℕ) → are_blocks_long size (r ∷ []) ≡ true)
      → with_row (state_of limit s) r ≡ record (state_of limit s) { inodes = map entry_of s.inodes ++ e ∷ [] }
      → fault_in (section_rows s ++ r ∷ []) (with_row (state_of limit s) r) ≡ inode_fault (state_of limit s) e
  inode-next p e r row has holds one is =
      ap (fault_in rows) is
      ∙ same-fault (are_blocks_long 0 rows) (are_begun rows T && is_ordered T) (are_numbers_fit rows T) (has_good_names T)
      (list_all (has_known_owners T) (values_of T.inodes)) (do_lead T)
      true (may_stand S e.0) (is_inode_fit S e) true (has_known_owners S e.1) true
      (long r one) (λ same. order s.names refl)
      (λ same may.
      let behind = and_parts _ (is_behind nat_cmp (keys_of S.inodes) e.0) may in
      let none = and_parts _ (are_none S.names) behind.0 in
      inode-tests S (Bounds s.size s.most s.next) (Grace s.graces) (more r) e told (none-there S.names none.1))
    where
      rows : List Row
      rows = section_rows s ++ r ∷ []

      T : State
      T = record S { inodes = S.inodes ++ e ∷ [] }

      order : (names : List (NameKey × ℕ)) → s.names ≡ names → (are_begun rows T && is_ordered T) ≡ may_stand S e.0
      order [] free =
          let begun : are_begun rows T ≡ true =
          ap (are_begun rows) (sym is)
          ∙ begun-here (record s { inodes = s.inodes ++ p ∷ [] }) r (ap (λ l. section_rows s ++ l) (sym row) ∙ inode-more s p s.names free)
          (each-end s.inodes p blocks has) in
          let empty : are_none S.names ≡ true = ap (λ (l : List (NameKey × ℕ)). are_none l) free in
          rw (begun, graces, empty) (inode-order S e told holds)
      order (x ∷ xs) names =
          let nowhere : are_begun rows T ≡ false = not-so (are_begun rows T) (inode-nowhere limit s e r x xs blocks names) in
          let some : are_none S.names ≡ false = ap (λ (l : List (NameKey × ℕ)). are_none l) names ∙ some-there x xs in
          rw (nowhere, graces, some)
          (none-stands (not (are_none (principals_of User S.holders))) (not (are_none (principals_of Group S.holders))) (is_behind nat_cmp
          (keys_of S.inodes) e.0))

  pub name-next : (key : NameKey) (number : ℕ)
      → fault_in (section_rows s ++ Name key number ∷ []) (with_row (state_of limit s) (Name key number)) ≡ name_fault (state_of limit s) key number
  name-next key number =
      let rows : List Row = section_rows s ++ Name key number ∷ [] in
      let T : State = with_row S (Name key number) in
      let begun : are_begun rows T ≡ true =
      begun-here (record s { names = s.names ++ (key, number) ∷ [] }) (Name key number) (name-more s (key, number)) blocks in
      let order : (are_begun rows T && is_ordered T) ≡ (has_graces S && is_behind name_key_cmp (keys_of S.names) key) =
      rw (begun, graces) (name-order S key number told) in
      same-fault (are_blocks_long 0 rows) (are_begun rows T && is_ordered T) (are_numbers_fit rows T) (has_good_names T)
      (list_all (has_known_owners T) (values_of T.inodes)) (do_lead T)
      true (has_graces S && is_behind name_key_cmp (keys_of S.names) key) true (is_path_name key.1) true (leads S (key, number) && may_lead S key.0 number)
      (long (Name key number) (λ n. refl)) (λ same. order)
      (λ same may. name-tests S key number (Bounds s.size s.most s.next) (Grace s.graces) (more (Name key number)) told)
