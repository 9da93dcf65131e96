-- A file in the place of another, and the sizes that rows tell of.
use Rattle.std.proofs.Common.{◌≡◌, ℕ, ◌<◌, ◌^◌, Bool, true, false, ◌&&◌, cond, nat_le, nat_lt, List, [], ◌∷◌, ◌++◌, map, refl, sym, ap, ◌∙◌, arith, tests}
use Rattle.std.specs.List.{flat_map, list_all, starts_with, AllByRecursion}
use Rattle.std.specs.Map.{keys_of, values_of}
use Rattle.std.specs.Ordering.{nat_cmp}
use Rattle.std.proofs.lemmas.Bool.{and_parts}
use Rattle.std.proofs.lemmas.List.{length-append, length-map}
use Rattle.std.proofs.lemmas.List.Folds.{list_all-append}
use Rattle.qblocks.specs.File.{File, begins_below, empty_file, size_of}
use Rattle.qplain.specs.declared.owners.Owners.{Owners}
use Rattle.qplain.specs.State.{Inode, NameKey, State}
use Rattle.qplain_image.specs.Parts.{HolderPart, InodePart, Sections, part_rows, section_rows}
use Rattle.qplain_image.specs.Rows.{Row, Bounds, Grace, Record, Directory, FileHead, Block, Name}
use Rattle.qtext_image.specs.Faults.{are_numbers_fit, do_lead, do_rise, has_good_names, has_known_owners, holds_nothing, is_inode_fit, is_ordered, is_same_row, untold}
use Rattle.qtext_image.specs.NextFaults.{are_none, last_file, open_file}
use Rattle.qtext_image.specs.Setups.{is_granted, setup_of}
use Rattle.qtext_image.proofs.Links.{few-links, few-named}
use Rattle.qtext_image.proofs.NextHolders.{some-there}
use Rattle.qtext_image.proofs.NextLists.{and-true, map-end, starts-longer}
use Rattle.qtext_image.proofs.NextTests.{IsTold, granted-end, told_size}
use Rattle.qtext_image.proofs.Parted.{HasBlocks}
use Rattle.qtext_image.proofs.Prefixes.{name_row, record_row}

-- ---- the size that rows tell of last

pub told-append : (size : ℕ) (xs ys : List Row) → told_size size (xs ++ ys) ≡ told_size (told_size size xs) ys
told-append size [] ys = refl
told-append size (FileHead number owners told ∷ xs) ys = told-append told xs ys
told-append size (Block b ∷ xs) ys = told-append size xs ys
told-append size (Bounds a b c ∷ xs) ys = told-append 0 xs ys
told-append size (Grace g ∷ xs) ys = told-append 0 xs ys
told-append size (Record h b i ∷ xs) ys = told-append 0 xs ys
told-append size (Directory number owners ∷ xs) ys = told-append 0 xs ys
told-append size (Name key number ∷ xs) ys = told-append 0 xs ys

pub told-names : (es : List (NameKey × ℕ)) → told_size 0 (map name_row es) ≡ 0
told-names [] = refl
told-names (e ∷ es) = told-names es

pub told-blocks : (size : ℕ) (bs : List (ℕ × List ℕ)) → told_size size (map (λ b. Block b) bs) ≡ size
told-blocks size [] = refl
told-blocks size (b ∷ bs) = told-blocks size bs

pub told-sections : (s : Sections) → told_size 0 (section_rows s) ≡ told_size (told_size 0 (flat_map part_rows s.inodes)) (map name_row s.names)
told-sections s =
    told-append 0 (map record_row s.records) (flat_map part_rows s.inodes ++ map name_row s.names)
    ∙ ap (λ n. told_size n (flat_map part_rows s.inodes ++ map name_row s.names)) (none s.records)
    ∙ told-append 0 (flat_map part_rows s.inodes) (map name_row s.names)
  where
    none : (ts : List HolderPart) → told_size 0 (map record_row ts) ≡ 0
    none [] = refl
    none (t ∷ ts) = none ts

-- ---- a file with another in its place

-- a test of the last that the other passes too
pub last-swap : {X : Type 0} (p : X → Bool) (xs : List X) (x y : X) → (p x ≡ true → p y ≡ true) → list_all p (xs ++ x ∷ []) ≡ true
    → list_all p (xs ++ y ∷ []) ≡ true
last-swap p xs x y to all =
    let parts = and_parts (list_all p xs) (p x && true) (sym (list_all-append p xs (x ∷ [])) ∙ all) in
    list_all-append p xs (y ∷ []) ∙ rw (parts.0, to (sym (and-true (p x)) ∙ parts.1)) refl

pub last-passes : {X : Type 0} (p : X → Bool) (xs : List X) (x : X) → list_all p (xs ++ x ∷ []) ≡ true → p x ≡ true
last-passes p xs x all = sym (and-true (p x)) ∙ (and_parts (list_all p xs) (p x && true) (sym (list_all-append p xs (x ∷ [])) ∙ all)).1

module _ (S : State) (told : IsTold S) (xs : List (ℕ × Inode)) (number : ℕ) (owners : Owners) (f g : File)
    (is : S.inodes ≡ xs ++ (number, record { dir = false; owners = owners; file = f }) ∷ []) (sized : size_of g ≡ size_of f) (free : S.names ≡ []) where
  abbrev old : ℕ × Inode
  old = (number, record { dir = false; owners = owners; file = f })

  abbrev new : ℕ × Inode
  new = (number, record { dir = false; owners = owners; file = g })

  abbrev T : State
  T = record S { inodes = xs ++ new ∷ [] }

  pub swap-order : is_ordered (record S { inodes = xs ++ (number, record { dir = false; owners = owners; file = g }) ∷ [] }) ≡ true
  swap-order =
      let keys : keys_of (xs ++ new ∷ []) ≡ keys_of S.inodes =
      map-end (λ (x : ℕ × Inode). x.0) xs new ∙ sym (map-end (λ (x : ℕ × Inode). x.0) xs old) ∙ sym (ap keys_of is) in
      let numbers : do_rise nat_cmp (keys_of (xs ++ new ∷ [])) ≡ true = ap (do_rise nat_cmp) keys ∙ told.numbers_rise in
      let before : list_all holds_nothing (map (λ (x : ℕ × Inode). x.1) xs ++ old.1 ∷ []) ≡ true =
      ap (list_all holds_nothing) (sym (map-end (λ (x : ℕ × Inode). x.1) xs old) ∙ sym (ap values_of is)) ∙ told.hold in
      let hold : list_all holds_nothing (values_of (xs ++ new ∷ [])) ≡ true =
      ap (list_all holds_nothing) (map-end (λ (x : ℕ × Inode). x.1) xs new)
      ∙ last-swap holds_nothing (map (λ (x : ℕ × Inode). x.1) xs) old.1 new.1 (λ e. refl) before in
      let granted : is_granted (xs ++ new ∷ []) (setup_of S) ≡ true =
      granted-end xs new (setup_of S) ∙ sym (granted-end xs old (setup_of S)) ∙ ap (λ es. is_granted es (setup_of S)) (sym is) ∙ told.granted in
      rw (told.holders_rise, numbers, told.names_rise, hold, granted, told.begin) refl

  pub swap-tests : (first second : Row) (rest : List Row)
      → (are_numbers_fit (first ∷ second ∷ rest) (record S { inodes = xs ++ (number, record { dir = false; owners = owners; file = g }) ∷ [] }) ≡ true)
      × (has_good_names (record S { inodes = xs ++ (number, record { dir = false; owners = owners; file = g }) ∷ [] }) ≡ true)
      × (list_all (has_known_owners (record S { inodes = xs ++ (number, record { dir = false; owners = owners; file = g }) ∷ [] }))
      (values_of (xs ++ (number, record { dir = false; owners = owners; file = g }) ∷ [])) ≡ true)
      × (do_lead (record S { inodes = xs ++ (number, record { dir = false; owners = owners; file = g }) ∷ [] }) ≡ true)
  swap-tests first second rest =
      let fit : list_all (is_inode_fit S) (xs ++ new ∷ []) ≡ true =
      last-swap (is_inode_fit S) xs old new (λ e. ap (λ n. nat_lt number S.next && nat_le n S.file_limit) sized ∙ e)
      (ap (list_all (is_inode_fit S)) (sym is) ∙ told.inodes) in
      let before : list_all (has_known_owners S) (map (λ (x : ℕ × Inode). x.1) xs ++ old.1 ∷ []) ≡ true =
      ap (list_all (has_known_owners S)) (sym (map-end (λ (x : ℕ × Inode). x.1) xs old) ∙ sym (ap values_of is)) ∙ told.known in (
        rw (told.bounds, told.next, told.graces, told.holders, fit) refl,
        rw (told.called, told.single, told.paths) refl,
        ap (list_all (has_known_owners S)) (map-end (λ (x : ℕ × Inode). x.1) xs new)
            ∙ last-swap (has_known_owners S) (map (λ (x : ℕ × Inode). x.1) xs) old.1 new.1 (λ e. e) before,
        (λ i. do_lead (record T { names = free i })) ∙ rw (few-links T (xs ++ new ∷ []), few-named T (xs ++ new ∷ [])) refl,
      )

  pub size-fits : (limit : ℕ) → S.file_limit ≡ limit → limit < 2 ^ 64 → size_of f < 2 ^ 64
  size-fits limit same small =
      let fit = last-passes (is_inode_fit S) xs old (ap (list_all (is_inode_fit S)) (sym is) ∙ told.inodes) in
      let low : nat_le (size_of f) S.file_limit ≡ true = (and_parts (nat_lt number S.next) (nat_le (size_of f) S.file_limit) fit).1 in
      grind (arith, tests, low, same, small)

-- ---- rows that are not more

pub names-shorter : (rows : List Row) (r : Row) → starts_with is_same_row (map untold rows) (map untold (rows ++ r ∷ [])) ≡ true → ⊥
names-shorter rows r begun =
    let longer = starts-longer is_same_row (map untold rows) (map untold (rows ++ r ∷ [])) begun in
    let own = length-map rows untold in
    let more = length-map (rows ++ r ∷ []) untold in
    let both = length-append rows (r ∷ []) in
    omega (arith, longer, own, more, both)

pub begins-none : (k : ℕ) → begins_below 0 k ≡ false
begins-none k = grind (arith, tests)

pub first-parts : (ps : List InodePart) (p : InodePart) → AllByRecursion HasBlocks (ps ++ p ∷ []) → AllByRecursion HasBlocks ps × HasBlocks p
first-parts [] p all = (tt, all.0)
first-parts (q ∷ ps) p all = let rest = first-parts ps p all.1 in ((all.0, rest.0), rest.1)

pub open-none : (S : State) (x : NameKey × ℕ) (xs : List (NameKey × ℕ)) → S.names ≡ x ∷ xs → open_file S ≡ empty_file
open-none S x xs is = ap (λ b. cond b (last_file S.inodes) empty_file) (ap (λ (l : List (NameKey × ℕ)). are_none l) is ∙ some-there x xs)

pub open-last : (S : State) → S.names ≡ [] → open_file S ≡ last_file S.inodes
open-last S is = ap (λ (l : List (NameKey × ℕ)). cond (are_none l) (last_file S.inodes) empty_file) is
