-- What a change of the names, and the sweep after it, leave of a state that fits together.
use Rattle.std.proofs.Common.{◌≡◌, ℕ, ◌+◌, ◌≤◌, ◌==◌, Bool, true, false, not, ◌&&◌, ◌||◌, nat_le, nat_lt, cond, List, All, filter, slice_index_or, count_by, Option, Some, None, is_some, refl, sym, ap, subst, ◌∙◌, tests, arith}
use Rattle.std.specs.List.{list_any}
use Rattle.std.specs.List.Sorted.{IsStrictlySortedBy}
use Rattle.std.specs.Map.{keys_of, remove_entry}
use Rattle.std.specs.declared.cmp.Ordering.{Ordering}
use Rattle.std.specs.declared.cmp.Ordering.TheVariants.{Less, Equal, Greater}
use Rattle.std.specs.Ordering.{is_eq, nat_cmp, ordering_then}
use Rattle.std.specs.Cmp.Lexicographic.{slice_cmp}
use Rattle.std.specs.BTreeMap.{is_at}
use Rattle.std.specs.Cmp.{eq_by_cmp_equiv}
use Rattle.std.proofs.lemmas.Map.{lookup-remove_entry}
use Rattle.std.proofs.lemmas.Map.Entries.{lookup-filter-keys}
use Rattle.std.proofs.lemmas.Map.Keys.{IsDistinct-from_sorted}
use Rattle.std.proofs.lemmas.Bool.{and_parts}
use Rattle.std.proofs.lemmas.List.Elements.{All-filter, All-from_recursion, filter_passes}
use Rattle.std.proofs.lemmas.List.Sums.{get_or-le-sum_by, sum_by-le-sum_by}
use Rattle.qplain.specs.declared.bounds.TheConstants.{MAX_LINKS, ROOT}
use Rattle.qplain.specs.State.{Inode, NameKey, State, inode_at, is_dir, is_directory, name_key_cmp, named}
use Rattle.qplain.specs.Use.{has_name, has_too_many_links, is_empty, links_of, names_to}
use Rattle.qplain.specs.Names.{swept, without_name}
use Rattle.qplain_laws.specs.Laws.{AreKnown, FitsTogether, IsSound, has_right_names, leads}
use Rattle.qplain_laws.proofs.Filtering.{All-lookup, All-values-filter, sorted-filter}
use Rattle.qplain_laws.proofs.Orders.{All-remove, sorted-remove, sum-remove, sum-remove-le}
use Rattle.qplain_laws.proofs.Tables.{name_key_total, same-number}
use Rattle.qplain_laws.proofs.Fitting.{not_both, right, some-is_dir}
use Rattle.qplain_laws.proofs.FewLinks.{few-links, none-passes, none-too_many}

-- ---- as many names as may be, or fewer

-- the root has no name, and any other directory one at most
abbrev pub has_few : Bool → Bool → ℕ → Bool
has_few is_root is_dir names = cond is_root (names == 0) (cond is_dir (nat_le names 1) true)

pub few-from_right : (is_root is_dir : Bool) (n m : ℕ) → m ≤ n → right is_root is_dir n ≡ true → has_few is_root is_dir m ≡ true
few-from_right true is_dir n m l h = grind (arith, tests, l, h)
few-from_right false true n m l h = grind (arith, tests, l, h)
few-from_right false false n m l h = refl

right-from_few : (is_root is_dir : Bool) (n : ℕ) → has_few is_root is_dir n ≡ true → (is_root || nat_lt 0 n) ≡ true → right is_root is_dir n ≡ true
right-from_few true is_dir n h named = h
right-from_few false true n h named = grind (arith, tests, h, named)
right-from_few false false n h named = named

pub named-from_right : (is_root is_dir : Bool) (n : ℕ) → right is_root is_dir n ≡ true → (is_root || nat_lt 0 n) ≡ true
named-from_right true is_dir n h = refl
named-from_right false true n h = grind (arith, tests, h)
named-from_right false false n h = h

-- ---- the sweep

module _ (S : State) (names : List (NameKey × ℕ)) where
  -- the state with these names
  abbrev pub T : State
  T = record S { names = names }

  -- what is at a number after the sweep
  pub inode_at-swept : (q : ℕ) → inode_at (swept T) q ≡ cond (has_name T q) (inode_at S q) None
  inode_at-swept q =
      lookup-filter-keys (is_at (nat_cmp q)) (λ n. has_name T n) (has_name T q) (λ n same. ap (has_name T) (sym (same-number q n same))) S.inodes

  -- what has a name stays
  pub stays-swept : (q : ℕ) → has_name T q ≡ true → inode_at (swept T) q ≡ inode_at S q
  stays-swept q h = inode_at-swept q ∙ ap (λ b. cond b (inode_at S q) None) h

  itself-counts : (n : ℕ) → ◌≡◌ {A = ℕ} (cond (n == n) 1 0) 1
  itself-counts n = let same : (n == n) ≡ true = grind (arith, tests) in rw same refl

  -- what a name leads to has a name
  pub named-led : All (λ e. has_name T e.1 ≡ true) names
  named-led k d below =
      let e : NameKey × ℕ = slice_index_or names k d in
      let counted : cond (e.1 == e.1) 1 0 ≤ names_to T e.1 = get_or-le-sum_by (λ (f : NameKey × ℕ). cond (f.1 == e.1) 1 0) names k d below in
      let one = itself-counts e.1 in
      let some : nat_lt 0 (names_to T e.1) ≡ true = grind (arith, tests, counted, one) in
      or_last (e.1 == ROOT) (nat_lt 0 (names_to T e.1)) some
    where
      or_last : (a b : Bool) → b ≡ true → (a || b) ≡ true
      or_last true b h = refl
      or_last false b h = h

  -- where no directory in which a name stands is swept, and names are few, what is left fits together
  pub swept_fits : FitsTogether S → IsStrictlySortedBy name_key_cmp (keys_of names) → All (λ e. leads S e ≡ true) names
      → All (λ e. has_few (e.0 == ROOT) e.1.dir (names_to T e.0) ≡ true) S.inodes → All (λ e. has_name T e.0.0 ≡ true) names
      → has_too_many_links (swept T) ≡ false → FitsTogether (swept T)
  swept_fits fits sorted lead few placed links = record {
    links = links;
    holders = fits.holders;
    inodes = record {
      in_order = sorted-filter (λ (e : ℕ × Inode). has_name T e.0) nat_cmp S.inodes fits.inodes.in_order;
      fresh = All-filter (λ (e : ℕ × Inode). has_name T e.0) (λ e. nat_lt e.0 S.next ≡ true) S.inodes fits.inodes.fresh;
      owners_known = All-values-filter (λ (e : ℕ × Inode). has_name T e.0) (λ i. AreKnown S i.owners) S.inodes fits.inodes.owners_known;
      sound = All-values-filter (λ (e : ℕ × Inode). has_name T e.0) IsSound S.inodes fits.inodes.sound;
      root_stands = ap is_dir (stays-swept ROOT refl) ∙ fits.inodes.root_stands;
    };
    names = record {
      in_order = sorted;
      lead = λ k d below.
          let e : NameKey × ℕ = slice_index_or names k d in
          (λ i. is_dir (stays-swept e.0.0 (placed k d below) i) && is_some (stays-swept e.1 (named-led k d below) i)) ∙ lead k d below;
      counted = λ k d below.
          let e : ℕ × Inode = slice_index_or (filter (λ (x : ℕ × Inode). has_name T x.0) S.inodes) k d in
          right-from_few (e.0 == ROOT) e.1.dir (names_to T e.0)
          (All-filter (λ (x : ℕ × Inode). has_name T x.0) (λ x. has_few (x.0 == ROOT) x.1.dir (names_to T x.0) ≡ true) S.inodes few k d below)
          (filter_passes (λ (x : ℕ × Inode). has_name T x.0) S.inodes k d below);
    };
  }

-- ---- what a state that fits together says of one number

module _ (S : State) (fits : FitsTogether S) where
  there-right : (q : ℕ) (o : Option Inode) → inode_at S q ≡ o → is_some o ≡ true → has_name S q ≡ true
  there-right q None there some = cc
  there-right q (Some inode) there some =
      named-from_right (q == ROOT) inode.dir (names_to S q)
      (All-lookup (λ e. has_right_names S e ≡ true) S.inodes q inode fits.names.counted there)

  -- every inode that is there has a name
  pub has_name-there : (q : ℕ) → is_some (inode_at S q) ≡ true → has_name S q ≡ true
  has_name-there q some = there-right q (inode_at S q) refl some

  -- no name stands in a directory that is empty
  pub unfilled-empty : (number : ℕ) → not (is_empty S number) ≡ false → All (λ e. (e.0.0 == number) ≡ false) S.names
  unfilled-empty number empty =
      All-from_recursion (λ (e : NameKey × ℕ). (e.0.0 == number) ≡ false) S.names
      (none-passes (λ (e : NameKey × ℕ). e.0.0 == number) S.names (not_not (list_any (λ e. e.0.0 == number) S.names) empty))
    where
      not_not : (b : Bool) → not (not b) ≡ false → b ≡ false
      not_not true h = cc
      not_not false h = refl

  -- nor in a file
  pub unfilled : (number : ℕ) (inode : Inode) → inode_at S number ≡ Some inode → (inode.dir && not (is_empty S number)) ≡ false
      → All (λ e. (e.0.0 == number) ≡ false) S.names
  unfilled number inode there empty = by inode.dir refl empty
    where
      by : (b : Bool) → inode.dir ≡ b → (b && not (is_empty S number)) ≡ false → All (λ e. (e.0.0 == number) ≡ false) S.names
      by true is_directory_too h = unfilled-empty number h
      by false is_file h = λ k d below.
          let e : NameKey × ℕ = slice_index_or S.names k d in
          let stands : is_directory S e.0.0 ≡ true = (and_parts (is_directory S e.0.0) (is_some (inode_at S e.1)) (fits.names.lead k d below)).0 in
          not_both (e.0.0 == number) (λ same.
          let equal : e.0.0 ≡ number = grind (arith, tests, same) in
          let no_dir : is_directory S e.0.0 ≡ false = ap (λ n. is_directory S n) equal ∙ ap is_dir there ∙ is_file in
          cc)

-- ---- a name less

-- keys that are at each other are of one directory
pub key-dir : (d : ℕ) (name : List ℕ) (k : NameKey) → is_at (name_key_cmp (d, name)) k ≡ true → d ≡ k.0
key-dir d name k h = same-number d k.0 (first (nat_cmp d k.0) (slice_cmp nat_cmp name k.1) h)
  where
    first : (a b : Ordering) → is_eq (ordering_then a b) ≡ true → is_eq a ≡ true
    first Less b h = cc
    first Equal b h = refl
    first Greater b h = cc

module _ (S : State) (dir : ℕ) (name : List ℕ) (number : ℕ) (led : named S dir name ≡ Some number) where
  abbrev rest : List (NameKey × ℕ)
  rest = remove_entry (is_at (name_key_cmp (dir, name))) S.names

  -- how many names lead to a number then
  pub names_to-without : (q : ℕ) → names_to (without_name S dir name) q + cond (number == q) 1 0 ≡ names_to S q
  names_to-without q = sum-remove (λ v. cond (v == q) 1 0) (is_at (name_key_cmp (dir, name))) S.names number led

  fewer : (q : ℕ) → names_to (without_name S dir name) q ≤ names_to S q
  fewer q = let sum = names_to-without q in omega (arith, sum)

  same-apart : (q : ℕ) → (number == q) ≡ false → names_to (without_name S dir name) q ≡ names_to S q
  same-apart q apart =
      let sum = names_to-without q in
      let none : ◌≡◌ {A = ℕ} (cond (number == q) 1 0) 0 = rw apart refl in
      omega (arith, sum, none)

  -- every other number keeps its names
  pub has_name-without : (q : ℕ) → (number == q) ≡ false → has_name (without_name S dir name) q ≡ has_name S q
  has_name-without q apart = ap (λ n. q == ROOT || nat_lt 0 n) (same-apart q apart)

  -- a directory has as many subdirectories as before, or fewer
  subdirectory : (a : Bool) (q : ℕ) → cond (a && is_directory (swept (without_name S dir name)) q) 1 0 ≤ cond (a && is_directory S q) 1 0
  subdirectory false q = omega arith
  subdirectory true q =
      let is : is_directory (swept (without_name S dir name)) q ≡ is_dir (cond (has_name (without_name S dir name) q) (inode_at S q) None) =
      ap is_dir (inode_at-swept S rest q) in
      let l : cond (is_dir (cond (has_name (without_name S dir name) q) (inode_at S q) None)) 1 0 ≤ cond (is_dir (inode_at S q)) 1 0 =
      by (has_name (without_name S dir name) q) (inode_at S q) in
      subst (λ b. cond b 1 0 ≤ cond (is_directory S q) 1 0) (sym is) l
    where
      by : (b : Bool) (o : Option Inode) → cond (is_dir (cond b o None)) 1 0 ≤ cond (is_dir o) 1 0
      by true o = omega arith
      by false o = omega arith

  links-fewer : (n : ℕ) (b : Bool) → links_of (swept (without_name S dir name)) n b ≤ links_of S n b
  links-fewer n false = fewer n
  links-fewer n true =
      let less : count_by (λ e. e.0.0 == n && is_directory (swept (without_name S dir name)) e.1) rest ≤ count_by (λ e. e.0.0 == n && is_directory S e.1) rest =
      sum_by-le-sum_by (λ (e : NameKey × ℕ). cond (e.0.0 == n && is_directory (swept (without_name S dir name)) e.1) 1 0)
      (λ e. cond (e.0.0 == n && is_directory S e.1) 1 0) rest (λ e. subdirectory (e.0.0 == n) e.1) in
      let fewer_names : count_by (λ e. e.0.0 == n && is_directory S e.1) rest ≤ count_by (λ e. e.0.0 == n && is_directory S e.1) S.names =
      sum-remove-le (λ (e : NameKey × ℕ). cond (e.0.0 == n && is_directory S e.1) 1 0) (is_at (name_key_cmp (dir, name))) S.names in
      omega (arith, less, fewer_names)

  -- no inode has more links than before
  few-without : has_too_many_links S ≡ false → has_too_many_links (swept (without_name S dir name)) ≡ false
  few-without few =
      none-too_many (swept (without_name S dir name)) (λ k d below.
      let e : ℕ × Inode = slice_index_or (swept (without_name S dir name)).inodes k d in
      let old : nat_lt MAX_LINKS (links_of S e.0 e.1.dir) ≡ false =
      All-filter (λ (x : ℕ × Inode). has_name (without_name S dir name) x.0) (λ x. nat_lt MAX_LINKS (links_of S x.0 x.1.dir) ≡ false) S.inodes
      (few-links S few) k d below in
      below-too (links_of S e.0 e.1.dir) (links_of (swept (without_name S dir name)) e.0 e.1.dir) (links-fewer e.0 e.1.dir) old)
    where
      below-too : (n m : ℕ) → m ≤ n → nat_lt MAX_LINKS n ≡ false → nat_lt MAX_LINKS m ≡ false
      below-too n m l h = grind (arith, tests, l, h)

  -- what a name leads to then
  pub named-without : (parent : ℕ) (other : List ℕ) → IsStrictlySortedBy name_key_cmp (keys_of S.names)
      → named (without_name S dir name) parent other ≡ cond (is_at (name_key_cmp (dir, name)) (parent, other)) None (named S parent other)
  named-without parent other sorted =
      let laws = eq_by_cmp_equiv name_key_total in
      lookup-remove_entry laws (is_at (name_key_cmp (dir, name))) (λ x y e. laws.congr (dir, name) x y e) (parent, other) S.names
      (IsDistinct-from_sorted name_key_cmp (keys_of S.names) sorted)

  -- a name less, and the sweep, leave parts that fit together, where no name stood in what the name led to
  pub removed_fits : FitsTogether S → All (λ e. (e.0.0 == number) ≡ false) S.names → FitsTogether (swept (without_name S dir name))
  removed_fits fits unfilled =
      swept_fits S rest fits
      (sorted-remove name_key_cmp (is_at (name_key_cmp (dir, name))) S.names fits.names.in_order)
      (All-remove (λ e. leads S e ≡ true) (is_at (name_key_cmp (dir, name))) S.names fits.names.lead)
      (λ k d below.
      let e : ℕ × Inode = slice_index_or S.inodes k d in
      few-from_right (e.0 == ROOT) e.1.dir (names_to S e.0) (names_to (without_name S dir name) e.0) (fewer e.0) (fits.names.counted k d below))
      (All-remove (λ e. has_name (without_name S dir name) e.0.0 ≡ true) (is_at (name_key_cmp (dir, name))) S.names
      (λ k d below.
      let e : NameKey × ℕ = slice_index_or S.names k d in
      let stands : is_directory S e.0.0 ≡ true = (and_parts (is_directory S e.0.0) (is_some (inode_at S e.1)) (fits.names.lead k d below)).0 in
      let apart : (e.0.0 == number) ≡ false = unfilled k d below in
      let other : (number == e.0.0) ≡ false = grind (arith, tests, apart) in
      has_name-without e.0.0 other ∙ has_name-there S fits e.0.0 (some-is_dir (inode_at S e.0.0) stands)))
      (few-without fits.links)
