-- What a name less leaves, by unlink and by rmdir: the inodes, what they take, their names and their links, for the
-- proofs of stores that keep them.
use Rattle.std.proofs.Common.{◌≡◌, ℕ, ◌+◌, ◌<◌, ◌==◌, Bool, true, false, not, ◌||◌, ◌&&◌, cond, List, All, count_by, slice_index_or, Some, None, refl, sym, ap, ◌∙◌, tests, arith}
use Rattle.std.specs.Map.{remove_entry}
use Rattle.std.specs.Ordering.{nat_cmp}
use Rattle.std.specs.BTreeMap.{is_at}
use Rattle.std.proofs.lemmas.Bool.{and_left, and_right}
use Rattle.qplain.specs.State.{Inode, NameKey, State, inode_at, is_dir, is_directory, name_key_cmp, named}
use Rattle.qplain.specs.Use.{has_name, links_of, names_to}
use Rattle.qplain.specs.Names.{swept, without_name}
use Rattle.qplain_laws.specs.Laws.{FitsTogether}
use Rattle.qplain_laws.specs.Replaces.{Replaces}
use Rattle.qplain_laws.proofs.Tables.{count_by-agree}
use Rattle.qplain_laws.proofs.Losing.{Replaces-held, Replaces-lost, inode_at-lost, inodes-held, inodes-lost, one_name-lost}
use Rattle.qplain_laws.proofs.Filtering.{sum-remove-entry}
use Rattle.qplain_laws.proofs.Fitting.{or_right}
use Rattle.qplain_laws.proofs.Sweeping.{has_name-without, key-dir, named-led, names_to-without, stays-swept}

-- ---- links after a name less

module _ (S : State) (dir : ℕ) (name : List ℕ) (number : ℕ) (led : named S dir name ≡ Some number) where
  -- the state without the name, swept
  abbrev L1 : State
  L1 = swept (without_name S dir name)

  -- what a name that is left leads to is as much a directory
  directory-left : All (λ e. is_directory L1 e.1 ≡ is_directory S e.1) (without_name S dir name).names
  directory-left k d below =
      let e : NameKey × ℕ = slice_index_or (without_name S dir name).names k d in
      ap is_dir (stays-swept S (without_name S dir name).names e.1 (named-led S (without_name S dir name).names k d below))

  -- a directory has one link less where a name in it led to a directory
  pub links_of-removed-directory : (q : ℕ)
      → links_of (swept (without_name S dir name)) q true + cond (dir == q && is_directory S number) 1 0 ≡ links_of S q true
  links_of-removed-directory q =
      let less = sum-remove-entry (λ (e : NameKey × ℕ). cond (e.0.0 == q && is_directory S e.1) 1 0) (is_at (name_key_cmp (dir, name))) S.names number led in
      let key : dir ≡ less.0.0 = key-dir dir name less.0 less.1 in
      let term : ◌≡◌ {A = ℕ} (cond (less.0.0 == q && is_directory S number) 1 0) (cond (dir == q && is_directory S number) 1 0) =
      ap (λ (d : ℕ). cond (d == q && is_directory S number) 1 0) (sym key) in
      let same : count_by (λ e. e.0.0 == q && is_directory L1 e.1) (without_name S dir name).names
      ≡ count_by (λ e. e.0.0 == q && is_directory S e.1) (without_name S dir name).names =
      count_by-agree (λ e. e.0.0 == q && is_directory L1 e.1) (λ e. e.0.0 == q && is_directory S e.1) (without_name S dir name).names
      (λ k d below. ap (λ b. (slice_index_or (without_name S dir name).names k d).0.0 == q && b) (directory-left k d below)) in
      let sum = less.2 in
      omega (arith, sum, same, term)

  -- a file has one link less where the name led to it
  pub links_of-removed-file : (q : ℕ) → links_of (swept (without_name S dir name)) q false + cond (number == q) 1 0 ≡ links_of S q false
  links_of-removed-file q = names_to-without S dir name number led q

  -- where the test of the term fails, none is lost
  pub links_of-removed-others : (q : ℕ) (b : Bool) → (dir == q && is_directory S number) ≡ false → (b || not (number == q)) ≡ true
      → links_of (swept (without_name S dir name)) q b ≡ links_of S q b
  links_of-removed-others q true apart other =
      let sum = links_of-removed-directory q in
      let none : ◌≡◌ {A = ℕ} (cond (dir == q && is_directory S number) 1 0) 0 = ap (λ c. cond c 1 0) apart in
      omega (arith, sum, none)
  links_of-removed-others q false apart other =
      let sum = links_of-removed-file q in
      let none : ◌≡◌ {A = ℕ} (cond (number == q) 1 0) 0 = ap (λ c. cond c 1 0) (false-from_not (number == q) other) in
      omega (arith, sum, none)
    where
      false-from_not : (b : Bool) → not b ≡ true → b ≡ false
      false-from_not true h = cc
      false-from_not false h = refl

-- ---- the inodes that are left

module _ (S : State) (dir : ℕ) (name : List ℕ) (number : ℕ) (inode : Inode) (fits : FitsTogether S) (led : named S dir name ≡ Some number)
    (there : inode_at S number ≡ Some inode) where
  -- the state without the name
  abbrev T : State
  T = without_name S dir name

  -- it has one name less
  names_to-itself : names_to T number + 1 ≡ names_to S number
  names_to-itself =
      let sum = names_to-without S dir name number led number in
      let itself : (number == number) ≡ true = grind (arith, tests) in
      let one : ◌≡◌ {A = ℕ} (cond (number == number) 1 0) 1 = rw itself refl in
      omega (arith, sum, one)

  keeps : (q : ℕ) → (number == q) ≡ false → has_name T q ≡ has_name S q
  keeps q apart = has_name-without S dir name number led q apart

  -- a directory has one name
  pub one_name : inode.dir ≡ true → names_to S number ≡ 1
  one_name directory = one_name-lost S T.names number inode fits there names_to-itself keeps directory

  -- at its last name the inode goes, and nothing else does
  pub inodes-last : names_to S number ≡ 1 → (swept (without_name S dir name)).inodes ≡ remove_entry (is_at (nat_cmp number)) S.inodes
  inodes-last last = inodes-lost S T.names number inode fits there names_to-itself keeps last

  -- where it has more names, all inodes stay
  pub inodes-more : 1 < names_to S number → (swept (without_name S dir name)).inodes ≡ S.inodes
  inodes-more more = inodes-held S T.names number inode fits there names_to-itself keeps more

  -- what stands at a number then
  pub inode_at-last : names_to S number ≡ 1 → (q : ℕ)
      → inode_at (swept (without_name S dir name)) q ≡ cond (is_at (nat_cmp number) q) None (inode_at S q)
  inode_at-last last q = inode_at-lost S T.names number inode fits there names_to-itself keeps last q

  -- at its last name no inode stands where it stood
  pub Replaces-last : names_to S number ≡ 1 → Replaces S (swept (without_name S dir name)) (Some inode) None
  Replaces-last last = Replaces-lost S T.names number inode fits there names_to-itself keeps last

  -- where it has more, it stands where it stood
  pub Replaces-more : 1 < names_to S number → Replaces S (swept (without_name S dir name)) (Some inode) (Some inode)
  Replaces-more more = Replaces-held S T.names number inode fits there names_to-itself keeps more

-- ---- unlink of a file

module _ (S : State) (dir : ℕ) (name : List ℕ) (number : ℕ) (inode : Inode) (fits : FitsTogether S) (led : named S dir name ≡ Some number)
    (there : inode_at S number ≡ Some inode) (is_file : inode.dir ≡ false) where
  -- the file has one link less
  pub links_of-unlinked : links_of (swept (without_name S dir name)) number false + 1 ≡ links_of S number false
  links_of-unlinked = names_to-itself S dir name number inode fits led there

  -- other inodes have as many as before
  pub links_of-unlinked-others : (q : ℕ) (b : Bool) → (b || not (number == q)) ≡ true
      → links_of (swept (without_name S dir name)) q b ≡ links_of S q b
  links_of-unlinked-others q b other =
      links_of-removed-others S dir name number led q b (and_right (dir == q) (is_directory S number) (ap is_dir there ∙ is_file)) other

-- ---- rmdir of a directory

module _ (S : State) (dir : ℕ) (name : List ℕ) (number : ℕ) (inode : Inode) (led : named S dir name ≡ Some number)
    (there : inode_at S number ≡ Some inode) (directory : inode.dir ≡ true) where
  -- its parent has one link less
  pub links_of-rmdir-parent : links_of (swept (without_name S dir name)) dir true + 1 ≡ links_of S dir true
  links_of-rmdir-parent =
      let sum = links_of-removed-directory S dir name number led dir in
      let itself : (dir == dir) ≡ true = grind (arith, tests) in
      let stands : is_directory S number ≡ true = ap is_dir there ∙ directory in
      let one : ◌≡◌ {A = ℕ} (cond (dir == dir && is_directory S number) 1 0) 1 = (λ i. cond (itself i && stands i) 1 0) in
      omega (arith, sum, one)

  -- all but its parent and itself have as many as before
  pub links_of-rmdir-others : (q : ℕ) (b : Bool) → (dir == q) ≡ false → (number == q) ≡ false
      → links_of (swept (without_name S dir name)) q b ≡ links_of S q b
  links_of-rmdir-others q b apart other =
      links_of-removed-others S dir name number led q b (and_left (dir == q) (is_directory S number) apart) (or_right b (not (number == q)) (ap not other))
