-- Look-ups and link counts after a new inode, a changed file and changed holders, for the proofs of stores that keep link counts.
use Rattle.std.proofs.Common.{◌≡◌, ℕ, ◌+◌, ◌==◌, Bool, true, false, ◌&&◌, cond, List, Option, Some, None, is_some, slice_index_or, count_by, refl, sym, ap, ◌∙◌, tests, arith, rules}
use Rattle.std.specs.Option.{IsSome}
use Rattle.std.specs.Ordering.{nat_cmp}
use Rattle.std.specs.BTreeMap.{is_at}
use Rattle.std.specs.Cmp.{nat_cmp_total, eq_by_cmp_equiv}
use Rattle.std.proofs.lemmas.Bool.{and_parts, cond-false, cond-true}
use Rattle.std.proofs.lemmas.Map.{lookup-set_value}
use Rattle.qrules.specs.declared.kind.Kind.{Kind}
use Rattle.qrules.specs.declared.limits.Limits.{Limits}
use Rattle.qrules.specs.declared.graces.Graces.{Graces}
use Rattle.qblocks.specs.File.{File}
use Rattle.qplain.specs.State.{Inode, NameKey, State, inode_at, is_dir, is_directory, name_key_cmp, named}
use Rattle.qplain.specs.Use.{links_of}
use Rattle.qplain.specs.Decision.{ends_after}
use Rattle.qplain.specs.Files.{with_file, with_inode}
use Rattle.qplain.specs.Names.{created}
use Rattle.qplain.specs.Quotas.{with_limits_of}
use Rattle.qplain_laws.specs.Laws.{FitsTogether, leads}
use Rattle.qplain_laws.proofs.Tables.{absent-fresh, at-itself, count_by-agree, count_by-none, lookup-insert_new, name_key_total, same-number, sum_by-insert_new}
use Rattle.qplain_laws.proofs.Fitting.{apart, directory-same, links_of-changed, not_both, some-is_dir}

-- ---- look-ups

-- what is at a number after a new inode
pub inode_at-created : (S : State) (inode : Inode) (dir : ℕ) (name : List ℕ) (q : ℕ) → inode_at S S.next ≡ None
    → inode_at (created S inode dir name) q ≡ cond (is_at (nat_cmp q) S.next) (Some inode) (inode_at S q)
inode_at-created S inode dir name q none = lookup-insert_new nat_cmp_total S.inodes S.next inode q none

-- what a name leads to after a new inode
pub named-created : (S : State) (inode : Inode) (dir : ℕ) (name : List ℕ) (parent : ℕ) (other : List ℕ) → named S dir name ≡ None
    → named (created S inode dir name) parent other ≡ cond (is_at (name_key_cmp (parent, other)) (dir, name)) (Some S.next) (named S parent other)
named-created S inode dir name parent other absent = lookup-insert_new name_key_total S.names (dir, name) S.next (parent, other) absent

there-some : (o : Option Inode) (inode : Inode) → o ≡ Some inode → IsSome o
there-some None inode there = cc
there-some (Some i) inode there = search rules

-- what is at a number after a changed inode
pub inode_at-with_inode : (S : State) (number : ℕ) (inode after : Inode) (q : ℕ) → inode_at S number ≡ Some inode
    → inode_at (with_inode S number after) q ≡ cond (is_at (nat_cmp number) q) (Some after) (inode_at S q)
inode_at-with_inode S number inode after q there =
    lookup-set_value (eq_by_cmp_equiv nat_cmp_total) (is_at (nat_cmp number)) (λ x y e. (eq_by_cmp_equiv nat_cmp_total).congr number x y e)
    q after S.inodes (there-some (inode_at S number) inode there)

-- and after a changed file
pub inode_at-with_file : (S : State) (number : ℕ) (inode : Inode) (file : File) (q : ℕ) → inode_at S number ≡ Some inode
    → inode_at (with_file S number inode file) q ≡ cond (is_at (nat_cmp number) q) (Some (record inode { file = file })) (inode_at S q)
inode_at-with_file S number inode file q there = inode_at-with_inode S number inode (record inode { file = file }) q there

-- the new inode is at the next number
pub inode_at-created-next : (S : State) (inode : Inode) (dir : ℕ) (name : List ℕ) → inode_at S S.next ≡ None
    → inode_at (created S inode dir name) S.next ≡ Some inode
inode_at-created-next S inode dir name none =
    inode_at-created S inode dir name S.next none ∙ cond-true (is_at (nat_cmp S.next) S.next) (Some inode) (inode_at S S.next) (at-itself S.next)

not-there : (S : State) (n : ℕ) → is_some (inode_at S n) ≡ true → inode_at S S.next ≡ None → is_at (nat_cmp n) S.next ≡ true → ⊥
not-there S n there none at_next =
    let gone : is_some (inode_at S n) ≡ false = ap (λ q. is_some (inode_at S q)) (same-number n S.next at_next) ∙ ap (λ o. is_some o) none in
    cc

-- an inode that was there is there still
pub inode_at-created-there : (S : State) (inode : Inode) (dir : ℕ) (name : List ℕ) (n : ℕ) → inode_at S S.next ≡ None
    → is_some (inode_at S n) ≡ true → inode_at (created S inode dir name) n ≡ inode_at S n
inode_at-created-there S inode dir name n none there =
    inode_at-created S inode dir name n none ∙ cond-false (is_at (nat_cmp n) S.next) (Some inode) (inode_at S n)
    (not_both (is_at (nat_cmp n) S.next) (not-there S n there none))

-- another file makes no directory and takes none
pub is_directory-with_file : (S : State) (number : ℕ) (inode : Inode) (file : File) (q : ℕ) → inode_at S number ≡ Some inode
    → is_directory (with_file S number inode file) q ≡ is_directory S q
is_directory-with_file S number inode file q there = directory-same S number inode (record inode { file = file }) there refl q

-- a new file makes no directory and takes none
pub is_directory-created : (S : State) (inode : Inode) (dir : ℕ) (name : List ℕ) (q : ℕ) → inode_at S S.next ≡ None → inode.dir ≡ false
    → is_directory (created S inode dir name) q ≡ is_directory S q
is_directory-created S inode dir name q none file =
    ap is_dir (inode_at-created S inode dir name q none)
    ∙ new_or_old (is_at (nat_cmp q) S.next) (λ at_next. ap (λ n. is_directory S n) (same-number q S.next at_next) ∙ ap is_dir none)
  where
    new_or_old : (b : Bool) → (b ≡ true → is_directory S q ≡ false) → is_dir (cond b (Some inode) (inode_at S q)) ≡ is_directory S q
    new_or_old true gone = file ∙ sym (gone refl)
    new_or_old false gone = refl

-- ---- link counts

-- a file has one link more under the new name, if that is its own
pub links_of-created-file : (S : State) (inode : Inode) (dir : ℕ) (name : List ℕ) (n : ℕ) → named S dir name ≡ None
    → links_of (created S inode dir name) n false ≡ links_of S n false + cond (S.next == n) 1 0
links_of-created-file S inode dir name n absent =
    sum_by-insert_new (λ (e : NameKey × ℕ). cond (e.1 == n) 1 0) name_key_cmp S.names (dir, name) S.next absent

module _ (S : State) (inode : Inode) (dir : ℕ) (name : List ℕ) (fits : FitsTogether S) (absent : named S dir name ≡ None) where
  -- the state with the new inode
  abbrev S1 : State
  S1 = created S inode dir name

  none : inode_at S S.next ≡ None
  none = absent-fresh S.inodes S.next fits.inodes.fresh

  led : (e : NameKey × ℕ) → leads S e ≡ true → (is_directory S e.0.0 ≡ true) × (is_some (inode_at S e.1) ≡ true)
  led e h = and_parts (is_directory S e.0.0) (is_some (inode_at S e.1)) h

  -- each name leads to a directory where it did before
  directory-led : (e : NameKey × ℕ) → leads S e ≡ true → is_directory S1 e.1 ≡ is_directory S e.1
  directory-led e h = ap is_dir (inode_at-created-there S inode dir name e.1 none (led e h).1)

  -- whether the new inode is a directory is its own word
  directory-next : is_directory S1 S.next ≡ inode.dir
  directory-next = ap is_dir (inode_at-created-next S inode dir name none)

  -- a directory has one link more where the new inode is a directory in it
  pub links_of-created-directory : (n : ℕ) → links_of (created S inode dir name) n true ≡ links_of S n true + cond (dir == n && inode.dir) 1 0
  links_of-created-directory n =
      let added = sum_by-insert_new (λ (e : NameKey × ℕ). cond (e.0.0 == n && is_directory S1 e.1) 1 0) name_key_cmp S.names (dir, name) S.next absent in
      let same : count_by (λ e. e.0.0 == n && is_directory S1 e.1) S.names ≡ count_by (λ e. e.0.0 == n && is_directory S e.1) S.names =
      count_by-agree (λ e. e.0.0 == n && is_directory S1 e.1) (λ e. e.0.0 == n && is_directory S e.1) S.names
      (λ k d below. ap (λ b. (slice_index_or S.names k d).0.0 == n && b) (directory-led (slice_index_or S.names k d) (fits.names.lead k d below))) in
      ap (λ m. 2 + m) (added ∙ (λ i. same i + cond (dir == n && directory-next i) 1 0)) ∙ omega arith

  -- no name but the new one leads to the new inode
  unnamed-next : count_by (λ e. e.1 == S.next) S.names ≡ 0
  unnamed-next = count_by-none (λ e. e.1 == S.next) S.names
      (λ k d below. apart S (slice_index_or S.names k d).1 S.next (led (slice_index_or S.names k d) (fits.names.lead k d below)).1 none)

  -- a new file has one link
  pub links_of-new_file : links_of (created S inode dir name) S.next false ≡ 1
  links_of-new_file =
      let itself : (S.next == S.next) ≡ true = grind (arith, tests) in
      links_of-created-file S inode dir name S.next absent ∙ (λ i. unnamed-next i + cond (itself i) 1 0)

  -- no name stands in the new inode
  unfilled-next : count_by (λ e. e.0.0 == S.next && is_directory S e.1) S.names ≡ 0
  unfilled-next = count_by-none (λ e. e.0.0 == S.next && is_directory S e.1) S.names
      (λ k d below.
      let e : NameKey × ℕ = slice_index_or S.names k d in
      let stands : is_some (inode_at S e.0.0) ≡ true = some-is_dir (inode_at S e.0.0) (led e (fits.names.lead k d below)).0 in
      ap (λ b. b && is_directory S e.1) (apart S e.0.0 S.next stands none))

  -- a new directory has two links
  pub links_of-new_directory : is_directory S dir ≡ true → links_of (created S inode dir name) S.next true ≡ 2
  links_of-new_directory stands =
      let other : (dir == S.next) ≡ false = apart S dir S.next (some-is_dir (inode_at S dir) stands) none in
      links_of-created-directory S.next ∙ (λ i. 2 + unfilled-next i + cond (other i && inode.dir) 1 0)

  other-next : (n : ℕ) (j : Inode) → inode_at S n ≡ Some j → (S.next == n) ≡ false
  other-next n j there =
      let stands : is_some (inode_at S n) ≡ true = ap (λ o. is_some o) there in
      let differ : (n == S.next) ≡ false = apart S n S.next stands none in
      grind (arith, tests, differ)

  -- with a new file the inodes that were there have as many links as before
  pub links_of-created-others : (n : ℕ) (j : Inode) (b : Bool) → inode_at S n ≡ Some j → inode.dir ≡ false
      → links_of (created S inode dir name) n b ≡ links_of S n b
  links_of-created-others n j false there file =
      let other : (S.next == n) ≡ false = other-next n j there in
      links_of-created-file S inode dir name n absent ∙ (λ i. links_of S n false + cond (other i) 1 0) ∙ omega arith
  links_of-created-others n j true there file =
      links_of-created-directory n ∙ (λ i. links_of S n true + cond (dir == n && file i) 1 0) ∙ no_link (dir == n)
    where
      no_link : (b : Bool) → links_of S n true + cond (b && false) 1 0 ≡ links_of S n true
      no_link true = omega arith
      no_link false = omega arith

  -- with a new inode of either sort the files that were there have as many links as before
  pub links_of-created-files : (n : ℕ) (j : Inode) → inode_at S n ≡ Some j → links_of (created S inode dir name) n false ≡ links_of S n false
  links_of-created-files n j there =
      let other : (S.next == n) ≡ false = other-next n j there in
      links_of-created-file S inode dir name n absent ∙ (λ i. links_of S n false + cond (other i) 1 0) ∙ omega arith

  -- with a new directory its parent has one link more
  pub links_of-created-parent : inode.dir ≡ true → links_of (created S inode dir name) dir true ≡ links_of S dir true + 1
  links_of-created-parent directory =
      let itself : (dir == dir) ≡ true = grind (arith, tests) in
      links_of-created-directory dir ∙ (λ i. links_of S dir true + cond (itself i && directory i) 1 0)

  -- and the other directories have as many as before
  pub links_of-created-elsewhere : (n : ℕ) → (dir == n) ≡ false → links_of (created S inode dir name) n true ≡ links_of S n true
  links_of-created-elsewhere n other =
      links_of-created-directory n ∙ (λ i. links_of S n true + cond (other i && inode.dir) 1 0) ∙ omega arith

-- with another file in an inode that is there each inode has as many links as before
pub links_of-with_file : (S : State) (number : ℕ) (inode : Inode) (file : File) (n : ℕ) (b : Bool) → inode_at S number ≡ Some inode
    → links_of (with_file S number inode file) n b ≡ links_of S n b
links_of-with_file S number inode file n b there = links_of-changed S number inode (record inode { file = file }) there refl n b

-- new ends leave all links
pub links_of-ends_after : (S : State) (moment n : ℕ) (b : Bool) → links_of (ends_after S moment) n b ≡ links_of S n b
links_of-ends_after S moment n false = refl
links_of-ends_after S moment n true = refl

-- new limits leave all links
pub links_of-with_limits_of : (S : State) (kind : Kind) (id : ℕ) (limits : Limits) (n : ℕ) (b : Bool)
    → links_of (with_limits_of S kind id limits) n b ≡ links_of S n b
links_of-with_limits_of S kind id limits n false = refl
links_of-with_limits_of S kind id limits n true = refl

-- new graces leave all links
pub links_of-graced : (S : State) (graces : Graces) (n : ℕ) (b : Bool) → links_of (record S { graces = graces }) n b ≡ links_of S n b
links_of-graced S graces n false = refl
links_of-graced S graces n true = refl
