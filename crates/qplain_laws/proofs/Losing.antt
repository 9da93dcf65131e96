-- What the sweep takes where the names to one inode become one less: nothing, or that inode, for the proofs of stores
-- that keep counts.
use Rattle.std.proofs.Common.{◌≡◌, ℕ, ◌+◌, ◌<◌, ◌==◌, Bool, true, false, not, ◌||◌, nat_lt, cond, List, All, sum_by, slice_index_or, Some, None, refl, sym, ap, ◌∙◌, tests, arith}
use Rattle.std.specs.Map.{keys_of, lookup, remove_entry, values_of}
use Rattle.std.specs.Ordering.{nat_cmp}
use Rattle.std.specs.Cmp.{eq_by_cmp_equiv, nat_cmp_total}
use Rattle.std.specs.BTreeMap.{is_at}
use Rattle.std.proofs.lemmas.Map.{lookup-remove_entry}
use Rattle.std.proofs.lemmas.Map.Keys.{IsDistinct-from_sorted}
use Rattle.qplain.specs.declared.bounds.TheConstants.{ROOT}
use Rattle.qplain.specs.State.{Inode, NameKey, State, inode_at}
use Rattle.qplain.specs.Use.{charge_to, has_name, names_to, weight}
use Rattle.qplain.specs.Names.{swept}
use Rattle.qplain_laws.specs.Laws.{FitsTogether, has_right_names}
use Rattle.qplain_laws.specs.Replaces.{Replaces}
use Rattle.qplain_laws.proofs.Filtering.{All-lookup, filter-all, filter-other, sum-less}
use Rattle.qplain_laws.proofs.Fitting.{not_both}
use Rattle.qplain_laws.proofs.Sweeping.{named-from_right}

-- as many names are a name as before
pub same-has_name : (S T : State) (q : ℕ) → names_to T q ≡ names_to S q → has_name T q ≡ has_name S q
same-has_name S T q same = ap (λ n. q == ROOT || nat_lt 0 n) same

module _ (S : State) (names : List (NameKey × ℕ)) (number : ℕ) (inode : Inode) (fits : FitsTogether S) (there : inode_at S number ≡ Some inode)
    (less : names_to (record S { names = names }) number + 1 ≡ names_to S number)
    (same : (q : ℕ) → (number == q) ≡ false → has_name (record S { names = names }) q ≡ has_name S q) where
  -- the state with these names
  abbrev T : State
  T = record S { names = names }

  -- the state when it is swept
  abbrev S1 : State
  S1 = swept T

  counted : has_right_names S (number, inode) ≡ true
  counted = All-lookup (λ e. has_right_names S e ≡ true) S.inodes number inode fits.names.counted there

  -- the root has no name
  not_root : (number == ROOT) ≡ false
  not_root = not_both (number == ROOT) (λ at_root.
      let right : Bool → Bool = λ b. cond b (names_to S number == 0) (cond inode.dir (names_to S number == 1) (nat_lt 0 (names_to S number))) in
      let unnamed : (names_to S number == 0) ≡ true = sym (ap right at_root) ∙ counted in
      let sum = less in
      let zero : names_to S number ≡ 0 = grind (arith, tests, unnamed) in
      omega (arith, sum, zero))

  -- a directory has one name
  pub one_name-lost : inode.dir ≡ true → names_to S number ≡ 1
  one_name-lost is_dir =
      let right : Bool → Bool → Bool = λ a b. cond a (names_to S number == 0) (cond b (names_to S number == 1) (nat_lt 0 (names_to S number))) in
      let one : (names_to S number == 1) ≡ true = sym (λ i. right (not_root i) (is_dir i)) ∙ counted in
      grind (arith, tests, one)

  -- every other inode keeps a name
  has_name-other : All (λ e. (number == e.0) ≡ false → has_name T e.0 ≡ true) S.inodes
  has_name-other = λ k d below apart.
      let e : ℕ × Inode = slice_index_or S.inodes k d in
      same e.0 apart ∙ named-from_right (e.0 == ROOT) e.1.dir (names_to S e.0) (fits.names.counted k d below)

  -- whether it has a name still
  has_name-itself : (q : ℕ) → (number == q) ≡ true → has_name T q ≡ nat_lt 0 (names_to T number)
  has_name-itself q is =
      let equal : number ≡ q = grind (arith, tests, is) in
      ap (has_name T) (sym equal) ∙ ap (λ b. b || nat_lt 0 (names_to T number)) not_root

  -- at its last name the inode goes, and nothing else does
  pub inodes-lost : names_to S number ≡ 1 → (swept (record S { names = names })).inodes ≡ remove_entry (is_at (nat_cmp number)) S.inodes
  inodes-lost last =
      filter-other (λ q. has_name T q) number S.inodes fits.inodes.in_order (λ k d below.
      let e : ℕ × Inode = slice_index_or S.inodes k d in
      by e.0 (number == e.0) refl (has_name-other k d below))
    where
      none : nat_lt 0 (names_to T number) ≡ false
      none = let sum = less in grind (arith, tests, sum, last)

      by : (q : ℕ) (b : Bool) → (number == q) ≡ b → ((number == q) ≡ false → has_name T q ≡ true) → has_name T q ≡ not b
      by q true is other = has_name-itself q is ∙ none
      by q false is other = other is

  -- where it has more names, all inodes stay
  pub inodes-held : 1 < names_to S number → (swept (record S { names = names })).inodes ≡ S.inodes
  inodes-held more =
      filter-all (λ (e : ℕ × Inode). has_name T e.0) S.inodes (λ k d below.
      let e : ℕ × Inode = slice_index_or S.inodes k d in
      by e.0 (number == e.0) refl (has_name-other k d below))
    where
      some : nat_lt 0 (names_to T number) ≡ true
      some = let sum = less in let l : 0 < names_to T number = omega (arith, sum, more) in grind (arith, tests, l)

      by : (q : ℕ) (b : Bool) → (number == q) ≡ b → ((number == q) ≡ false → has_name T q ≡ true) → has_name T q ≡ true
      by q true is other = has_name-itself q is ∙ some
      by q false is other = other is

  -- what stands at a number when it went
  pub inode_at-lost : names_to S number ≡ 1 → (q : ℕ)
      → inode_at (swept (record S { names = names })) q ≡ cond (is_at (nat_cmp number) q) None (inode_at S q)
  inode_at-lost last q =
      let laws = eq_by_cmp_equiv nat_cmp_total in
      ap (lookup (is_at (nat_cmp q))) (inodes-lost last)
      ∙ lookup-remove_entry laws (is_at (nat_cmp number)) (λ x y e. laws.congr number x y e) q S.inodes
      (IsDistinct-from_sorted nat_cmp (keys_of S.inodes) fits.inodes.in_order)

  -- at its last name no inode stands where it stood
  pub Replaces-lost : names_to S number ≡ 1 → Replaces S (swept (record S { names = names })) (Some inode) None
  Replaces-lost last = record {
    size = refl;
    most_inodes = refl;
    graces = refl;
    holders = refl;
    totals = λ sort. sum-less (weight sort) number S.inodes S1.inodes inode there (inodes-lost last);
    uses = λ kind id sort. sum-less (charge_to kind id sort) number S.inodes S1.inodes inode there (inodes-lost last);
  }

  -- where it has more, it stands where it stood
  pub Replaces-held : 1 < names_to S number → Replaces S (swept (record S { names = names })) (Some inode) (Some inode)
  Replaces-held more = record {
    size = refl;
    most_inodes = refl;
    graces = refl;
    holders = refl;
    totals = λ sort. ap (λ es. sum_by (weight sort) (values_of es) + weight sort inode) (inodes-held more);
    uses = λ kind id sort. ap (λ es. sum_by (charge_to kind id sort) (values_of es) + charge_to kind id sort inode) (inodes-held more);
  }
