-- Every inode that is left is reached from the root after a name less, and all are after other holders and graces.
use Rattle.std.proofs.Common.{◌≡◌, ℕ, ◌==◌, Bool, true, false, not, ◌&&◌, ◌||◌, nat_lt, List, [], All, slice_index_or, Some, is_some, Ok, refl, sym, ap, subst, ◌∙◌, tests, arith}
use Rattle.std.specs.List.{AllByRecursion}
use Rattle.std.specs.List.Sorted.{IsStrictlySortedBy}
use Rattle.std.specs.Map.{keys_of, lookup}
use Rattle.std.specs.BTreeMap.{is_at}
use Rattle.std.proofs.lemmas.Bool.{and_parts}
use Rattle.std.proofs.lemmas.List.Elements.{All-filter, All-from_recursion, filter_passes, recursion_from_All}
use Rattle.qplain.specs.declared.bounds.TheConstants.{ROOT}
use Rattle.qplain.specs.State.{Holder, Inode, NameKey, State, inode_at, is_dir, is_directory, name_key_cmp, named}
use Rattle.qplain.specs.Use.{has_name, is_empty, names_to}
use Rattle.qplain.specs.Walk.{follow}
use Rattle.qplain.specs.Names.{swept, without_name}
use Rattle.qplain_laws.specs.Laws.{AllReached, FitsTogether, IsReached, leads}
use Rattle.qplain_laws.proofs.Tables.{name_key_total}
use Rattle.qplain_laws.proofs.Orders.{All-remove, sorted-remove}
use Rattle.qplain_laws.proofs.Fitting.{some-is_dir}
use Rattle.qplain_laws.proofs.Sweeping.{has_name-there, has_name-without, stays-swept, unfilled}
use Rattle.qrules.specs.declared.graces.Graces.{Graces}
use Rattle.qplain_laws.proofs.Finding.{each-found-by, holds-of-dir, less-kept, some-named}
use Rattle.qplain_laws.proofs.Reaching.{follow-from, follow-parts, reached-at, reached-further, reached-kept}

-- ---- a name less

-- what is known of each name that is left
record IsLeft (S : State) (names : List (NameKey × ℕ)) (e : NameKey × ℕ) : Type 0 where
  at : is_directory S e.0.0 ≡ true
  found : lookup (is_at (name_key_cmp e.0)) names ≡ Some e.1

all-left : (S : State) (names : List (NameKey × ℕ)) → IsStrictlySortedBy name_key_cmp (keys_of names) → All (λ e. leads S e ≡ true) names
    → AllByRecursion (IsLeft S names) names
all-left S names sorted lead =
    recursion_from_All (IsLeft S names) names (λ k d below.
    let e : NameKey × ℕ = slice_index_or names k d in
    record {
      at = (and_parts (is_directory S e.0.0) (is_some (inode_at S e.1)) (lead k d below)).0;
      found =
          All-from_recursion (λ (x : NameKey × ℕ). lookup (is_at (name_key_cmp x.0)) names ≡ Some x.1) names
          (each-found-by name_key_total names sorted) k d below;
    })

-- what is reached otherwise, is reached under each of its names
pub named-reached : (S : State) (names : List (NameKey × ℕ)) (q : ℕ) → IsStrictlySortedBy name_key_cmp (keys_of names) → All (λ e. leads S e ≡ true) names
    → has_name (record S { names = names }) q ≡ true
    → ((d : ℕ) (nm : List ℕ) → is_directory S d ≡ true → lookup (is_at (name_key_cmp (d, nm))) names ≡ Some q
    → IsReached (swept (record S { names = names })) d × (is_directory (swept (record S { names = names })) d ≡ true))
    → IsReached (swept (record S { names = names })) q
named-reached S names q sorted lead has each = by (q == ROOT) refl has
  where
    S1 : State
    S1 = swept (record S { names = names })

    by : (b : Bool) → (q == ROOT) ≡ b → (b || nat_lt 0 (names_to (record S { names = names }) q)) ≡ true → IsReached S1 q
    by true at_root h =
        let root : q ≡ ROOT = grind (arith, tests, at_root) in
        subst (IsReached S1) (sym root) ([], refl)
    by false other h =
        let one = some-named (IsLeft S names) names q (all-left S names sorted lead) h in
        let same : one.0.1 ≡ q = grind (arith, tests, one.2) in
        let led : lookup (is_at (name_key_cmp one.0.0)) names ≡ Some q = one.1.found ∙ ap (λ n. Some n) same in
        let dir = each one.0.0.0 one.0.0.1 one.1.at led in
        reached-further S1 one.0.0.0 one.0.0.1 q dir.0 dir.1 led

module _ (S : State) (dir : ℕ) (name : List ℕ) (number : ℕ) (inode : Inode) (fits : FitsTogether S) (led : named S dir name ≡ Some number)
    (there : inode_at S number ≡ Some inode) (empty : (inode.dir && not (is_empty S number)) ≡ false) where
  abbrev S-left : State
  S-left = swept (without_name S dir name)

  -- no name stands in the inode
  pub not-in : (d : ℕ) (nm : List ℕ) (m : ℕ) → named S d nm ≡ Some m → (number == d) ≡ false
  not-in d nm m is =
      let apart : (d == number) ≡ false = holds-of-dir S (λ n. (n == number) ≡ false) (unfilled S fits number inode there empty) d nm m is in
      grind (arith, tests, apart)

  -- every other directory is one still
  pub directory-left : (d : ℕ) → is_directory S d ≡ true → (number == d) ≡ false → is_directory S-left d ≡ true
  directory-left d at apart =
      ap is_dir (stays-swept S (without_name S dir name).names d
      (has_name-without S dir name number led d apart ∙ has_name-there S fits d (some-is_dir (inode_at S d) at))) ∙ at

  -- no step of a walk is lost but one to the inode
  pub keeps-removed : (d : ℕ) (nm : List ℕ) (m : ℕ) → follow S (Ok d) nm ≡ Ok m → (number == m) ≡ false → follow S-left (Ok d) nm ≡ Ok m
  keeps-removed d nm m h apart =
      let parts = follow-parts S d nm m h in
      follow-from S-left d nm m (directory-left d parts.0 (not-in d nm m parts.1))
      (less-kept S.names (dir, name) (d, nm) m fits.names.in_order parts.1 (λ e.
      let one : Some number ≡ Some m = sym led ∙ e in
      let same : number ≡ m = cc in
      let yes : (number == m) ≡ true = grind (arith, tests, same) in
      absurd (cc)))

  -- from which none leads
  pub dead-removed : (m : ℕ) (nm : List ℕ) (x : ℕ) → (number == m) ≡ true → follow S (Ok m) nm ≡ Ok x → ⊥
  dead-removed m nm x same h =
      let apart = not-in m nm x (follow-parts S m nm x h).1 in
      absurd (cc)

  module _ (all : AllReached S) where
    left : (q : ℕ) → (number == q) ≡ false → IsReached S q → IsReached S-left q
    left q apart reached = reached-kept S S-left (λ n. number == n) keeps-removed dead-removed q reached apart

    pub removed_reached : AllReached S-left
    removed_reached = λ k d below.
        let e : ℕ × Inode = slice_index_or S-left.inodes k d in
        let has : has_name (without_name S dir name) e.0 ≡ true =
        filter_passes (λ (x : ℕ × Inode). has_name (without_name S dir name) x.0) S.inodes k d below in
        let old : IsReached S e.0 = All-filter (λ (x : ℕ × Inode). has_name (without_name S dir name) x.0) (λ x. IsReached S x.0) S.inodes all k d below in
        by e.0 has old (number == e.0) refl
      where
        by : (q : ℕ) → has_name (without_name S dir name) q ≡ true → IsReached S q → (b : Bool) → (number == q) ≡ b → IsReached S-left q
        by q has old false apart = left q apart old
        by q has old true same =
            named-reached S (without_name S dir name).names q (sorted-remove name_key_cmp (is_at (name_key_cmp (dir, name))) S.names fits.names.in_order)
            (All-remove (λ e. leads S e ≡ true) (is_at (name_key_cmp (dir, name))) S.names fits.names.lead) has
            (λ d nm at is.
            let apart : (number == d) ≡ false = not-left d nm q is in
            (left d apart (reached-at S d all (some-is_dir (inode_at S d) at)), directory-left d at apart))
          where
            not-left : (d : ℕ) (nm : List ℕ) (m : ℕ) → lookup (is_at (name_key_cmp (d, nm))) (without_name S dir name).names ≡ Some m → (number == d) ≡ false
            not-left d nm m is =
                let apart : (d == number) ≡ false =
                holds-of-dir (without_name S dir name) (λ n. (n == number) ≡ false)
                (All-remove (λ e. (e.0.0 == number) ≡ false) (is_at (name_key_cmp (dir, name))) S.names
                (unfilled S fits number inode there empty)) d nm m is in
                grind (arith, tests, apart)

-- ---- other holders and graces

-- holders and graces lead nowhere
pub walks-same : (S : State) (holders : List Holder) (graces : Graces) → AllReached S → AllReached (record S { holders = holders; graces = graces })
walks-same S holders graces all =
    (λ k d below. reached-kept S (record S { holders = holders; graces = graces }) (λ n. false) (λ e nm m h good. h) (λ m x y e. absurd (cc))
    (slice_index_or S.inodes k d).0 (all k d below) refl)
