-- Where no line of an image is at fault, nor the end, it tells of a state that a store may begin with.
use Rattle.std.proofs.Common.{◌≡◌, ℕ, ◌+◌, ◌==◌, Bool, true, false, not, ◌&&◌, ◌||◌, cond, nat_le, nat_lt, List, [], ◌∷◌, Option, Some, None, is_some, slice_index_or, refl, subst, arith, tests}
use Rattle.std.specs.List.{list_all, AllByRecursion}
use Rattle.std.specs.BTreeMap.{is_at}
use Rattle.std.specs.List.Sorted.{IsNonDecreasingBy}
use Rattle.std.specs.Map.{keys_of, lookup, values_of}
use Rattle.std.specs.Ordering.{nat_cmp}
use Rattle.std.proofs.lemmas.Bool.{and_parts, eqb-true}
use Rattle.std.proofs.lemmas.List.{nil_from_length}
use Rattle.std.proofs.lemmas.List.Elements.{All-from_recursion}
use Rattle.qrules.specs.declared.kind.Kind.{Kind}
use Rattle.qrules.specs.declared.kind.Kind.TheVariants.{User, Group, Project}
use Rattle.qrules.specs.Range.{are_graces_in_range}
use Rattle.qblocks.specs.File.{blocks_of, empty_file, size_of}
use Rattle.qplain.specs.declared.bounds.TheConstants.{MAX_NUMBER, ROOT}
use Rattle.qplain.specs.declared.edition.Edition.{Edition}
use Rattle.qplain.specs.declared.setup.SetupFault.{SetupFault}
use Rattle.qplain.specs.Editions.{file_limit_of}
use Rattle.qplain.specs.Setups.{IsLawfulSetup, Setting, in_edition, principals_in, setup_fault}
use Rattle.qplain.specs.State.{Inode, NameKey, State, holder_cmp, is_dir, name_key_cmp, start}
use Rattle.qplain.specs.Use.{has_too_many_links}
use Rattle.qplain_laws.specs.Beginnings.{IsStateOf}
use Rattle.qplain_laws.specs.Laws.{FitsTogether, IsSound, KeepsSetup, leads}
use Rattle.qplain_laws.specs.Sizes.{IsRightSized}
use Rattle.qplain_laws.proofs.Orders.{sorted-rises}
use Rattle.qplain_image.specs.Rows.{Row, Bounds, rows_of}
use Rattle.qtext.proofs.Joining.{not_true}
use Rattle.qtext_image.specs.Counts.{count_fault, is_balanced}
use Rattle.qtext_image.specs.Faults.{do_kinds_begin, ImageFault, BadCount, BadOrder, are_bounds_fit, are_graces_fit, do_rise, fault_in, has_few_names, has_known_owners, holds_nothing, is_holder_fit, is_inode_fit, is_path_name, is_same_row}
use Rattle.qtext_image.specs.Setups.{is_granted, setup_of}
use Rattle.qtext_image.proofs.Ranked.{holders-declared, kinds-rise}
use Rattle.qtext_image.proofs.Balanced.{IsBalanced, balanced-rows, counts-pass}
use Rattle.qtext_image.proofs.Climbing.{in_tree-walked}
use Rattle.qtext_image.proofs.Made.{AreWell}
use Rattle.qtext_image.proofs.Tests.{all-passed, passed-each, rise-sorted}
use Rattle.qtext_image.proofs.Passing.{PassesTests, holder-range, path-name, known-owners, passed}

nothing-held : (inode : Inode) → holds_nothing inode ≡ true → inode.dir ≡ true → inode.file ≡ empty_file
nothing-held inode passes dir =
    let both : (size_of inode.file == 0 && blocks_of inode.file == 0) ≡ true =
    subst (λ b. (not b || (size_of inode.file == 0 && blocks_of inode.file == 0)) ≡ true) dir passes in
    let parts = and_parts (size_of inode.file == 0) (blocks_of inode.file == 0) both in
    let bytes : inode.file.bytes ≡ [] = nil_from_length inode.file.bytes (eqb-true (size_of inode.file) 0 parts.0) in
    let blocks : inode.file.allocated ≡ [] = nil_from_length inode.file.allocated (eqb-true (blocks_of inode.file) 0 parts.1) in
    λ i. record { bytes = bytes i; allocated = blocks i }

-- what holds of each entry's inode holds of each inode
values-each : (P : Inode → Type 0) (es : List (ℕ × Inode)) → AllByRecursion (λ e. P e.1) es → AllByRecursion P (values_of es)
values-each P [] all = tt
values-each P (e ∷ es) all = (all.0, values-each P es all.1)

sounds : (es : List (ℕ × Inode)) → AreWell es → AllByRecursion (λ inode. holds_nothing inode ≡ true) (values_of es) → AllByRecursion IsSound (values_of es)
sounds [] wells hold = tt
sounds (e ∷ es) wells hold = (
  record {
    holds_nothing = nothing-held e.1 hold.0;
    in_order = sorted-rises 0 e.1.file.allocated wells.0.rises;
    holes = wells.0.holes;
  },
  sounds es wells.1 hold.1,
)

sizes : (S : State) (es : List (ℕ × Inode)) → AreWell es → AllByRecursion (λ e. is_inode_fit S e ≡ true) es
    → AllByRecursion (λ inode. IsRightSized S.file_limit inode.file) (values_of es)
sizes S [] wells fit = tt
sizes S (e ∷ es) wells fit =
    let parts = and_parts (nat_lt e.0 S.next) (nat_le (size_of e.1.file) S.file_limit) fit.0 in
    (record { size = grind (arith, tests, parts.1); blocks = wells.0.below }, sizes S es wells.1 fit.1)

-- the root stands behind a setup that is granted
not-some : (fault : Option SetupFault) → not (is_some fault) ≡ true → fault ≡ None
not-some None e = refl
not-some (Some fault) e = absurd (cc e)

granted-root : (es : List (ℕ × Inode)) (s : Setting) → is_dir (lookup (is_at (nat_cmp ROOT)) es) ≡ true → is_granted es s ≡ true → setup_fault s ≡ None
granted-root [] s root granted = absurd (cc root)
granted-root (e ∷ es) s root granted = not-some (setup_fault s) granted

some-fault : (test : Bool) (one other : ImageFault) → cond test (Some one) (Some other) ≡ None → ⊥
some-fault true one other e = cc e
some-fault false one other e = cc e

-- more than one row is told
graces-told : (S : State) (rows : List Row) → count_fault S 2 rows (rows_of S) ≡ None → are_graces_fit rows S.graces ≡ true
    → are_graces_in_range S.graces ≡ true
graces-told S [] counts fit = absurd (cc counts)
graces-told S (bounds ∷ []) counts fit =
    let head : Row = Bounds S.size S.most_inodes S.next in
    absurd (some-fault (is_same_row bounds head && is_balanced S head) (record { line = 2 + 1; kind = BadOrder }) (record { line = 2; kind = BadCount }) counts)
graces-told S (bounds ∷ graces ∷ rows) counts fit = fit

module _ (S : State) (rows : List Row) (wells : AreWell S.inodes) (none : fault_in rows S ≡ None) (counts : count_fault S 2 rows (rows_of S) ≡ None) where
  passes : PassesTests rows S
  passes = passed rows S none

  balanced : IsBalanced S
  balanced = balanced-rows S (counts-pass S 2 rows (rows_of S) counts).1

  -- what the tests of order have told
  record IsSorted : Type 0 where
    holders : do_rise holder_cmp S.holders ≡ true
    inodes : do_rise nat_cmp (keys_of S.inodes) ≡ true
    names : do_rise name_key_cmp (keys_of S.names) ≡ true
    hold : list_all holds_nothing (values_of S.inodes) ≡ true
    granted : is_granted S.inodes (setup_of S) ≡ true

  sorted : IsSorted
  sorted =
      let begin = and_parts _ (do_kinds_begin S) passes.ordered in
      let granted = and_parts _ (is_granted S.inodes (setup_of S)) begin.0 in
      let hold = and_parts _ (list_all holds_nothing (values_of S.inodes)) granted.0 in
      let names = and_parts _ (do_rise name_key_cmp (keys_of S.names)) hold.0 in
      let inodes = and_parts (do_rise holder_cmp S.holders) (do_rise nat_cmp (keys_of S.inodes)) names.0 in
      record { holders = inodes.0; inodes = inodes.1; names = names.1; hold = hold.1; granted = granted.1 }

  -- and those of numbers
  record IsRanged : Type 0 where
    next : nat_le S.next (MAX_NUMBER + 1) ≡ true
    graces : are_graces_fit rows S.graces ≡ true
    holders : list_all is_holder_fit S.holders ≡ true
    inodes : list_all (is_inode_fit S) S.inodes ≡ true

  ranged : IsRanged
  ranged =
      let inodes = and_parts _ (list_all (is_inode_fit S) S.inodes) passes.ranged in
      let holders = and_parts _ (list_all is_holder_fit S.holders) inodes.0 in
      let graces = and_parts _ (are_graces_fit rows S.graces) holders.0 in
      let next = and_parts (are_bounds_fit S) (nat_le S.next (MAX_NUMBER + 1)) graces.0 in
      record { next = next.1; graces = graces.1; holders = holders.1; inodes = inodes.1 }

  led : (list_all (leads S) S.names ≡ true) × (not (has_too_many_links S) ≡ true)
  led =
      let few = and_parts _ (list_all (has_few_names S) S.inodes) passes.led in
      and_parts (list_all (leads S) S.names) (not (has_too_many_links S)) few.0

  fits : FitsTogether S
  fits = record {
    links = not_true (has_too_many_links S) led.1;
    holders = rise-sorted holder_cmp S.holders sorted.holders;
    inodes = record {
      in_order = rise-sorted nat_cmp (keys_of S.inodes) sorted.inodes;
      fresh = λ k d below. (and_parts _ _ (all-passed (is_inode_fit S) S.inodes ranged.inodes k d below)).0;
      owners_known = λ k d below. known-owners S (slice_index_or (values_of S.inodes) k d)
          (all-passed (has_known_owners S) (values_of S.inodes) passes.owned k d below);
      sound = All-from_recursion IsSound (values_of S.inodes) (sounds S.inodes wells (passed-each holds_nothing (values_of S.inodes) sorted.hold));
      root_stands = balanced.root;
    };
    names = record {
      in_order = rise-sorted name_key_cmp (keys_of S.names) sorted.names;
      lead = all-passed (leads S) S.names led.0;
      counted = λ k d below. (balanced.placed k d below).0;
    };
  }

  paths : list_all (λ e. is_path_name e.0.1) S.names ≡ true
  paths = (and_parts _ (list_all (λ e. is_path_name e.0.1) S.names) passes.named).1

  -- so it is a state of each lawful setup that has its bounds and holders
  pub founded : (setting : Setting) → IsLawfulSetup setting → KeepsSetup (start setting) S → IsStateOf setting S
  founded setting setup keeps = record {
    setup = setup;
    keeps = keeps;
    lawful = record {
      blocks_fit = balanced.blocks;
      inodes_fit = balanced.inodes;
      next_fits = grind (arith, tests, ranged.next);
      ends_stand = balanced.ends;
      parts = fits;
    };
    ranges = record {
      graces = graces-told S rows counts ranged.graces;
      holders = λ k d below. holder-range _ (all-passed is_holder_fit S.holders ranged.holders k d below);
    };
    sized = All-from_recursion (λ (inode : Inode). IsRightSized S.file_limit inode.file) (values_of S.inodes)
        (sizes S S.inodes wells (passed-each (is_inode_fit S) S.inodes ranged.inodes));
    reached = in_tree-walked S fits (λ k d below. (balanced.placed k d below).1);
    named = λ k d below. path-name _ (all-passed (λ (e : NameKey × ℕ). is_path_name e.0.1) S.names paths k d below);
  }

  -- of which one is the setup that it tells of
  own-fault : setup_fault (setup_of S) ≡ None
  own-fault = granted-root S.inodes (setup_of S) balanced.root sorted.granted

  own-lawful : (edition : Edition) → IsLawfulSetup (in_edition edition (setup_of S))
  own-lawful edition = record { granted = own-fault; sorted = rise }
    where
      rise : (kind : Kind) → IsNonDecreasingBy (λ p. p.id) (principals_in kind (in_edition edition (setup_of S)))
      rise User = kinds-rise User S.holders fits.holders
      rise Group = kinds-rise Group S.holders fits.holders
      rise Project = kinds-rise Project S.holders fits.holders

  pub own-founded : (edition : Edition) → S.file_limit ≡ file_limit_of edition → IsStateOf (in_edition edition (setup_of S)) S
  own-founded edition limit =
      founded (in_edition edition (setup_of S)) (own-lawful edition)
      (record { size = refl; most_inodes = refl; file_limit = limit; holders = holders-declared S.holders fits.holders })
