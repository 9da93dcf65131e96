-- The tests of a line with one row more, where those of the rows before it have passed.
use Rattle.std.proofs.Common.{◌≡◌, ℕ, ◌+◌, Bool, true, false, not, ◌&&◌, cond, nat_le, List, [], ◌∷◌, ◌++◌, Option, Some, None, is_some, refl, sym, ap, ◌∙◌, arith, tests}
use Rattle.std.specs.List.{list_all}
use Rattle.std.specs.Map.{keys_of, values_of}
use Rattle.std.specs.Ordering.{nat_cmp}
use Rattle.std.proofs.lemmas.Bool.{and_parts}
use Rattle.qrules.specs.declared.kind.Kind.TheVariants.{User, Group, Project}
use Rattle.qrules.specs.Range.{are_graces_in_range}
use Rattle.qplain.specs.declared.bounds.TheConstants.{MAX_NUMBER}
use Rattle.qplain.specs.Principals.{is_principal_name}
use Rattle.qplain.specs.Setups.{Setting, setup_fault}
use Rattle.qplain.specs.State.{Holder, Inode, NameKey, State, holder_cmp, name_key_cmp}
use Rattle.qplain.specs.Use.{has_too_many_links}
use Rattle.qplain_laws.specs.Laws.{leads}
use Rattle.qplain_image.specs.Rows.{Row, Bounds, Grace, Record, Directory, FileHead, Block, Name}
use Rattle.qtext.proofs.Joining.{not_true}
use Rattle.qtext.specs.declared.text_fault.TextKind.TheVariants.{BadHex, BadNumber}
use Rattle.qtext_image.specs.Faults.{BadName, BadOrder, BadOwner, ImageKind, InText, NoInode, are_blocks_long, are_bounds_fit, are_numbers_fit, do_kinds_begin, do_lead, do_rise, has_few_names, has_good_names, has_known_owners, has_twins, holds_nothing, is_holder_fit, is_inode_fit, is_ordered, is_path_name}
use Rattle.qtext_image.specs.NextFaults.{are_none, has_bounds, has_graces, is_behind, is_name_taken}
use Rattle.qtext_image.specs.Setups.{is_granted, principals_of, setup_of}
use Rattle.qtext_image.proofs.Links.{few-links, few-named}
use Rattle.qtext_image.proofs.NextHolders.{begin-parts, granted-where, principals-fit, single-parts, twins-end}
use Rattle.qtext_image.proofs.NextLists.{all-end, and-true, map-end, rise-end}
use Rattle.qtext_image.proofs.Passing.{PassesTests}

-- ---- the order of tests

-- the first test that does not pass
abbrev pub first_fault : Bool → Bool → Bool → Bool → Bool → Bool → Option ImageKind
first_fault long order number name owner lead =
    cond (not long) (Some (InText BadHex)) (cond (not order) (Some BadOrder) (cond (not number) (Some (InText BadNumber))
    (cond (not name) (Some BadName) (cond (not owner) (Some BadOwner) (cond (not lead) (Some NoInode) None)))))

-- tests that are the same, where those before them pass
pub same-fault : (long order number name owner lead long' order' number' name' owner' lead' : Bool) → long ≡ long' → (long' ≡ true → order ≡ order')
    → (long' ≡ true → order' ≡ true → (number ≡ number') × (name ≡ name') × (owner ≡ owner') × (lead ≡ lead'))
    → first_fault long order number name owner lead ≡ first_fault long' order' number' name' owner' lead'
same-fault long order number name owner lead false order' number' name' owner' lead' same next others =
    ap (λ b. first_fault b order number name owner lead) same
same-fault long order number name owner lead true false number' name' owner' lead' same next others =
    λ i. first_fault (same i) (next refl i) number name owner lead
same-fault long order number name owner lead true true number' name' owner' lead' same next others =
    let rest = others refl refl in
    λ i. first_fault (same i) (next refl i) (rest.0 i) (rest.1 i) (rest.2 i) (rest.3 i)

-- ---- what has passed

-- each test of a state where its graces are told
pub record IsTold (S : State) : Type 0 where
  pub bounds : are_bounds_fit S ≡ true
  pub next : nat_le S.next (MAX_NUMBER + 1) ≡ true
  pub graces : are_graces_in_range S.graces ≡ true
  pub holders : list_all is_holder_fit S.holders ≡ true
  pub inodes : list_all (is_inode_fit S) S.inodes ≡ true
  pub called : list_all (λ h. is_principal_name h.name) S.holders ≡ true
  pub single : has_twins S ≡ false
  pub paths : list_all (λ e. is_path_name e.0.1) S.names ≡ true
  pub known : list_all (has_known_owners S) (values_of S.inodes) ≡ true
  pub lead : list_all (leads S) S.names ≡ true
  pub links : has_too_many_links S ≡ false
  pub few : list_all (has_few_names S) S.inodes ≡ true
  pub holders_rise : do_rise holder_cmp S.holders ≡ true
  pub numbers_rise : do_rise nat_cmp (keys_of S.inodes) ≡ true
  pub names_rise : do_rise name_key_cmp (keys_of S.names) ≡ true
  pub hold : list_all holds_nothing (values_of S.inodes) ≡ true
  pub granted : is_granted S.inodes (setup_of S) ≡ true
  pub begin : do_kinds_begin S ≡ true

pub told-of : (first second : Row) (rest : List Row) (S : State) → PassesTests (first ∷ second ∷ rest) S → IsTold S
told-of first second rest S passes =
    let begin = and_parts _ (do_kinds_begin S) passes.ordered in
    let granted = and_parts _ (is_granted S.inodes (setup_of S)) begin.0 in
    let hold = and_parts _ (list_all holds_nothing (values_of S.inodes)) granted.0 in
    let named = and_parts _ (do_rise name_key_cmp (keys_of S.names)) hold.0 in
    let numbered = and_parts (do_rise holder_cmp S.holders) (do_rise nat_cmp (keys_of S.inodes)) named.0 in
    let inodes = and_parts _ (list_all (is_inode_fit S) S.inodes) passes.ranged in
    let holders = and_parts _ (list_all is_holder_fit S.holders) inodes.0 in
    let graces = and_parts _ (are_graces_in_range S.graces) holders.0 in
    let bounds = and_parts (are_bounds_fit S) (nat_le S.next (MAX_NUMBER + 1)) graces.0 in
    let paths = and_parts _ (list_all (λ (e : NameKey × ℕ). is_path_name e.0.1) S.names) passes.named in
    let called = and_parts (list_all (λ (h : Holder). is_principal_name h.name) S.holders) (not (has_twins S)) paths.0 in
    let few = and_parts _ (list_all (has_few_names S) S.inodes) passes.led in
    let lead = and_parts (list_all (leads S) S.names) (not (has_too_many_links S)) few.0 in
    record {
      bounds = bounds.0;
      next = bounds.1;
      graces = graces.1;
      holders = holders.1;
      inodes = inodes.1;
      called = called.0;
      single = not_true (has_twins S) called.1;
      paths = paths.1;
      known = passes.owned;
      lead = lead.0;
      links = not_true (has_too_many_links S) lead.1;
      few = few.1;
      holders_rise = numbered.0;
      numbers_rise = numbered.1;
      names_rise = named.1;
      hold = hold.1;
      granted = granted.1;
      begin = begin.1;
    }

pub bounds-told : (S : State) → are_bounds_fit S ≡ true → has_bounds S ≡ true
bounds-told S fit = grind (arith, tests, fit)

pub graces-told : (S : State) → are_graces_in_range S.graces ≡ true → has_graces S ≡ true
graces-told S fit = grind (arith, tests, fit)

-- where no inode stands no name leads
pub names-none : (S : State) → list_all (leads S) S.names ≡ true → S.inodes ≡ [] → S.names ≡ []
names-none S lead none = by S.names refl
  where
    by : (names : List (NameKey × ℕ)) → S.names ≡ names → S.names ≡ []
    by [] is = is
    by (e ∷ es) is =
        let leads-none : leads S e ≡ false = λ i. leads (record S { inodes = none i }) e in
        let first : (leads S e && list_all (leads S) es) ≡ true = sym (ap (list_all (leads S)) is) ∙ lead in
        cc

-- ---- a holder more

pub holder-tests : (S : State) (first second : Row) (rest : List Row) (h : Holder) → IsTold S → S.inodes ≡ [] → S.names ≡ []
    → is_behind holder_cmp S.holders h ≡ true
    → (are_numbers_fit (first ∷ second ∷ rest) (record S { holders = S.holders ++ h ∷ [] }) ≡ is_holder_fit h)
    × (has_good_names (record S { holders = S.holders ++ h ∷ [] }) ≡ (is_principal_name h.name && not (is_name_taken S h)))
    × (list_all (has_known_owners (record S { holders = S.holders ++ h ∷ [] })) (values_of S.inodes) ≡ true)
    × (do_lead (record S { holders = S.holders ++ h ∷ [] }) ≡ true)
holder-tests S first second rest h told none free behind =
    let T : State = record S { holders = S.holders ++ h ∷ [] } in (
      rw (told.bounds, told.next, told.graces, all-end is_holder_fit S.holders h told.holders, told.inodes) (and-true _),
      rw (all-end (λ (g : Holder). is_principal_name g.name) S.holders h told.called, twins-end S h told.single behind, told.paths) (and-true _),
      ap (λ es. list_all (has_known_owners T) (values_of es)) none,
      (λ i. do_lead (record T { inodes = none i; names = free i })),
    )

-- ---- an inode more

pub granted-end : (es : List (ℕ × Inode)) (e : ℕ × Inode) (s : Setting) → is_granted (es ++ e ∷ []) s ≡ not (is_some (setup_fault s))
granted-end [] e s = refl
granted-end (x ∷ es) e s = refl

-- the setup is granted where there are users and groups
own-where : (S : State) → IsTold S
    → not (is_some (setup_fault (setup_of S))) ≡ (not (are_none (principals_of User S.holders)) && not (are_none (principals_of Group S.holders)))
own-where S told =
    let begins = begin-parts S told.begin in
    let singles = single-parts S told.single in
    granted-where S.size S.most_inodes S.graces (principals_of User S.holders) (principals_of Group S.holders) (principals_of Project S.holders)
    told.bounds told.graces
    (record { range = principals-fit User S.holders told.holders told.called; begin = begins.0; single = singles.0 })
    (record { range = principals-fit Group S.holders told.holders told.called; begin = begins.1; single = singles.1 })
    (record { range = principals-fit Project S.holders told.holders told.called; begin = begins.2; single = singles.2 })

sorted-tests : (behind users groups : Bool)
    → (((((true && behind) && true) && true) && (users && groups)) && true) ≡ ((((true && users) && groups) && true) && behind)
sorted-tests true true true = refl
sorted-tests true true false = refl
sorted-tests true false groups = refl
sorted-tests false true true = refl
sorted-tests false true false = refl
sorted-tests false false groups = refl

pub inode-order : (S : State) (e : ℕ × Inode) → IsTold S → holds_nothing e.1 ≡ true
    → is_ordered (record S { inodes = S.inodes ++ e ∷ [] })
    ≡ ((((true && not (are_none (principals_of User S.holders))) && not (are_none (principals_of Group S.holders))) && true)
    && is_behind nat_cmp (keys_of S.inodes) e.0)
inode-order S e told holds =
    let numbers : do_rise nat_cmp (keys_of (S.inodes ++ e ∷ [])) ≡ is_behind nat_cmp (keys_of S.inodes) e.0 =
    ap (do_rise nat_cmp) (map-end (λ (x : ℕ × Inode). x.0) S.inodes e) ∙ rise-end nat_cmp (keys_of S.inodes) e.0 told.numbers_rise in
    let hold : list_all holds_nothing (values_of (S.inodes ++ e ∷ [])) ≡ true =
    ap (list_all holds_nothing) (map-end (λ (x : ℕ × Inode). x.1) S.inodes e) ∙ all-end holds_nothing (values_of S.inodes) e.1 told.hold ∙ holds in
    let granted : is_granted (S.inodes ++ e ∷ []) (setup_of S)
    ≡ (not (are_none (principals_of User S.holders)) && not (are_none (principals_of Group S.holders))) =
    granted-end S.inodes e (setup_of S) ∙ own-where S told in
    rw (told.holders_rise, numbers, told.names_rise, hold, granted, told.begin)
    (sorted-tests (is_behind nat_cmp (keys_of S.inodes) e.0) (not (are_none (principals_of User S.holders))) (not (are_none (principals_of Group S.holders))))

pub inode-tests : (S : State) (first second : Row) (rest : List Row) (e : ℕ × Inode) → IsTold S → S.names ≡ []
    → (are_numbers_fit (first ∷ second ∷ rest) (record S { inodes = S.inodes ++ e ∷ [] }) ≡ is_inode_fit S e)
    × (has_good_names (record S { inodes = S.inodes ++ e ∷ [] }) ≡ true)
    × (list_all (has_known_owners (record S { inodes = S.inodes ++ e ∷ [] })) (values_of (S.inodes ++ e ∷ [])) ≡ has_known_owners S e.1)
    × (do_lead (record S { inodes = S.inodes ++ e ∷ [] }) ≡ true)
inode-tests S first second rest e told free =
    let es : List (ℕ × Inode) = S.inodes ++ e ∷ [] in
    let T : State = record S { inodes = es } in (
      rw (told.bounds, told.next, told.graces, told.holders, all-end (is_inode_fit S) S.inodes e told.inodes) refl,
      rw (told.called, told.single, told.paths) refl,
      ap (list_all (has_known_owners S)) (map-end (λ (x : ℕ × Inode). x.1) S.inodes e) ∙ all-end (has_known_owners S) (values_of S.inodes) e.1 told.known,
      (λ i. do_lead (record T { names = free i })) ∙ rw (few-links T es, few-named T es) refl,
    )

-- ---- the lengths of blocks

-- the size that rows tell of last, behind a row of this size
abbrev pub told_size : ℕ → List Row → ℕ
told_size size [] = size
told_size size (FileHead number owners told ∷ rows) = told_size told rows
told_size size (Block b ∷ rows) = told_size size rows
told_size size (r ∷ rows) = told_size 0 rows

pub long-more : (size : ℕ) (rows : List Row) (r : Row) → are_blocks_long size rows ≡ true
    → are_blocks_long size (rows ++ r ∷ []) ≡ are_blocks_long (told_size size rows) (r ∷ [])
long-more size [] r long = refl
long-more size (FileHead number owners told ∷ rows) r long = long-more told rows r long
long-more size (Block b ∷ rows) r long =
    let parts = and_parts _ (are_blocks_long size rows) long in
    rw (parts.0) (long-more size rows r parts.1)
long-more size (Bounds a b c ∷ rows) r long = long-more 0 rows r long
long-more size (Grace g ∷ rows) r long = long-more 0 rows r long
long-more size (Record h b i ∷ rows) r long = long-more 0 rows r long
long-more size (Directory number owners ∷ rows) r long = long-more 0 rows r long
long-more size (Name key number ∷ rows) r long = long-more 0 rows r long
