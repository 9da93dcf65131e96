-- The setup that a state tells of is granted where the state is one of some setup.
use Rattle.std.proofs.Common.{◌≡◌, ℕ, ◌≤◌, ◌==◌, Bool, true, false, not, ◌&&◌, ◌||◌, cond, nat_le, List, [], ◌∷◌, ◌++◌, length, map, Some, None, refl, sym, ap, ◌∙◌, arith, tests, length-append}
use Rattle.std.specs.List.{list_all, AllByRecursion}
use Rattle.std.proofs.lemmas.Bool.{and_parts, or_parts}
use Rattle.std.proofs.lemmas.List.{map-append}
use Rattle.std.proofs.lemmas.List.Elements.{filter-append, recursion_from_All}
use Rattle.qrules.specs.declared.kind.Kind.{Kind}
use Rattle.qrules.specs.declared.kind.Kind.TheVariants.{User, Group, Project}
use Rattle.qrules.specs.Kinds.{is_same_kind}
use Rattle.qrules.specs.Range.{are_graces_in_range, are_limits_in_range}
use Rattle.qplain.specs.declared.principal.Principal.{Principal}
use Rattle.qplain.specs.declared.principal.TheConstants.{MAX_PRINCIPALS}
use Rattle.qplain.specs.declared.setup.SetupFault.TheVariants.{Range, Duplicate, NoZero}
use Rattle.qplain.specs.declared.setup.TheConstants.{MAX_BLOCKS, MAX_INODES}
use Rattle.qplain.specs.Principals.{are_in_range, has_duplicate, has_zero, if_any, is_principal_in_range}
use Rattle.qplain.specs.Setups.{Setting, is_in_range, principals_in, setup_fault}
use Rattle.qplain.specs.State.{Holder, State}
use Rattle.qplain_laws.specs.Beginnings.{IsStateOf}
use Rattle.qplain_laws.specs.SettingRanges.{IsHolderInRange}
use Rattle.qplain_laws.proofs.Start.{single}
use Rattle.qrules.proofs.Ranks.{each_kind}
use Rattle.std.specs.List.Sorted.{IsNonDecreasingBy}
use Rattle.qtext_image.specs.Faults.{is_begun_kind}
use Rattle.qtext_image.proofs.Ranked.{kinds-rise}
use Rattle.qtext_image.specs.Setups.{principal_of, principals_of, setup_of}
use Rattle.qtext_image.proofs.Keys.{key, keys-same, duplicates-same, zeros-same, range-same, any-same-kind, limits-of, of_kind}

-- what a setup that is granted has passed
record IsGranted (s : Setting) : Type 0 where
  range : is_in_range s ≡ true
  single : (has_duplicate s.users || has_duplicate s.groups || has_duplicate s.projects) ≡ false
  zero : (has_zero s.users && has_zero s.groups && if_any has_zero s.projects) ≡ true

granted : (s : Setting) → setup_fault s ≡ None → IsGranted s
granted s none =
    let parts = by (is_in_range s) (has_duplicate s.users || has_duplicate s.groups || has_duplicate s.projects)
    (has_zero s.users && has_zero s.groups && if_any has_zero s.projects) none in
    record { range = parts.0; single = parts.1; zero = parts.2 }
  where
    by : (r d z : Bool) → cond (not r) (Some Range) (cond d (Some Duplicate) (cond (not z) (Some NoZero) None)) ≡ None → (r ≡ true) × (d ≡ false) × (z ≡ true)
    by true false true e = (refl, refl, refl)
    by false d z e = absurd (cc e)
    by true true z e = absurd (cc e)
    by true false false e = absurd (cc e)

-- its bounds are such as a setup may have
pub granted-bounds : (s : Setting) → setup_fault s ≡ None
    → (nat_le 1 s.blocks && nat_le s.blocks MAX_BLOCKS && nat_le 1 s.inodes && nat_le s.inodes MAX_INODES) ≡ true
granted-bounds s none =
    let projects = and_parts _ (if_any are_in_range s.projects) (granted s none).range in
    let groups = and_parts _ (are_in_range s.groups) projects.0 in
    let users = and_parts _ (are_in_range s.users) groups.0 in
    (and_parts _ (are_graces_in_range s.graces) users.0).0

any-of : (test : List Principal → Bool) (ps : List Principal) → test ps ≡ true → if_any test ps ≡ true
any-of test [] is = refl
any-of test (p ∷ ps) is = is

zero-in : (n : ℕ) (ps : List Principal) → AllByRecursion (λ p. n ≤ p.id) ps → has_zero ps ≡ true → (n == 0) ≡ true
zero-in n [] above found = absurd (cc found)
zero-in n (p ∷ ps) above found = by (p.id == 0) refl found (zero-in n ps above.1)
  where
    by : (b : Bool) → (p.id == 0) ≡ b → (b || has_zero ps) ≡ true → (has_zero ps ≡ true → (n == 0) ≡ true) → (n == 0) ≡ true
    by true at found later = grind (arith, tests, above.0, at)
    by false at found later = later found

begin-of : (ps : List Principal) → IsNonDecreasingBy (λ p. p.id) ps → if_any are_in_range ps ≡ true → if_any has_zero ps ≡ true → is_begun_kind ps ≡ true
begin-of [] up range zero = refl
begin-of (p ∷ ps) up range zero =
    let each = and_parts _ (list_all is_principal_in_range (p ∷ ps)) range in
    let few = and_parts (nat_le 1 (length (p ∷ ps))) (nat_le (length (p ∷ ps)) MAX_PRINCIPALS) each.0 in
    let above : AllByRecursion (λ q. p.id ≤ q.id) (p ∷ ps) =
    recursion_from_All (λ (q : Principal). p.id ≤ q.id) (p ∷ ps) (λ k d below. up 0 k d (omega arith) below) in
    rw (zero-in p.id (p ∷ ps) above zero, few.1) refl

begin-front : (ps qs : List Principal) → is_begun_kind (ps ++ qs) ≡ true → is_begun_kind ps ≡ true
begin-front [] qs begin = refl
begin-front (p ∷ ps) qs begin =
    let parts = and_parts (p.id == 0) (nat_le (length (p ∷ (ps ++ qs))) MAX_PRINCIPALS) begin in
    let few : nat_le (length (p ∷ ps)) MAX_PRINCIPALS ≡ true = grind (arith, tests, parts.1, length-append ps qs) in
    rw (parts.0, few) refl

-- the first principals of a kind begin at zero where all do
pub begin-first : (kind : Kind) (hs more whole : List Holder) → hs ++ more ≡ whole → is_begun_kind (principals_of kind whole) ≡ true
    → is_begun_kind (principals_of kind hs) ≡ true
begin-first kind hs more whole are begin =
    let parts : principals_of kind (hs ++ more) ≡ principals_of kind hs ++ principals_of kind more =
    ap (map principal_of) (filter-append (λ (h : Holder). is_same_kind kind h.kind) hs more) ∙ map-append principal_of (of_kind kind hs) (of_kind kind more) in
    begin-front (principals_of kind hs) (principals_of kind more)
    (sym (ap is_begun_kind parts) ∙ ap (λ l. is_begun_kind (principals_of kind l)) are ∙ begin)

module _ (setting : Setting) (S : State) (is : IsStateOf setting S) where
  same : (kind : Kind) → map key (principals_of kind S.holders) ≡ map key (principals_in kind setting)
  same = keys-same setting S is.keeps.holders

  limits : (kind : Kind) → list_all (λ p. are_limits_in_range p.limits) (principals_of kind S.holders) ≡ true
  limits kind = limits-of kind S.holders (recursion_from_All IsHolderInRange S.holders is.ranges.holders)

  in_range : (kind : Kind) → are_in_range (principals_in kind setting) ≡ true → are_in_range (principals_of kind S.holders) ≡ true
  in_range kind are = range-same (principals_of kind S.holders) (principals_in kind setting) (same kind) (limits kind) are

  own-range : is_in_range setting ≡ true → is_in_range (setup_of S) ≡ true
  own-range range =
      let projects = and_parts _ (if_any are_in_range setting.projects) range in
      let groups = and_parts _ (are_in_range setting.groups) projects.0 in
      let users = and_parts _ (are_in_range setting.users) groups.0 in
      let graces = and_parts _ (are_graces_in_range setting.graces) users.0 in
      let most = and_parts _ (nat_le setting.inodes MAX_INODES) graces.0 in
      let some = and_parts _ (nat_le 1 setting.inodes) most.0 in
      let blocks = and_parts (nat_le 1 setting.blocks) (nat_le setting.blocks MAX_BLOCKS) some.0 in
      rw (
        ap (nat_le 1) is.keeps.size ∙ blocks.0,
        ap (λ n. nat_le n MAX_BLOCKS) is.keeps.size ∙ blocks.1,
        ap (nat_le 1) is.keeps.most_inodes ∙ some.1,
        ap (λ n. nat_le n MAX_INODES) is.keeps.most_inodes ∙ most.1,
        is.ranges.graces,
        in_range User users.1,
        in_range Group groups.1,
        any-same-kind are_in_range (principals_of Project S.holders) setting.projects (same Project) (in_range Project) projects.1,
      ) refl

  own-single : (kind : Kind) → has_duplicate (principals_in kind setting) ≡ false → has_duplicate (principals_of kind S.holders) ≡ false
  own-single kind single = duplicates-same (principals_of kind S.holders) (principals_in kind setting) (same kind) single

  own-zero : (kind : Kind) → has_zero (principals_in kind setting) ≡ true → has_zero (principals_of kind S.holders) ≡ true
  own-zero kind zero = zeros-same (principals_of kind S.holders) (principals_in kind setting) (same kind) zero

  pub own-singles : (kind : Kind) → has_duplicate (principals_of kind S.holders) ≡ false
  own-singles kind = own-single kind (single setting is.setup kind)

  pub own-granted : setup_fault (setup_of S) ≡ None
  own-granted =
      let told = granted setting is.setup.granted in
      let projects = or_parts (has_duplicate setting.users || has_duplicate setting.groups) (has_duplicate setting.projects) told.single in
      let others = or_parts (has_duplicate setting.users) (has_duplicate setting.groups) projects.0 in
      let zeros = and_parts (has_zero setting.users && has_zero setting.groups) (if_any has_zero setting.projects) told.zero in
      let both = and_parts (has_zero setting.users) (has_zero setting.groups) zeros.0 in
      rw (
        own-range told.range,
        own-single User others.0,
        own-single Group others.1,
        own-single Project projects.1,
        own-zero User both.0,
        own-zero Group both.1,
        any-same-kind has_zero (principals_of Project S.holders) setting.projects (same Project) (own-zero Project) zeros.1,
      ) refl

  -- the principals of each kind begin at zero
  pub own-begin : (kind : Kind) → is_begun_kind (principals_of kind S.holders) ≡ true
  own-begin kind =
      let told = granted (setup_of S) own-granted in
      let projects = and_parts _ (if_any are_in_range (principals_of Project S.holders)) told.range in
      let groups = and_parts _ (are_in_range (principals_of Group S.holders)) projects.0 in
      let users = and_parts _ (are_in_range (principals_of User S.holders)) groups.0 in
      let zeros = and_parts _ (if_any has_zero (principals_of Project S.holders)) told.zero in
      let both = and_parts (has_zero (principals_of User S.holders)) (has_zero (principals_of Group S.holders)) zeros.0 in
      let up : (k : Kind) → IsNonDecreasingBy (λ p. p.id) (principals_of k S.holders) = λ k. kinds-rise k S.holders is.lawful.parts.holders in
      each_kind (λ k. is_begun_kind (principals_of k S.holders) ≡ true)
      (begin-of (principals_of User S.holders) (up User) (any-of are_in_range (principals_of User S.holders) users.1)
      (any-of has_zero (principals_of User S.holders) both.0))
      (begin-of (principals_of Group S.holders) (up Group) (any-of are_in_range (principals_of Group S.holders) groups.1)
      (any-of has_zero (principals_of Group S.holders) both.1))
      (begin-of (principals_of Project S.holders) (up Project) projects.1 zeros.1)
      kind
