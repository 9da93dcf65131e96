-- A new store of a setup that is not refused is lawful.
use Rattle.std.proofs.Common.{◌≡◌, ℕ, suc, ◌+◌, ◌*◌, ◌<◌, ◌≤◌, ◌==◌, Bool, true, false, not, ◌&&◌, ◌||◌, nat_le, nat_lt, cond, List, [], ◌∷◌, All, ◌++◌, map, slice_index_or, Some, None, refl, sym, ap, ◌∙◌, tests, arith}
use Rattle.std.specs.List.{AllByRecursion, list_all, list_any}
use Rattle.std.specs.List.Sorted.{IsNonDecreasingBy, IsStrictlySortedBy}
use Rattle.std.specs.declared.cmp.Ordering.TheVariants.{Less}
use Rattle.std.specs.Ordering.{nat_cmp, ordering_then}
use Rattle.std.proofs.lemmas.List.Elements.{All-append, All-cons, All-map, All-nil, recursion_from_All}
use Rattle.std.proofs.lemmas.List.Folds.{list_any-append}
use Rattle.qrules.specs.declared.kind.Kind.{Kind}
use Rattle.qrules.specs.declared.kind.Kind.TheVariants.{User, Group, Project}
use Rattle.qrules.specs.Kinds.{is_same_kind, rank_of}
use Rattle.qrules.specs.Sort.{is_over}
use Rattle.qrules.proofs.Ranks.{each_kind, same_kind-refl}
use Rattle.std.proofs.lemmas.Bool.{and_parts, or_left, or_parts}
use Rattle.std.specs.declared.cmp.Ordering.{Ordering}
use Rattle.qrules.specs.Account.{HasEnds}
use Rattle.qplain.specs.declared.principal.Principal.{Principal}
use Rattle.qplain.specs.declared.setup.SetupFault.TheVariants.{Range, Duplicate, NoZero}
use Rattle.qrules.specs.Range.{are_graces_in_range}
use Rattle.qplain.specs.declared.setup.TheConstants.{MAX_BLOCKS, MAX_INODES}
use Rattle.qplain.specs.declared.bounds.TheConstants.{ROOT}
use Rattle.qplain.specs.Principals.{are_in_range, collide, has_duplicate, has_zero, if_any, is_principal_in_range}
use Rattle.qplain.specs.Setups.{IsLawfulSetup, Setting, is_in_range, principals_in, setup_fault}
use Rattle.qplain.specs.State.{Holder, declared_in, holder_cmp, holder_of, root, root_project, start}
use Rattle.qplain.specs.Use.{account_of, belongs_to, owner}
use Rattle.qplain.specs.Known.{is_declared, is_holder}
use Rattle.qplain_laws.specs.Laws.{AreKnown, IsSound, StartIsLawful, has_kind, has_right_names, is_known_owner, leads}
use Rattle.qplain_laws.proofs.Fitting.{or_right}
use Rattle.qplain_laws.proofs.Sound.{empty-sound}
use Rattle.qplain_laws.proofs.Orders.{nat_cmp-below}

-- what a setting that is not refused has passed
record HasPassed (s : Setting) : Type 0 where
  range : is_in_range s ≡ true
  single : (kind : Kind) → has_duplicate (principals_in kind s) ≡ false
  user : has_zero s.users ≡ true
  group : has_zero s.groups ≡ true
  project : if_any has_zero s.projects ≡ true

passed : (s : Setting) → setup_fault s ≡ None → HasPassed s
passed s granted =
    let tests = by (is_in_range s) (has_duplicate s.users || has_duplicate s.groups || has_duplicate s.projects)
    (has_zero s.users && has_zero s.groups && if_any has_zero s.projects) granted in
    let single = or_parts (has_duplicate s.users || has_duplicate s.groups) (has_duplicate s.projects) tests.1 in
    let others = or_parts (has_duplicate s.users) (has_duplicate s.groups) single.0 in
    let zero = and_parts (has_zero s.users && has_zero s.groups) (if_any has_zero s.projects) tests.2 in
    let other = and_parts (has_zero s.users) (has_zero s.groups) zero.0 in
    record {
      range = tests.0;
      single = each_kind (λ kind. has_duplicate (principals_in kind s) ≡ false) others.0 others.1 single.1;
      user = other.0;
      group = other.1;
      project = zero.1;
    }
  where
    by : (r d z : Bool) → cond (not r) (Some Range) (cond d (Some Duplicate) (cond (not z) (Some NoZero) None)) ≡ None
        → (r ≡ true) × (d ≡ false) × (z ≡ true)
    by true false true h = (refl, refl, refl)
    by true false false h = cc
    by true true z h = cc
    by false d z h = cc

-- what a setting in range has passed
pub record IsRanged (s : Setting) : Type 0 where
  pub blocks : nat_le s.blocks MAX_BLOCKS ≡ true
  pub some_inodes : nat_le 1 s.inodes ≡ true
  pub inodes : nat_le s.inodes MAX_INODES ≡ true
  pub graces : are_graces_in_range s.graces ≡ true
  pub users : are_in_range s.users ≡ true
  pub groups : are_in_range s.groups ≡ true
  pub projects : if_any are_in_range s.projects ≡ true

-- and so it has
ranged_by : (s : Setting) → is_in_range s ≡ true → IsRanged s
ranged_by s ranges =
    let projects = and_parts _ (if_any are_in_range s.projects) ranges in
    let groups = and_parts _ (are_in_range s.groups) projects.0 in
    let users = and_parts _ (are_in_range s.users) groups.0 in
    let graces = and_parts _ (are_graces_in_range s.graces) users.0 in
    let inodes = and_parts _ (nat_le s.inodes MAX_INODES) graces.0 in
    let some = and_parts _ (nat_le 1 s.inodes) inodes.0 in
    let blocks = and_parts _ (nat_le s.blocks MAX_BLOCKS) some.0 in
    record {
      blocks = blocks.1;
      some_inodes = some.1;
      inodes = inodes.1;
      graces = graces.1;
      users = users.1;
      groups = groups.1;
      projects = projects.1;
    }

-- the limits of principals in range are
principals-by : (ps : List Principal) → are_in_range ps ≡ true → list_all is_principal_in_range ps ≡ true
principals-by ps are = (and_parts _ (list_all is_principal_in_range ps) are).1

-- also where there may be none
principals-if_any : (ps : List Principal) → if_any are_in_range ps ≡ true → list_all is_principal_in_range ps ≡ true
principals-if_any [] are = refl
principals-if_any (p ∷ ps) are = principals-by (p ∷ ps) are

-- one inode or none is over no limit
not_over-inodes : (b : Bool) (soft : ℕ) → is_over (0 + cond b 1 0) soft ≡ false
not_over-inodes true soft = grind (arith, tests)
not_over-inodes false soft = grind (arith, tests)

-- no block is over no limit
not_over-blocks : (b : Bool) (soft : ℕ) → is_over (4 * (0 + cond b 0 0)) soft ≡ false
not_over-blocks true soft = grind (arith, tests)
not_over-blocks false soft = grind (arith, tests)

-- the holders of a new store have no ends, and are over no soft limit
ends-start : (s : Setting) (kind : Kind) (p : Principal) → HasEnds (account_of (start s) (holder_of kind p))
ends-start s kind p = record {
  inodes = sym (not_over-inodes (belongs_to kind p.id (root s)) p.limits.inode_soft);
  blocks = sym (not_over-blocks (belongs_to kind p.id (root s)) p.limits.block_soft);
}

-- a kind with an id 0 declares it
declared-zero : (kind : Kind) (ps : List Principal) → list_any (is_holder kind 0) (map (holder_of kind) ps) ≡ has_zero ps
declared-zero kind [] = refl
declared-zero kind (p ∷ ps) =
    let here : (is_same_kind kind kind && 0 == p.id) ≡ (p.id == 0) = rw (same_kind-refl kind) (grind (arith, tests)) in
    λ i. here i || declared-zero kind ps i

-- principals by id that do not collide come one after the other
rank-itself : (kind : Kind) (x y : ℕ) → x < y → ordering_then (nat_cmp (rank_of kind) (rank_of kind)) (nat_cmp x y) ≡ Less
rank-itself kind x y l = grind (arith, tests, nat_cmp-below x y l)

above-holders : (kind : Kind) (p : Principal) (ps : List Principal) → AllByRecursion (λ q. p.id ≤ q.id) ps → list_any (collide p) ps ≡ false
    → AllByRecursion (λ h. holder_cmp (holder_of kind p) h ≡ Less) (map (holder_of kind) ps)
above-holders kind p [] up h = tt
above-holders kind p (q ∷ ps) up h =
    let parts : (collide p q ≡ false) × (list_any (collide p) ps ≡ false) = or_parts (collide p q) (list_any (collide p) ps) h in
    let ids : (p.id == q.id) ≡ false = (or_parts (p.id == q.id) _ parts.0).0 in
    let le : p.id ≤ q.id = up.0 in
    let less : p.id < q.id = grind (arith, tests, ids, le) in
    (rank-itself kind p.id q.id less, above-holders kind p ps up.1 parts.1)

sorted-holders : (kind : Kind) (ps : List Principal) → IsNonDecreasingBy (λ p. p.id) ps → has_duplicate ps ≡ false
    → IsStrictlySortedBy holder_cmp (map (holder_of kind) ps)
unfolding IsStrictlySortedBy
sorted-holders kind [] up h = tt
sorted-holders kind (p ∷ ps) up h =
    let parts : (list_any (collide p) ps ≡ false) × (has_duplicate ps ≡ false) = or_parts (list_any (collide p) ps) (has_duplicate ps) h in
    let each : All (λ (q : Principal). p.id ≤ q.id) ps = λ k d below. up 0 (suc k) d (omega arith) (omega arith) in (
      above-holders kind p ps (recursion_from_All (λ (q : Principal). p.id ≤ q.id) ps each) parts.0,
      sorted-holders kind ps (λ i j d le below. up (suc i) (suc j) d (omega arith) (omega arith)) parts.1,
    )

-- a holder comes before every one of a kind behind its own
before-kind : (k l : Kind) → nat_lt (rank_of k) (rank_of l) ≡ true → (p : Principal) (qs : List Principal)
    → AllByRecursion (λ h. holder_cmp (holder_of k p) h ≡ Less) (map (holder_of l) qs)
before-kind k l below p [] = tt
before-kind k l below p (q ∷ qs) = (less (nat_cmp p.id q.id), before-kind k l below p qs)
  where
    less : (o : Ordering) → ordering_then (nat_cmp (rank_of k) (rank_of l)) o ≡ Less
    less o = ap (λ r. ordering_then r o) (nat_cmp-below (rank_of k) (rank_of l) (grind (arith, tests, below)))

above-append : (h : Holder) (xs ys : List Holder) → AllByRecursion (λ g. holder_cmp h g ≡ Less) xs → AllByRecursion (λ g. holder_cmp h g ≡ Less) ys
    → AllByRecursion (λ g. holder_cmp h g ≡ Less) (xs ++ ys)
above-append h [] ys p q = q
above-append h (x ∷ xs) ys p q = (p.0, above-append h xs ys p.1 q)

-- holders of one kind stand before those of kinds behind it
sorted-append : (kind : Kind) (ps : List Principal) (ys : List Holder) → IsStrictlySortedBy holder_cmp (map (holder_of kind) ps)
    → IsStrictlySortedBy holder_cmp ys → ((p : Principal) → AllByRecursion (λ h. holder_cmp (holder_of kind p) h ≡ Less) ys)
    → IsStrictlySortedBy holder_cmp (map (holder_of kind) ps ++ ys)
unfolding IsStrictlySortedBy
sorted-append kind [] ys p q before = q
sorted-append kind (u ∷ us) ys p q before =
    (above-append (holder_of kind u) (map (holder_of kind) us) ys p.0 (before u), sorted-append kind us ys p.1 q before)

module _ (s : Setting) (setup : IsLawfulSetup s) where
  passes : HasPassed s
  passes = passed s setup.granted

  -- every number of the setup is in its range
  pub ranged : IsRanged s
  ranged = ranged_by s passes.range

  -- and each principal is
  pub principals-ranged : (kind : Kind) → list_all is_principal_in_range (principals_in kind s) ≡ true
  principals-ranged = each_kind (λ kind. list_all is_principal_in_range (principals_in kind s) ≡ true)
      (principals-by s.users ranged.users) (principals-by s.groups ranged.groups) (principals-if_any s.projects ranged.projects)

  -- no two principals of a kind collide
  pub single : (kind : Kind) → has_duplicate (principals_in kind s) ≡ false
  single kind = passes.single kind

  sorted-kind : (kind : Kind) → IsStrictlySortedBy holder_cmp (declared_in kind s)
  sorted-kind kind = sorted-holders kind (principals_in kind s) (setup.sorted kind) (passes.single kind)

  sorted-start : IsStrictlySortedBy holder_cmp (start s).holders
  sorted-start =
      sorted-append User s.users (declared_in Group s ++ declared_in Project s) (sorted-kind User)
      (sorted-append Group s.groups (declared_in Project s) (sorted-kind Group) (sorted-kind Project)
      (λ p. before-kind Group Project refl p s.projects))
      (λ p. above-append (holder_of User p) (declared_in Group s) (declared_in Project s)
      (before-kind User Group refl p s.groups) (before-kind User Project refl p s.projects))

  -- what holds of the holders of each kind holds of all
  pub all-declared : (P : Holder → Type 0) → ((kind : Kind) → All P (declared_in kind s)) → All P (start s).holders
  all-declared P each =
      All-append P (declared_in User s) (declared_in Group s ++ declared_in Project s) (each User)
      (All-append P (declared_in Group s) (declared_in Project s) (each Group) (each Project))

  ends-kind : (kind : Kind) → All (λ h. HasEnds (account_of (start s) h)) (declared_in kind s)
  ends-kind kind =
      All-map (λ h. HasEnds (account_of (start s) h)) (holder_of kind) (principals_in kind s)
      (λ k d below. ends-start s kind (slice_index_or (principals_in kind s) k d))

  -- what some holder of a kind passes, some holder passes
  among : (test : Holder → Bool) (kind : Kind) → list_any test (declared_in kind s) ≡ true → list_any test (start s).holders ≡ true
  among test kind found =
      list_any-append test (declared_in User s) (declared_in Group s ++ declared_in Project s)
      ∙ ap (λ b. list_any test (declared_in User s) || b) (list_any-append test (declared_in Group s) (declared_in Project s))
      ∙ each_kind (λ k. list_any test (declared_in k s) ≡ true
      → (list_any test (declared_in User s) || (list_any test (declared_in Group s) || list_any test (declared_in Project s))) ≡ true)
      (λ h. or_left (list_any test (declared_in User s)) _ h)
      (λ h. or_right (list_any test (declared_in User s)) _ (or_left (list_any test (declared_in Group s)) _ h))
      (λ h. or_right (list_any test (declared_in User s)) _ (or_right (list_any test (declared_in Group s)) _ h))
      kind found

  -- id 0 of a kind that has it is declared
  zero-declared : (kind : Kind) → has_zero (principals_in kind s) ≡ true → is_declared (start s) kind 0 ≡ true
  zero-declared kind zero = among (is_holder kind 0) kind (declared-zero kind (principals_in kind s) ∙ zero)

  -- where no project is declared, there is no holder of the kind
  no-project : s.projects ≡ [] → has_kind (start s) Project ≡ false
  no-project none =
      list_any-append (λ h. is_same_kind Project h.kind) (declared_in User s) (declared_in Group s ++ declared_in Project s)
      ∙ ap (λ b. list_any (λ h. is_same_kind Project h.kind) (declared_in User s) || b)
      (list_any-append (λ h. is_same_kind Project h.kind) (declared_in Group s) (declared_in Project s))
      ∙ (λ i. others User refl s.users i || (others Group refl s.groups i || list_any (λ h. is_same_kind Project h.kind) (map (holder_of Project) (none i))))
    where
      others : (kind : Kind) → is_same_kind Project kind ≡ false → (ps : List Principal)
          → list_any (λ h. is_same_kind Project h.kind) (map (holder_of kind) ps) ≡ false
      others kind other [] = refl
      others kind other (p ∷ ps) = λ i. other i || others kind other ps i

  -- the project of the root is known
  known-root_project : (ps : List Principal) → s.projects ≡ ps → if_any has_zero ps ≡ true
      → is_known_owner (start s) Project (root_project ps) ≡ true
  known-root_project [] same zero = ap not (no-project same)
  known-root_project (p ∷ ps) same zero = zero-declared Project (ap has_zero same ∙ zero)

  known-root : AreKnown (start s) (root s).owners
  known-root = each_kind (λ kind. is_known_owner (start s) kind (owner kind (root s).owners) ≡ true)
      (zero-declared User passes.user) (zero-declared Group passes.group) (known-root_project s.projects refl passes.project)

pub start_is_lawful : StartIsLawful
unfolding IsStrictlySortedBy
start_is_lawful s setup =
    let one = (ranged s setup).some_inodes in
    record {
      blocks_fit = omega arith;
      inodes_fit = grind (arith, tests, one);
      ends_stand = all-declared s setup (λ h. HasEnds (account_of (start s) h)) (ends-kind s setup);
      next_fits = omega arith;
      parts = record {
        links = refl;
        holders = sorted-start s setup;
        inodes = record {
          in_order = (tt, tt);
          fresh = All-cons (λ e. nat_lt e.0 2 ≡ true) (ROOT, root s) [] refl (All-nil (λ e. nat_lt e.0 2 ≡ true));
          owners_known = All-cons (λ inode. AreKnown (start s) inode.owners) (root s) [] (known-root s setup)
              (All-nil (λ inode. AreKnown (start s) inode.owners));
          sound = All-cons IsSound (root s) [] (empty-sound (root s) refl) (All-nil IsSound);
          root_stands = refl;
        };
        names = record {
          in_order = tt;
          lead = All-nil (λ e. leads (start s) e ≡ true);
          counted = All-cons (λ e. has_right_names (start s) e ≡ true) (ROOT, root s) [] refl (All-nil (λ e. has_right_names (start s) e ≡ true));
        };
      };
    }
