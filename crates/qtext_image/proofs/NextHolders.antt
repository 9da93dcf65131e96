-- What one holder more does to the principals of each kind, and when a state's setup is granted.
use Rattle.std.proofs.Common.{◌≡◌, ℕ, ◌==◌, Bool, true, false, not, ◌&&◌, ◌||◌, cond, nat_le, nat_lt, List, [], ◌∷◌, ◌++◌, filter, length, map, is_some, refl, sym, ap, ◌∙◌, arith, tests}
use Rattle.std.specs.declared.cmp.Ordering.TheVariants.{Less, Equal, Greater}
use Rattle.std.specs.List.{list_all, list_any, AllByRecursion}
use Rattle.std.specs.Ordering.{is_lt, nat_cmp, ordering_then}
use Rattle.std.specs.Str.{bytes_eq}
use Rattle.std.proofs.lemmas.Bool.{and_parts, or_parts}
use Rattle.std.proofs.lemmas.List.{append-nil, map-append}
use Rattle.std.proofs.lemmas.List.Elements.{filter-append}
use Rattle.qrules.specs.declared.graces.Graces.{Graces}
use Rattle.qrules.specs.declared.kind.Kind.{Kind}
use Rattle.qrules.specs.declared.kind.Kind.TheVariants.{User, Group, Project}
use Rattle.qrules.specs.Kinds.{is_same_kind, rank_of}
use Rattle.qrules.specs.Range.{are_graces_in_range, are_limits_in_range}
use Rattle.qplain.specs.declared.principal.Principal.{Principal}
use Rattle.qplain.specs.declared.principal.TheConstants.{MAX_PRINCIPALS}
use Rattle.qplain.specs.declared.setup.TheConstants.{MAX_BLOCKS, MAX_INODES}
use Rattle.qplain.specs.Principals.{are_in_range, collide, has_duplicate, is_principal_in_range, is_principal_name}
use Rattle.qplain.specs.Setups.{setting, setup_fault}
use Rattle.qplain.specs.State.{Holder, State, holder_cmp}
use Rattle.qtext.proofs.Joining.{and_both}
use Rattle.qtext_image.specs.Faults.{do_kinds_begin, has_twins, is_begun_kind, is_end_fit, is_holder_fit}
use Rattle.qtext_image.specs.NextFaults.{are_none, is_behind, is_name_taken}
use Rattle.qtext_image.specs.Setups.{principal_of, principals_of}
use Rattle.qtext_image.proofs.NextLists.{and-true, any-end, or-false}

-- ---- principals

-- the principals of a kind with one holder more
principals-end : (kind : Kind) (hs : List Holder) (h : Holder)
    → principals_of kind (hs ++ h ∷ []) ≡ principals_of kind hs ++ map principal_of (filter (λ x. is_same_kind kind x.kind) (h ∷ []))
principals-end kind hs h =
    ap (map principal_of) (filter-append (λ (x : Holder). is_same_kind kind x.kind) hs (h ∷ []))
    ∙ map-append principal_of (filter (λ (x : Holder). is_same_kind kind x.kind) hs) (filter (λ (x : Holder). is_same_kind kind x.kind) (h ∷ []))

own-end : (kind : Kind) (hs : List Holder) (h : Holder) → is_same_kind kind h.kind ≡ true
    → principals_of kind (hs ++ h ∷ []) ≡ principals_of kind hs ++ principal_of h ∷ []
own-end kind hs h own = principals-end kind hs h ∙ ap (λ b. principals_of kind hs ++ map principal_of (cond b (h ∷ []) [])) own

other-end : (kind : Kind) (hs : List Holder) (h : Holder) → is_same_kind kind h.kind ≡ false → principals_of kind (hs ++ h ∷ []) ≡ principals_of kind hs
other-end kind hs h other =
    principals-end kind hs h ∙ ap (λ b. principals_of kind hs ++ map principal_of (cond b (h ∷ []) [])) other ∙ append-nil (principals_of kind hs)

pub begin-parts : (S : State) → do_kinds_begin S ≡ true → (is_begun_kind (principals_of User S.holders) ≡ true)
    × (is_begun_kind (principals_of Group S.holders) ≡ true) × (is_begun_kind (principals_of Project S.holders) ≡ true)
begin-parts S begin =
    let all = and_parts (is_begun_kind (principals_of User S.holders) && is_begun_kind (principals_of Group S.holders))
    (is_begun_kind (principals_of Project S.holders)) begin in
    let two = and_parts (is_begun_kind (principals_of User S.holders)) (is_begun_kind (principals_of Group S.holders)) all.0 in
    (two.0, two.1, all.1)

pub single-parts : (S : State) → has_twins S ≡ false → (has_duplicate (principals_of User S.holders) ≡ false)
    × (has_duplicate (principals_of Group S.holders) ≡ false) × (has_duplicate (principals_of Project S.holders) ≡ false)
single-parts S single =
    let all = or_parts (has_duplicate (principals_of User S.holders) || has_duplicate (principals_of Group S.holders))
    (has_duplicate (principals_of Project S.holders)) single in
    let two = or_parts (has_duplicate (principals_of User S.holders)) (has_duplicate (principals_of Group S.holders)) all.0 in
    (two.0, two.1, all.1)

-- the principals of each kind begin where those of the holder's kind do
pub kinds-end : (S : State) (h : Holder) → do_kinds_begin S ≡ true
    → do_kinds_begin (record S { holders = S.holders ++ h ∷ [] }) ≡ is_begun_kind (principals_of h.kind S.holders ++ principal_of h ∷ [])
kinds-end S h begin = by h.kind refl
  where
    each : (kind : Kind) → is_begun_kind (principals_of kind S.holders) ≡ true
    each User = (begin-parts S begin).0
    each Group = (begin-parts S begin).1
    each Project = (begin-parts S begin).2

    by : (kind : Kind) → h.kind ≡ kind
        → do_kinds_begin (record S { holders = S.holders ++ h ∷ [] }) ≡ is_begun_kind (principals_of kind S.holders ++ principal_of h ∷ [])
    by User is =
        rw (
          own-end User S.holders h (ap (is_same_kind User) is),
          other-end Group S.holders h (ap (is_same_kind Group) is),
          other-end Project S.holders h (ap (is_same_kind Project) is),
          each Group,
          each Project,
        )
        (and-true _ ∙ and-true _)
    by Group is =
        rw (
          other-end User S.holders h (ap (is_same_kind User) is),
          own-end Group S.holders h (ap (is_same_kind Group) is),
          other-end Project S.holders h (ap (is_same_kind Project) is),
          each User,
          each Project,
        )
        (and-true _)
    by Project is =
        rw (
          other-end User S.holders h (ap (is_same_kind User) is),
          other-end Group S.holders h (ap (is_same_kind Group) is),
          own-end Project S.holders h (ap (is_same_kind Project) is),
          each User,
          each Group,
        )
        refl

-- ---- twins

-- of the same kind, one that stands before has another id
lower : (a b x y : ℕ) → is_lt (ordering_then (nat_cmp a b) (nat_cmp x y)) ≡ true → a ≡ b → (x == y) ≡ false
lower a b x y e same = by (nat_lt a b) (a == b) (nat_lt x y) (x == y) refl refl refl refl e
  where
    by : (l s m t : Bool) → nat_lt a b ≡ l → (a == b) ≡ s → nat_lt x y ≡ m → (x == y) ≡ t
        → is_lt (ordering_then (cond l Less (cond s Equal Greater)) (cond m Less (cond t Equal Greater))) ≡ true → t ≡ false
    by l s m false less is low even e = refl
    by true s m true less is low even e = absurd (grind (arith, tests, less, same))
    by false true true true less is low even e = absurd (grind (arith, tests, low, even))
    by false true false true less is low even e = absurd (cc e)
    by false false m true less is low even e = absurd (cc e)

differ-of : (kind : Kind) (hs : List Holder) (h : Holder) → h.kind ≡ kind → is_behind holder_cmp hs h ≡ true
    → AllByRecursion (λ q. (q.id == h.id) ≡ false) (principals_of kind hs)
differ-of kind [] h own behind = tt
differ-of kind (g ∷ hs) h own behind =
    let parts = and_parts (is_lt (holder_cmp g h)) (is_behind holder_cmp hs h) behind in
    by g.kind kind own refl parts.0 (differ-of kind hs h own parts.1)
  where
    by : (k l : Kind) → h.kind ≡ l → g.kind ≡ k → is_lt (holder_cmp g h) ≡ true → AllByRecursion (λ q. (q.id == h.id) ≡ false) (principals_of l hs)
        → AllByRecursion (λ q. (q.id == h.id) ≡ false) (map principal_of
        (cond (is_same_kind l g.kind) (g ∷ filter (λ x. is_same_kind l x.kind) hs) (filter (λ x. is_same_kind l x.kind) hs)))
    by k l own is less later = on (is_same_kind l g.kind) refl
      where
        on : (b : Bool) → is_same_kind l g.kind ≡ b → AllByRecursion (λ q. (q.id == h.id) ≡ false) (map principal_of
            (cond b (g ∷ filter (λ x. is_same_kind l x.kind) hs) (filter (λ x. is_same_kind l x.kind) hs)))
        on true same =
            let ranks : rank_of l ≡ rank_of g.kind = grind (arith, tests, same) in
            (lower (rank_of g.kind) (rank_of h.kind) g.id h.id less (sym ranks ∙ ap rank_of (sym own)), later)
        on false same = later

-- two of them collide where one has the name of the last
duplicates-end : (ps : List Principal) (p : Principal) → AllByRecursion (λ q. (q.id == p.id) ≡ false) ps → has_duplicate ps ≡ false
    → has_duplicate (ps ++ p ∷ []) ≡ list_any (λ q. bytes_eq q.name p.name) ps
duplicates-end [] p differ single = refl
duplicates-end (q ∷ ps) p differ single =
    let parts = or_parts (list_any (collide q) ps) (has_duplicate ps) single in
    λ i. (any-end (collide q) ps p parts.0 ∙ ap (λ b. b || bytes_eq q.name p.name) differ.0) i || duplicates-end ps p differ.1 parts.1 i

pub twins-end : (S : State) (h : Holder) → has_twins S ≡ false → is_behind holder_cmp S.holders h ≡ true
    → has_twins (record S { holders = S.holders ++ h ∷ [] }) ≡ is_name_taken S h
twins-end S h single behind = by h.kind refl
  where
    each : (kind : Kind) → has_duplicate (principals_of kind S.holders) ≡ false
    each User = (single-parts S single).0
    each Group = (single-parts S single).1
    each Project = (single-parts S single).2

    own : (kind : Kind) → h.kind ≡ kind → has_duplicate (principals_of kind S.holders) ≡ false
        → has_duplicate (principals_of kind S.holders ++ principal_of h ∷ []) ≡ list_any (λ p. bytes_eq p.name h.name) (principals_of kind S.holders)
    own kind is none = duplicates-end (principals_of kind S.holders) (principal_of h) (differ-of kind S.holders h is behind) none

    by : (kind : Kind) → h.kind ≡ kind
        → has_twins (record S { holders = S.holders ++ h ∷ [] }) ≡ list_any (λ p. bytes_eq p.name h.name) (principals_of kind S.holders)
    by User is =
        rw (
          own-end User S.holders h (ap (is_same_kind User) is),
          other-end Group S.holders h (ap (is_same_kind Group) is),
          other-end Project S.holders h (ap (is_same_kind Project) is),
          each Group,
          each Project,
          own User is (each User),
        )
        (or-false _ ∙ or-false _)
    by Group is =
        rw (
          other-end User S.holders h (ap (is_same_kind User) is),
          own-end Group S.holders h (ap (is_same_kind Group) is),
          other-end Project S.holders h (ap (is_same_kind Project) is),
          each User,
          each Project,
          own Group is (each Group),
        )
        (or-false _)
    by Project is =
        rw (
          other-end User S.holders h (ap (is_same_kind User) is),
          other-end Group S.holders h (ap (is_same_kind Group) is),
          own-end Project S.holders h (ap (is_same_kind Project) is),
          each User,
          each Group,
          own Project is (each Project),
        )
        refl

-- ---- the setup

-- principals of a kind are in range where they begin
pub principals-fit : (kind : Kind) (hs : List Holder) → list_all is_holder_fit hs ≡ true → list_all (λ h. is_principal_name h.name) hs ≡ true
    → list_all is_principal_in_range (principals_of kind hs) ≡ true
principals-fit kind [] fit called = refl
principals-fit kind (h ∷ hs) fit called =
    let fits = and_parts (is_holder_fit h) (list_all is_holder_fit hs) fit in
    let names = and_parts (is_principal_name h.name) (list_all (λ x. is_principal_name x.name) hs) called in
    let ends = and_parts (are_limits_in_range h.limits && is_end_fit h.block_end) (is_end_fit h.inode_end) fits.0 in
    let limits = (and_parts (are_limits_in_range h.limits) (is_end_fit h.block_end) ends.0).0 in
    by (is_same_kind kind h.kind) (and_both (is_principal_name h.name) (are_limits_in_range h.limits) names.0 limits) (principals-fit kind hs fits.1 names.1)
  where
    by : (b : Bool) → is_principal_in_range (principal_of h) ≡ true → list_all is_principal_in_range (principals_of kind hs) ≡ true
        → list_all is_principal_in_range (map principal_of
        (cond b (h ∷ filter (λ x. is_same_kind kind x.kind) hs) (filter (λ x. is_same_kind kind x.kind) hs))) ≡ true
    by true own later = rw (own, later) refl
    by false own later = later

-- what holds of the principals of a kind
pub record IsKindFit (ps : List Principal) : Type 0 where
  pub range : list_all is_principal_in_range ps ≡ true
  pub begin : is_begun_kind ps ≡ true
  pub single : has_duplicate ps ≡ false

some-in-range : (p : Principal) (ps : List Principal) → IsKindFit (p ∷ ps) → are_in_range (p ∷ ps) ≡ true
some-in-range p ps fit =
    let few = (and_parts (p.id == 0) (nat_le (length (p ∷ ps)) MAX_PRINCIPALS) fit.begin).1 in
    let some : nat_le 1 (length (p ∷ ps)) ≡ true = grind (arith, tests) in
    rw (some, few, fit.range) refl

some-zero : (p : Principal) (ps : List Principal) → IsKindFit (p ∷ ps) → (p.id == 0) ≡ true
some-zero p ps fit = (and_parts (p.id == 0) (nat_le (length (p ∷ ps)) MAX_PRINCIPALS) fit.begin).0

pub some-there : {A : Type 0} (x : A) (xs : List A) → are_none (x ∷ xs) ≡ false
some-there x xs = grind (arith, tests)

-- a setup of such kinds is granted where there are users and groups, and only there
pub granted-where : (blocks inodes : ℕ) (g : Graces) (us gs ps : List Principal)
    → (nat_le 1 blocks && nat_le blocks MAX_BLOCKS && nat_le 1 inodes && nat_le inodes MAX_INODES) ≡ true → are_graces_in_range g ≡ true
    → IsKindFit us → IsKindFit gs → IsKindFit ps
    → not (is_some (setup_fault (setting blocks inodes g us gs ps))) ≡ (not (are_none us) && not (are_none gs))
granted-where blocks inodes g [] gs ps bounds graces user group project = rw (bounds, graces) refl
granted-where blocks inodes g (u ∷ us) [] ps bounds graces user group project = rw (bounds, graces, some-in-range u us user, some-there u us) refl
granted-where blocks inodes g (u ∷ us) (v ∷ gs) [] bounds graces user group project =
    rw (
      bounds,
      graces,
      some-in-range u us user,
      some-in-range v gs group,
      some-there u us,
      some-there v gs,
      user.single,
      group.single,
      some-zero u us user,
      some-zero v gs group,
    ) refl
granted-where blocks inodes g (u ∷ us) (v ∷ gs) (p ∷ ps) bounds graces user group project =
    rw (
      bounds,
      graces,
      some-in-range u us user,
      some-in-range v gs group,
      some-in-range p ps project,
      some-there u us,
      some-there v gs,
      user.single,
      group.single,
      project.single,
      some-zero u us user,
      some-zero v gs group,
      some-zero p ps project,
    ) refl
