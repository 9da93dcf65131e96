-- What goes by the ids and names of principals, whatever their limits are.
use Rattle.std.proofs.Common.{◌≡◌, ℕ, suc, ◌==◌, Bool, true, false, ◌||◌, cond, nat_eq, nat_le, List, [], ◌∷◌, ◌++◌, filter, length, map, refl, sym, ap, ◌∙◌}
use Rattle.std.specs.Cmp.Lexicographic.{pointwise}
use Rattle.std.specs.List.{list_all, list_any, AllByRecursion}
use Rattle.std.proofs.lemmas.Bool.{and_parts, or_parts}
use Rattle.std.proofs.lemmas.List.{append-nil, map-append}
use Rattle.std.proofs.lemmas.List.Folds.{list_any-append}
use Rattle.std.proofs.lemmas.List.Elements.{filter-append}
use Rattle.qrules.specs.declared.kind.Kind.{Kind}
use Rattle.qrules.specs.declared.kind.Kind.TheVariants.{User, Group, Project}
use Rattle.qrules.specs.Kinds.{is_same_kind}
use Rattle.qrules.specs.Range.{are_limits_in_range}
use Rattle.qplain.specs.declared.principal.Principal.{Principal}
use Rattle.qplain.specs.declared.principal.TheConstants.{MAX_PRINCIPALS}
use Rattle.qplain.specs.Principals.{are_in_range, collide, has_duplicate, has_zero, if_any, is_principal_in_range, is_principal_name}
use Rattle.qplain.specs.Setups.{Setting, principals_in}
use Rattle.qplain.specs.State.{Holder, State, declared_in, holder_of, start}
use Rattle.qplain_laws.specs.Laws.{identity_of}
use Rattle.qplain_laws.specs.SettingRanges.{IsHolderInRange}
use Rattle.qplain_laws.proofs.Start.{single}
use Rattle.qtext.proofs.Joining.{and_both}
use Rattle.qtext_image.specs.Setups.{principal_of, principals_of}

-- ---- who principals are

-- the id and the name
abbrev pub key : Principal → ℕ × List ℕ
key p = (p.id, p.name)

keys-of : (kind : Kind) (hs : List Holder) → map key (principals_of kind hs) ≡ map (λ i. (i.1, i.2)) (filter (λ i. is_same_kind kind i.0) (map identity_of hs))
keys-of kind [] = refl
keys-of kind (h ∷ hs) = by (is_same_kind kind h.kind) (keys-of kind hs)
  where
    by : (b : Bool) → map key (principals_of kind hs) ≡ map (λ i. (i.1, i.2)) (filter (λ i. is_same_kind kind i.0) (map identity_of hs))
        → map key (map principal_of (cond b (h ∷ filter (λ g. is_same_kind kind g.kind) hs) (filter (λ g. is_same_kind kind g.kind) hs)))
        ≡ map (λ i. (i.1, i.2)) (cond b (identity_of h ∷ filter (λ i. is_same_kind kind i.0) (map identity_of hs))
        (filter (λ i. is_same_kind kind i.0) (map identity_of hs)))
    by true later = ap (λ l. key (principal_of h) ∷ l) later
    by false later = later

-- the holders of a kind
abbrev pub of_kind : Kind → List Holder → List Holder
of_kind kind hs = filter (λ h. is_same_kind kind h.kind) hs

own-kind : (k l : Kind) (ps : List Principal) → is_same_kind k l ≡ true → of_kind k (map (holder_of l) ps) ≡ map (holder_of l) ps
own-kind k l [] e = refl
own-kind k l (p ∷ ps) e =
    ap (λ b. cond b (holder_of l p ∷ of_kind k (map (holder_of l) ps)) (of_kind k (map (holder_of l) ps))) e
    ∙ ap (λ xs. holder_of l p ∷ xs) (own-kind k l ps e)

other-kind : (k l : Kind) (ps : List Principal) → is_same_kind k l ≡ false → of_kind k (map (holder_of l) ps) ≡ []
other-kind k l [] e = refl
other-kind k l (p ∷ ps) e =
    ap (λ b. cond b (holder_of l p ∷ of_kind k (map (holder_of l) ps)) (of_kind k (map (holder_of l) ps))) e ∙ other-kind k l ps e

of-three : (k : Kind) (us gs ps : List Holder) → of_kind k (us ++ (gs ++ ps)) ≡ of_kind k us ++ (of_kind k gs ++ of_kind k ps)
of-three k us gs ps =
    filter-append (λ (h : Holder). is_same_kind k h.kind) us (gs ++ ps)
    ∙ ap (λ l. of_kind k us ++ l) (filter-append (λ (h : Holder). is_same_kind k h.kind) gs ps)

declared-own : (s : Setting) (kind : Kind) → of_kind kind (start s).holders ≡ declared_in kind s
declared-own s User =
    of-three User (declared_in User s) (declared_in Group s) (declared_in Project s)
    ∙ (λ i. own-kind User User s.users refl i ++ (other-kind User Group s.groups refl i ++ other-kind User Project s.projects refl i))
    ∙ append-nil (declared_in User s)
declared-own s Group =
    of-three Group (declared_in User s) (declared_in Group s) (declared_in Project s)
    ∙ (λ i. other-kind Group User s.users refl i ++ (own-kind Group Group s.groups refl i ++ other-kind Group Project s.projects refl i))
    ∙ append-nil (declared_in Group s)
declared-own s Project =
    of-three Project (declared_in User s) (declared_in Group s) (declared_in Project s)
    ∙ (λ i. other-kind Project User s.users refl i ++ (other-kind Project Group s.groups refl i ++ own-kind Project Project s.projects refl i))

principals-back : (kind : Kind) (ps : List Principal) → map principal_of (map (holder_of kind) ps) ≡ ps
principals-back kind [] = refl
principals-back kind (p ∷ ps) = ap (λ l. p ∷ l) (principals-back kind ps)

-- principals of a state are those of its setup but for limits
pub keys-same : (setting : Setting) (S : State) → map identity_of S.holders ≡ map identity_of (start setting).holders → (kind : Kind)
    → map key (principals_of kind S.holders) ≡ map key (principals_in kind setting)
keys-same setting S same kind =
    keys-of kind S.holders
    ∙ ap (λ is. map (λ i. (i.1, i.2)) (filter (λ i. is_same_kind kind i.0) is)) same
    ∙ sym (keys-of kind (start setting).holders)
    ∙ ap (λ hs. map key (map principal_of hs)) (declared-own setting kind)
    ∙ ap (map key) (principals-back kind (principals_in kind setting))

-- ---- what goes by them

collide_key : ℕ × List ℕ → ℕ × List ℕ → Bool
collide_key k l = k.0 == l.0 || pointwise nat_eq k.1 l.1

duplicate_key : List (ℕ × List ℕ) → Bool
duplicate_key [] = false
duplicate_key (k ∷ ks) = list_any (collide_key k) ks || duplicate_key ks

any-key : (p : Principal) (qs : List Principal) → list_any (collide p) qs ≡ list_any (collide_key (key p)) (map key qs)
unfolding collide_key
any-key p [] = refl
any-key p (q ∷ qs) = ap (λ b. collide p q || b) (any-key p qs)

duplicates-key : (ps : List Principal) → has_duplicate ps ≡ duplicate_key (map key ps)
unfolding duplicate_key
duplicates-key [] = refl
duplicates-key (p ∷ ps) = λ i. any-key p ps i || duplicates-key ps i

pub duplicates-same : (ps qs : List Principal) → map key ps ≡ map key qs → has_duplicate qs ≡ false → has_duplicate ps ≡ false
duplicates-same ps qs same none = duplicates-key ps ∙ ap duplicate_key same ∙ sym (duplicates-key qs) ∙ none

pub zeros-same : (ps qs : List Principal) → map key ps ≡ map key qs → has_zero qs ≡ true → has_zero ps ≡ true
zeros-same [] [] same zero = zero
zeros-same [] (q ∷ qs) same zero = absurd (cc same)
zeros-same (p ∷ ps) [] same zero = absurd (cc zero)
zeros-same (p ∷ ps) (q ∷ qs) same zero = by (q.id == 0) (ap (λ n. n == 0) id) zero (zeros-same ps qs (cc same))
  where
    id : p.id ≡ q.id
    id = let here : key p ≡ key q = cc same in ap (λ k. k.0) here

    by : (b : Bool) → (p.id == 0) ≡ b → (b || has_zero qs) ≡ true → (has_zero qs ≡ true → has_zero ps ≡ true) → (p.id == 0 || has_zero ps) ≡ true
    by true at zero later = rw at refl
    by false at zero later = rw (at, later zero) refl

length-same : (ps qs : List Principal) → map key ps ≡ map key qs → length ps ≡ length qs
length-same [] [] same = refl
length-same [] (q ∷ qs) same = absurd (cc same)
length-same (p ∷ ps) [] same = absurd (cc same)
length-same (p ∷ ps) (q ∷ qs) same = ap (λ n. suc n) (length-same ps qs (cc same))

each-same : (ps qs : List Principal) → map key ps ≡ map key qs → list_all (λ p. are_limits_in_range p.limits) ps ≡ true
    → list_all is_principal_in_range qs ≡ true → list_all is_principal_in_range ps ≡ true
each-same [] qs same limits are = refl
each-same (p ∷ ps) [] same limits are = absurd (cc same)
each-same (p ∷ ps) (q ∷ qs) same limits are =
    let here : key p ≡ key q = cc same in
    let name : p.name ≡ q.name = ap (λ k. k.1) here in
    let own = and_parts (are_limits_in_range p.limits) (list_all (λ x. are_limits_in_range x.limits) ps) limits in
    let parts = and_parts (is_principal_in_range q) (list_all is_principal_in_range qs) are in
    let named = (and_parts (is_principal_name q.name) (are_limits_in_range q.limits) parts.0).0 in
    and_both (is_principal_in_range p) (list_all is_principal_in_range ps)
    (and_both (is_principal_name p.name) (are_limits_in_range p.limits) (ap is_principal_name name ∙ named) own.0)
    (each-same ps qs (cc same) own.1 parts.1)

pub range-same : (ps qs : List Principal) → map key ps ≡ map key qs → list_all (λ p. are_limits_in_range p.limits) ps ≡ true → are_in_range qs ≡ true
    → are_in_range ps ≡ true
range-same ps qs same limits are =
    let each = and_parts _ (list_all is_principal_in_range qs) are in
    let bounds = and_parts (nat_le 1 (length qs)) (nat_le (length qs) MAX_PRINCIPALS) each.0 in
    let long = length-same ps qs same in
    rw (
      ap (nat_le 1) long ∙ bounds.0,
      ap (λ n. nat_le n MAX_PRINCIPALS) long ∙ bounds.1,
      each-same ps qs same limits each.1,
    ) refl

pub any-same-kind : (test : List Principal → Bool) (ps qs : List Principal) → map key ps ≡ map key qs → (test qs ≡ true → test ps ≡ true)
    → if_any test qs ≡ true
    → if_any test ps ≡ true
any-same-kind test [] qs same from is = refl
any-same-kind test (p ∷ ps) [] same from is = absurd (cc same)
any-same-kind test (p ∷ ps) (q ∷ qs) same from is = from is

pub limits-of : (kind : Kind) (hs : List Holder) → AllByRecursion IsHolderInRange hs
    → list_all (λ p. are_limits_in_range p.limits) (principals_of kind hs) ≡ true
limits-of kind [] all = refl
limits-of kind (h ∷ hs) all = by (is_same_kind kind h.kind) (limits-of kind hs all.1)
  where
    by : (b : Bool) → list_all (λ p. are_limits_in_range p.limits) (principals_of kind hs) ≡ true
        → list_all (λ p. are_limits_in_range p.limits) (map principal_of (cond b (h ∷ of_kind kind hs) (of_kind kind hs))) ≡ true
    by true later = rw (all.0.limits, later) refl
    by false later = later

single-front : (ps qs : List Principal) → has_duplicate (ps ++ qs) ≡ false → has_duplicate ps ≡ false
single-front [] qs single = refl
single-front (p ∷ ps) qs single =
    let parts = or_parts (list_any (collide p) (ps ++ qs)) (has_duplicate (ps ++ qs)) single in
    let own = or_parts (list_any (collide p) ps) (list_any (collide p) qs) (sym (list_any-append (collide p) ps qs) ∙ parts.0) in
    rw (own.0, single-front ps qs parts.1) refl

-- no two of the first principals of a kind collide, where no two of all do
pub single-first : (kind : Kind) (hs more whole : List Holder) → hs ++ more ≡ whole → has_duplicate (principals_of kind whole) ≡ false
    → has_duplicate (principals_of kind hs) ≡ false
single-first kind hs more whole are single =
    let parts : principals_of kind (hs ++ more) ≡ principals_of kind hs ++ principals_of kind more =
    ap (map principal_of) (filter-append (λ (h : Holder). is_same_kind kind h.kind) hs more) ∙ map-append principal_of (of_kind kind hs) (of_kind kind more) in
    single-front (principals_of kind hs) (principals_of kind more) (sym (ap has_duplicate parts) ∙ ap (λ l. has_duplicate (principals_of kind l)) are ∙ single)
