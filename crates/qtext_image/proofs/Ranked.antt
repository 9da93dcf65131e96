-- The setup that a state tells of is in order, and its holders are the state's.
use Rattle.std.proofs.Common.{◌≡◌, ℕ, zero, suc, ◌≤◌, ◌<◌, ◌==◌, Bool, true, false, cond, nat_lt, List, [], ◌∷◌, ◌++◌, filter, map, refl, sym, ap, subst, ◌∙◌, arith, tests}
use Rattle.std.specs.declared.cmp.Ordering.TheVariants.{Less, Equal, Greater}
use Rattle.std.specs.List.{AllByRecursion}
use Rattle.std.specs.List.Sorted.{IsNonDecreasingBy, IsStrictlySortedBy}
use Rattle.std.specs.Ordering.{nat_cmp, ordering_then}
use Rattle.std.proofs.lemmas.Bool.{eqb-true}
use Rattle.std.proofs.lemmas.List.Elements.{All-from_recursion}
use Rattle.qrules.specs.declared.kind.Kind.{Kind}
use Rattle.qrules.specs.declared.kind.Kind.TheVariants.{User, Group, Project}
use Rattle.qrules.specs.Kinds.{is_same_kind, rank_of}
use Rattle.qplain.specs.declared.principal.Principal.{Principal}
use Rattle.qplain.specs.State.{Holder, holder_cmp, holder_of}
use Rattle.qplain_laws.specs.Laws.{identity_of}
use Rattle.qtext_image.specs.Setups.{principal_of, principals_of}

-- ---- numbers

-- what the comparison of two pairs of numbers says where the first pair stands before the other
record StandsBefore (a b x y : ℕ) : Type 0 where
  rank : a ≤ b
  id : a ≡ b → x ≤ y

before : (a b x y : ℕ) → ordering_then (nat_cmp a b) (nat_cmp x y) ≡ Less → StandsBefore a b x y
before a b x y e = by (nat_lt a b) (a == b) (nat_lt x y) (x == y) refl refl refl refl e
  where
    by : (l s m t : Bool) → nat_lt a b ≡ l → (a == b) ≡ s → nat_lt x y ≡ m → (x == y) ≡ t
        → ordering_then (cond l Less (cond s Equal Greater)) (cond m Less (cond t Equal Greater)) ≡ Less → StandsBefore a b x y
    by true s m t less same low even e = record { rank = grind (arith, tests, less); id = λ is. absurd (grind (arith, tests, less, is)) }
    by false true true t less same low even e = record { rank = grind (arith, tests, same); id = λ is. grind (arith, tests, low) }
    by false true false true less same low even e = absurd (cc e)
    by false true false false less same low even e = absurd (cc e)
    by false false m t less same low even e = absurd (cc e)

-- ---- ids rise

rises-first : (p : Principal) (ps : List Principal) → AllByRecursion (λ q. p.id ≤ q.id) ps → IsNonDecreasingBy (λ q. q.id) ps
    → IsNonDecreasingBy (λ q. q.id) (p ∷ ps)
rises-first p ps above up zero zero d le lt = omega arith
rises-first p ps above up zero (suc j) d le lt = All-from_recursion (λ (q : Principal). p.id ≤ q.id) ps above j d (omega (arith, lt))
rises-first p ps above up (suc i) zero d le lt = absurd (omega (arith, le))
rises-first p ps above up (suc i) (suc j) d le lt = up i j d (omega (arith, le)) (omega (arith, lt))

above-of : (kind : Kind) (h : Holder) (hs : List Holder) → is_same_kind kind h.kind ≡ true → AllByRecursion (λ g. holder_cmp h g ≡ Less) hs
    → AllByRecursion (λ q. h.id ≤ q.id) (principals_of kind hs)
above-of kind h [] own all = tt
above-of kind h (g ∷ hs) own all = by (is_same_kind kind g.kind) refl (above-of kind h hs own all.1)
  where
    by : (b : Bool) → is_same_kind kind g.kind ≡ b → AllByRecursion (λ q. h.id ≤ q.id) (principals_of kind hs)
        → AllByRecursion (λ q. h.id ≤ q.id) (map principal_of
        (cond b (g ∷ filter (λ x. is_same_kind kind x.kind) hs) (filter (λ x. is_same_kind kind x.kind) hs)))
    by true too later =
        let same : rank_of h.kind ≡ rank_of g.kind =
        sym (eqb-true (rank_of kind) (rank_of h.kind) own) ∙ eqb-true (rank_of kind) (rank_of g.kind) too in
        ((before (rank_of h.kind) (rank_of g.kind) h.id g.id all.0).id same, later)
    by false too later = later

no-principals : IsNonDecreasingBy (λ (q : Principal). q.id) []
no-principals i j d le lt = absurd (omega (arith, lt))

-- principals of a kind rise by their ids
pub kinds-rise : (kind : Kind) (hs : List Holder) → IsStrictlySortedBy holder_cmp hs → IsNonDecreasingBy (λ p. p.id) (principals_of kind hs)
unfolding IsStrictlySortedBy
kinds-rise kind [] sorted = no-principals
kinds-rise kind (h ∷ hs) sorted = by (is_same_kind kind h.kind) refl (kinds-rise kind hs sorted.1)
  where
    by : (b : Bool) → is_same_kind kind h.kind ≡ b → IsNonDecreasingBy (λ p. p.id) (principals_of kind hs)
        → IsNonDecreasingBy (λ p. p.id) (map principal_of (cond b (h ∷ filter (λ x. is_same_kind kind x.kind) hs) (filter (λ x. is_same_kind kind x.kind) hs)))
    by true own later = rises-first (principal_of h) (principals_of kind hs) (above-of kind h hs own sorted.0) later
    by false own later = later

-- ---- kinds follow each other

-- the holders that the principals of a kind are declared with
abbrev pub declared : Kind → List Holder → List Holder
declared kind hs = map (holder_of kind) (principals_of kind hs)

abbrev pub all_declared : List Holder → List Holder
all_declared hs = declared User hs ++ (declared Group hs ++ declared Project hs)

-- none of a kind stands behind a holder of a later kind
none-behind : (kind : Kind) (h : Holder) (hs : List Holder) → rank_of kind < rank_of h.kind → AllByRecursion (λ g. holder_cmp h g ≡ Less) hs
    → principals_of kind hs ≡ []
none-behind kind h [] below all = refl
none-behind kind h (g ∷ hs) below all =
    by (is_same_kind kind g.kind) refl (before (rank_of h.kind) (rank_of g.kind) h.id g.id all.0).rank (none-behind kind h hs below all.1)
  where
    by : (b : Bool) → is_same_kind kind g.kind ≡ b → rank_of h.kind ≤ rank_of g.kind → principals_of kind hs ≡ []
        → map principal_of (cond b (g ∷ filter (λ x. is_same_kind kind x.kind) hs) (filter (λ x. is_same_kind kind x.kind) hs)) ≡ []
    by true same le later = absurd (omega (arith, below, le, eqb-true (rank_of kind) (rank_of g.kind) same))
    by false same le later = later

own-first : (kind : Kind) (h : Holder) (hs : List Holder) → is_same_kind kind h.kind ≡ true
    → principals_of kind (h ∷ hs) ≡ principal_of h ∷ principals_of kind hs
own-first kind h hs own =
    ap (λ b. map principal_of (cond b (h ∷ filter (λ x. is_same_kind kind x.kind) hs) (filter (λ x. is_same_kind kind x.kind) hs))) own

other-first : (kind : Kind) (h : Holder) (hs : List Holder) → is_same_kind kind h.kind ≡ false → principals_of kind (h ∷ hs) ≡ principals_of kind hs
other-first kind h hs other =
    ap (λ b. map principal_of (cond b (h ∷ filter (λ x. is_same_kind kind x.kind) hs) (filter (λ x. is_same_kind kind x.kind) hs))) other

-- principals of each kind, one kind after the other
abbrev in_order : List Principal → List Principal → List Principal → List Holder
in_order us gs ps = map (holder_of User) us ++ (map (holder_of Group) gs ++ map (holder_of Project) ps)

-- one holder more in front
first-declared : (h : Holder) (hs : List Holder) (kind : Kind) → h.kind ≡ kind → AllByRecursion (λ g. holder_cmp h g ≡ Less) hs
    → map identity_of hs ≡ map identity_of (all_declared hs) → map identity_of (h ∷ hs) ≡ map identity_of (all_declared (h ∷ hs))
first-declared h hs User own all later =
    let whole : all_declared (h ∷ hs) ≡ holder_of User (principal_of h) ∷ all_declared hs = λ i.
    in_order (own-first User h hs (ap (is_same_kind User) own) i) (other-first Group h hs (ap (is_same_kind Group) own) i)
    (other-first Project h hs (ap (is_same_kind Project) own) i) in
    (λ i. (own i, h.id, h.name) ∷ later i) ∙ sym (ap (map identity_of) whole)
first-declared h hs Group own all later =
    let below : rank_of User < rank_of h.kind = subst (λ k. rank_of User < rank_of k) (sym own) (omega arith) in
    let users : principals_of User hs ≡ [] = none-behind User h hs below all in
    let rest : all_declared hs ≡ in_order [] (principals_of Group hs) (principals_of Project hs) =
    ap (λ us. in_order us (principals_of Group hs) (principals_of Project hs)) users in
    let whole : all_declared (h ∷ hs) ≡ holder_of Group (principal_of h) ∷ in_order [] (principals_of Group hs) (principals_of Project hs) = λ i.
    in_order ((other-first User h hs (ap (is_same_kind User) own) ∙ users) i) (own-first Group h hs (ap (is_same_kind Group) own) i)
    (other-first Project h hs (ap (is_same_kind Project) own) i) in
    (λ i. (own i, h.id, h.name) ∷ (later ∙ ap (map identity_of) rest) i) ∙ sym (ap (map identity_of) whole)
first-declared h hs Project own all later =
    let below : rank_of User < rank_of h.kind = subst (λ k. rank_of User < rank_of k) (sym own) (omega arith) in
    let above : rank_of Group < rank_of h.kind = subst (λ k. rank_of Group < rank_of k) (sym own) (omega arith) in
    let users : principals_of User hs ≡ [] = none-behind User h hs below all in
    let groups : principals_of Group hs ≡ [] = none-behind Group h hs above all in
    let rest : all_declared hs ≡ in_order [] [] (principals_of Project hs) = λ i. in_order (users i) (groups i) (principals_of Project hs) in
    let whole : all_declared (h ∷ hs) ≡ holder_of Project (principal_of h) ∷ in_order [] [] (principals_of Project hs) = λ i.
    in_order ((other-first User h hs (ap (is_same_kind User) own) ∙ users) i) ((other-first Group h hs (ap (is_same_kind Group) own) ∙ groups) i)
    (own-first Project h hs (ap (is_same_kind Project) own) i) in
    (λ i. (own i, h.id, h.name) ∷ (later ∙ ap (map identity_of) rest) i) ∙ sym (ap (map identity_of) whole)

-- holders in order are those that their principals are declared with, but for limits and ends
pub holders-declared : (hs : List Holder) → IsStrictlySortedBy holder_cmp hs → map identity_of hs ≡ map identity_of (all_declared hs)
unfolding IsStrictlySortedBy
holders-declared [] sorted = refl
holders-declared (h ∷ hs) sorted = first-declared h hs h.kind refl sorted.0 (holders-declared hs sorted.1)
