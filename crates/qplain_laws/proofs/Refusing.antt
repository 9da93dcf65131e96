-- The first refusal for a new inode is that of its owners, one kind after the other, for the proofs of stores that ask them
-- alone.
use Rattle.std.proofs.Common.{◌≡◌, ℕ, ◌==◌, Bool, true, false, ◌&&◌, ◌||◌, nat_lt, cond, List, [], ◌∷◌, Option, Some, None, ◌⊎◌, inl, inr, refl, sym, ap, ◌∙◌, tests, arith}
use Rattle.std.specs.Option.{option_or, option_map}
use Rattle.std.specs.List.{AllByRecursion, find, list_any}
use Rattle.std.specs.List.Sorted.{IsStrictlySortedBy}
use Rattle.std.specs.declared.cmp.Ordering.{Ordering}
use Rattle.std.specs.declared.cmp.Ordering.TheVariants.{Less}
use Rattle.std.specs.Ordering.{nat_cmp, ordering_then}
use Rattle.std.proofs.lemmas.Bool.{or_parts}
use Rattle.qrules.specs.declared.kind.Kind.{Kind}
use Rattle.qrules.specs.declared.over.Over.{Over}
use Rattle.qrules.specs.Kinds.{is_id, is_same_kind, kinds, rank_of}
use Rattle.qrules.proofs.Ranks.{AreRanked, each_listed, kinds_ranked, same_kind-refl}
use Rattle.qplain.specs.declared.refusal.Refusal.{Refusal}
use Rattle.qplain.specs.declared.refusal.Refusal.TheVariants.{EDQUOT}
use Rattle.qplain.specs.State.{Holder, Inode, State, holder_cmp}
use Rattle.qplain.specs.Use.{owner}
use Rattle.qplain.specs.Decision.{fault_of_holder, first_refusal}
use Rattle.qplain_laws.specs.Replaces.{Replaces}
use Rattle.qplain_laws.proofs.Balance.{each-apart, held-once, is_held}
use Rattle.qplain_laws.proofs.Replacing.{fault-other}

-- the refusal of a holder, if there is one
abbrev pub refusal_at : (Holder → Option Over) → Option Holder → Option Refusal
refusal_at fault None = None
refusal_at fault (Some h) = option_map (λ over. EDQUOT h.kind over) (fault h)

-- the first of the refusals, one kind after the other
abbrev pub first_by_kind : (Kind → Option Refusal) → List Kind → Option Refusal
first_by_kind refusal [] = None
first_by_kind refusal (k ∷ ks) = option_or (refusal k) (first_by_kind refusal ks)

-- ---- one holder taken out

-- no holder passes the test
abbrev NonePass : (Holder → Bool) → List Holder → Type 0
NonePass p hs = AllByRecursion (λ g. p g ≡ false) hs

-- the fault of whoever does not pass the test
abbrev besides : (Holder → Bool) → (Holder → Option Over) → Holder → Option Over
besides p fault h = cond (p h) None (fault h)

find-none : (p : Holder → Bool) (hs : List Holder) → NonePass p hs → find p hs ≡ None
find-none p [] none = refl
find-none p (h ∷ hs) none = rw (none.0) (find-none p hs none.1)

besides-none : (p : Holder → Bool) (fault : Holder → Option Over) (hs : List Holder) → NonePass p hs
    → first_refusal (besides p fault) hs ≡ first_refusal fault hs
besides-none p fault [] none = refl
besides-none p fault (h ∷ hs) none =
    λ i. option_or (option_map (λ over. EDQUOT h.kind over) (cond (none.0 i) None (fault h))) (besides-none p fault hs none.1 i)

-- whoever passes the test is the last one to pass it, and comes before all others that have a fault
abbrev IsFirst : (Holder → Bool) → (Holder → Option Over) → List Holder → Type 0
IsFirst p fault [] = Unit {0}
IsFirst p fault (h ∷ hs) =
    (p h ≡ true → NonePass p hs) × (p h ≡ false → (fault h ≡ None) ⊎ NonePass p hs) × IsFirst p fault hs

-- so its refusal comes first
first_taken : (p : Holder → Bool) (fault : Holder → Option Over) (hs : List Holder) → IsFirst p fault hs
    → first_refusal fault hs ≡ option_or (refusal_at fault (find p hs)) (first_refusal (besides p fault) hs)
first_taken p fault [] first = refl
first_taken p fault (h ∷ hs) first = by (first_taken p fault hs first.2) (p h) refl
  where
    or-else : first_refusal fault hs ≡ option_or (refusal_at fault (find p hs)) (first_refusal (besides p fault) hs)
        → (fault h ≡ None) ⊎ NonePass p hs
        → option_or (option_map (λ over. EDQUOT h.kind over) (fault h)) (first_refusal fault hs)
        ≡ option_or (refusal_at fault (find p hs))
        (option_or (option_map (λ over. EDQUOT h.kind over) (fault h)) (first_refusal (besides p fault) hs))
    or-else later (inl none) =
        ap (λ o. option_or (option_map (λ over. EDQUOT h.kind over) o) (first_refusal fault hs)) none ∙ later
        ∙ ap (λ o. option_or (refusal_at fault (find p hs)) (option_or (option_map (λ over. EDQUOT h.kind over) o) (first_refusal (besides p fault) hs)))
        (sym none)
    or-else later (inr none) =
        ap (λ r. option_or (option_map (λ over. EDQUOT h.kind over) (fault h)) r) (sym (besides-none p fault hs none))
        ∙ ap (λ o. option_or (refusal_at fault o) (option_or (option_map (λ over. EDQUOT h.kind over) (fault h)) (first_refusal (besides p fault) hs)))
        (sym (find-none p hs none))

    by : first_refusal fault hs ≡ option_or (refusal_at fault (find p hs)) (first_refusal (besides p fault) hs) → (b : Bool) → p h ≡ b
        → option_or (option_map (λ over. EDQUOT h.kind over) (fault h)) (first_refusal fault hs)
        ≡ option_or (refusal_at fault (cond b (Some h) (find p hs)))
        (option_or (option_map (λ over. EDQUOT h.kind over) (cond b None (fault h))) (first_refusal (besides p fault) hs))
    by later true e = ap (λ r. option_or (option_map (λ over. EDQUOT h.kind over) (fault h)) r) (sym (besides-none p fault hs (first.0 e)))
    by later false e = or-else later (first.1 e)

-- ---- one kind after the other

-- a test that none of the first passes finds whom the first did not take
besides-found : (p q : Holder → Bool) (fault : Holder → Option Over) → ((h : Holder) → q h ≡ true → p h ≡ false) → (hs : List Holder)
    → refusal_at (besides p fault) (find q hs) ≡ refusal_at fault (find q hs)
besides-found p q fault apart [] = refl
besides-found p q fault apart (h ∷ hs) = by (besides-found p q fault apart hs) (q h) refl
  where
    by : refusal_at (besides p fault) (find q hs) ≡ refusal_at fault (find q hs) → (b : Bool) → q h ≡ b
        → refusal_at (besides p fault) (cond b (Some h) (find q hs)) ≡ refusal_at fault (cond b (Some h) (find q hs))
    by later true e = ap (λ b. option_map (λ over. EDQUOT h.kind over) (cond b None (fault h))) (apart h e)
    by later false e = later

both-true : (a b : Bool) → (a && b) ≡ true → (a ≡ true) × (b ≡ true)
both-true true b h = (refl, h)
both-true false b h = cc

-- principals of kinds of different ranks are different
held-apart : (k l : Kind) (i j : Option ℕ) → nat_lt (rank_of k) (rank_of l) ≡ true → (h : Holder) → is_held l j h ≡ true → is_held k i h ≡ false
held-apart k l i j below h held =
    let same : (rank_of l == rank_of h.kind) ≡ true = (both-true (is_same_kind l h.kind) _ held).0 in
    let other : (rank_of k == rank_of h.kind) ≡ false = grind (arith, tests, same, below) in
    ap (λ b. b && is_id h.id i) other

-- a holder of one of these kinds has a higher rank
held-above : (k : Kind) (os : Kind → Option ℕ) (ks : List Kind) → AllByRecursion (λ l. nat_lt (rank_of k) (rank_of l) ≡ true) ks → (h : Holder)
    → list_any (λ l. is_held l (os l) h) ks ≡ true → nat_lt (rank_of k) (rank_of h.kind) ≡ true
held-above k os [] above h held = cc
held-above k os (l ∷ ks) above h held = by (held-above k os ks above.1 h) (is_held l (os l) h) refl held
  where
    by : (list_any (λ m. is_held m (os m) h) ks ≡ true → nat_lt (rank_of k) (rank_of h.kind) ≡ true) → (b : Bool) → is_held l (os l) h ≡ b
        → (b || list_any (λ m. is_held m (os m) h) ks) ≡ true → nat_lt (rank_of k) (rank_of h.kind) ≡ true
    by later true e f =
        let same : (rank_of l == rank_of h.kind) ≡ true = (both-true (is_same_kind l h.kind) _ e).0 in
        let less : nat_lt (rank_of k) (rank_of l) ≡ true = above.0 in
        grind (arith, tests, same, less)
    by later false e f = later f

-- none of these
none-held : (os : Kind → Option ℕ) (ks : List Kind) (h : Holder) → list_any (λ l. is_held l (os l) h) ks ≡ false
    → AllByRecursion (λ l. is_held l (os l) h ≡ false) ks
none-held os [] h none = tt
none-held os (l ∷ ks) h none =
    let parts = or_parts (is_held l (os l) h) (list_any (λ m. is_held m (os m) h) ks) none in
    (parts.0, none-held os ks h parts.1)

-- behind a holder of a higher rank no principal of the kind stands
none-behind : (k : Kind) (o : Option ℕ) (h : Holder) (hs : List Holder) → nat_lt (rank_of k) (rank_of h.kind) ≡ true
    → AllByRecursion (λ g. holder_cmp h g ≡ Less) hs → NonePass (is_held k o) hs
none-behind k o h [] above sorted = tt
none-behind k o h (g ∷ hs) above sorted = (by sorted.0, none-behind k o h hs above sorted.1)
  where
    by : ordering_then (nat_cmp (rank_of h.kind) (rank_of g.kind)) (nat_cmp h.id g.id) ≡ Less → is_held k o g ≡ false
    by less =
        let other : (rank_of k == rank_of g.kind) ≡ false = apart (rank_of k) (rank_of h.kind) (rank_of g.kind) (nat_cmp h.id g.id) above less in
        ap (λ b. b && is_id g.id o) other
      where
        apart : (a b c : ℕ) (o : Ordering) → nat_lt a b ≡ true → ordering_then (nat_cmp b c) o ≡ Less → (a == c) ≡ false
        apart a b c o above less = grind (arith, tests, above, less)

-- the principal of the first kind is first
is_first : (k : Kind) (o : Option ℕ) (fault : Holder → Option Over)
    → ((h : Holder) → is_held k o h ≡ false → (fault h ≡ None) ⊎ (nat_lt (rank_of k) (rank_of h.kind) ≡ true))
    → (hs : List Holder) → IsStrictlySortedBy holder_cmp hs → IsFirst (is_held k o) fault hs
unfolding IsStrictlySortedBy
is_first k o fault only [] sorted = tt
is_first k o fault only (h ∷ hs) sorted = (
  (λ held. held-once k o h hs held (each-apart h hs sorted.0)),
  (λ other. either (only h other)),
  is_first k o fault only hs sorted.1,
)
  where
    either : (fault h ≡ None) ⊎ (nat_lt (rank_of k) (rank_of h.kind) ≡ true) → (fault h ≡ None) ⊎ NonePass (is_held k o) hs
    either (inl none) = inl none
    either (inr above) = inr (none-behind k o h hs above sorted.0)

no-refusal : (fault : Holder → Option Over) → ((h : Holder) → fault h ≡ None) → (hs : List Holder) → first_refusal fault hs ≡ None
no-refusal fault none [] = refl
no-refusal fault none (h ∷ hs) = λ i. option_or (option_map (λ over. EDQUOT h.kind over) (none h i)) (no-refusal fault none hs i)

same-by_kind : (f g : Kind → Option Refusal) (ks : List Kind) → AllByRecursion (λ k. f k ≡ g k) ks → first_by_kind f ks ≡ first_by_kind g ks
same-by_kind f g [] same = refl
same-by_kind f g (k ∷ ks) same = λ i. option_or (same.0 i) (same-by_kind f g ks same.1 i)

-- where only principals of these kinds have a fault, the first refusal is theirs in the order of the kinds
refusals-by_kind : (os : Kind → Option ℕ) (ks : List Kind) → AreRanked ks → (fault : Holder → Option Over)
    → ((h : Holder) → AllByRecursion (λ k. is_held k (os k) h ≡ false) ks → fault h ≡ None)
    → (hs : List Holder) → IsStrictlySortedBy holder_cmp hs
    → first_refusal fault hs ≡ first_by_kind (λ k. refusal_at fault (find (is_held k (os k)) hs)) ks
refusals-by_kind os [] ranked fault only hs sorted = no-refusal fault (λ h. only h tt) hs
refusals-by_kind os (k ∷ ks) ranked fault only hs sorted =
    first_taken p fault hs (is_first k (os k) fault decide hs sorted)
    ∙ ap (option_or (refusal_at fault (find p hs)))
    (refusals-by_kind os ks ranked.1 (besides p fault) rest hs sorted
    ∙ same-by_kind (λ l. refusal_at (besides p fault) (find (is_held l (os l)) hs)) (λ l. refusal_at fault (find (is_held l (os l)) hs)) ks (same ks ranked.0))
  where
    p : Holder → Bool
    p h = is_held k (os k) h

    decide : (h : Holder) → is_held k (os k) h ≡ false → (fault h ≡ None) ⊎ (nat_lt (rank_of k) (rank_of h.kind) ≡ true)
    decide h other = by (list_any (λ l. is_held l (os l) h) ks) refl
      where
        by : (b : Bool) → list_any (λ l. is_held l (os l) h) ks ≡ b → (fault h ≡ None) ⊎ (nat_lt (rank_of k) (rank_of h.kind) ≡ true)
        by true e = inr (held-above k os ks ranked.0 h e)
        by false e = inl (only h (other, none-held os ks h e))

    rest : (h : Holder) → AllByRecursion (λ l. is_held l (os l) h ≡ false) ks → besides p fault h ≡ None
    rest h none = by (is_held k (os k) h) refl
      where
        by : (b : Bool) → is_held k (os k) h ≡ b → cond b None (fault h) ≡ None
        by true e = refl
        by false e = only h (e, none)

    same : (ls : List Kind) → AllByRecursion (λ l. nat_lt (rank_of k) (rank_of l) ≡ true) ls
        → AllByRecursion (λ l. refusal_at (besides p fault) (find (is_held l (os l)) hs) ≡ refusal_at fault (find (is_held l (os l)) hs)) ls
    same [] above = tt
    same (l ∷ ls) above = (
      besides-found p (is_held l (os l)) fault (λ h held. held-apart k l (os k) (os l) above.0 h held) hs,
      same ls above.1,
    )

-- the first refusal for a new inode is that of its owners, one kind after the other
pub first_refusal-after : (S S1 : State) (from : Option Inode) (to : Inode) (moment : ℕ) → Replaces S S1 from (Some to)
    → IsStrictlySortedBy holder_cmp S.holders
    → first_refusal (fault_of_holder S S1 moment) S.holders
    ≡ first_by_kind (λ kind. refusal_at (fault_of_holder S S1 moment) (find (is_held kind (owner kind to.owners)) S.holders)) kinds
first_refusal-after S S1 from to moment replaces sorted =
    refusals-by_kind (λ kind. owner kind to.owners) kinds kinds_ranked (fault_of_holder S S1 moment)
    (λ h none. fault-other S S1 from (Some to) replaces moment h (not_owner h none)) S.holders sorted
  where
    not_owner : (h : Holder) → AllByRecursion (λ k. is_held k (owner k to.owners) h ≡ false) kinds → is_id h.id (owner h.kind to.owners) ≡ false
    not_owner h none =
        ap (λ b. b && is_id h.id (owner h.kind to.owners)) (sym (same_kind-refl h.kind))
        ∙ each_listed (λ k. is_held k (owner k to.owners) h ≡ false) none h.kind
