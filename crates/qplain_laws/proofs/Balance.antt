-- The uses of all principals of a kind add up to the total.
use Rattle.std.proofs.Common.{◌≡◌, ℕ, ◌+◌, ◌==◌, Bool, true, false, not, ◌&&◌, ◌||◌, cond, List, [], ◌∷◌, filter, sum_by, slice_index_or, All, Option, Some, None, refl, sym, ap, ◌∙◌, tests, arith}
use Rattle.std.specs.List.{AllByRecursion, IsDistinct, list_any}
use Rattle.std.specs.List.Sorted.{IsStrictlySortedBy}
use Rattle.std.specs.declared.cmp.Ordering.{Ordering}
use Rattle.std.specs.declared.cmp.Ordering.TheVariants.{Less, Equal, Greater}
use Rattle.std.specs.Ordering.{is_eq, nat_cmp, ordering_then}
use Rattle.std.specs.Cmp.{unsigned_ties}
use Rattle.std.specs.Map.{values_of}
use Rattle.std.proofs.lemmas.List.Sums.{sum_by-cons}
use Rattle.std.proofs.lemmas.List.Elements.{All-head, All-tail}
use Rattle.qrules.specs.declared.kind.Kind.{Kind}
use Rattle.qrules.specs.Kinds.{is_id, is_same_kind, rank_of}
use Rattle.qrules.specs.declared.kind.Kind.TheVariants.{User, Group}
use Rattle.qrules.specs.Sort.{Sort}
use Rattle.qplain.specs.declared.bounds.TheConstants.{ROOT}
use Rattle.qplain.specs.State.{Holder, Inode, State, holder_cmp, inode_at, is_dir}
use Rattle.qplain.specs.Use.{belongs_to, charge_to, owner, weight}
use Rattle.qplain.specs.Known.{is_holder}
use Rattle.qplain_laws.specs.Laws.{AreKnown, UsersAndGroupsStand, UsesAddUp, has_kind, is_known_owner}
use Rattle.qplain_laws.proofs.Fitting.{known-owners}

-- the two holders are one principal
abbrev pub are_same : Holder → Holder → Bool
are_same g h = is_holder g.kind g.id h

-- no kind has the rank of another
same_rank : (k l : Kind) → is_eq (nat_cmp (rank_of k) (rank_of l)) ≡ is_same_kind k l
same_rank k l = sym (unsigned_ties (rank_of k) (rank_of l))

both-eq : (a b : Ordering) → is_eq (ordering_then a b) ≡ (is_eq a && is_eq b)
both-eq Less b = refl
both-eq Equal b = refl
both-eq Greater b = refl

-- holders in order stand once
pub each-apart : (g : Holder) (hs : List Holder) → AllByRecursion (λ h. holder_cmp g h ≡ Less) hs → AllByRecursion (λ h. are_same g h ≡ false) hs
each-apart g [] above = tt
each-apart g (h ∷ hs) above = (
  (λ i. sym (same_rank g.kind h.kind) i && unsigned_ties g.id h.id i)
      ∙ sym (both-eq (nat_cmp (rank_of g.kind) (rank_of h.kind)) (nat_cmp g.id h.id)) ∙ ap is_eq above.0,
  each-apart g hs above.1,
)

pub distinct-sorted : (hs : List Holder) → IsStrictlySortedBy holder_cmp hs → IsDistinct are_same hs
unfolding IsDistinct IsStrictlySortedBy
distinct-sorted [] sorted = tt
distinct-sorted (h ∷ hs) sorted = (each-apart h hs sorted.0, distinct-sorted hs sorted.1)

-- the holders of one kind
abbrev of_kind : Kind → List Holder → List Holder
of_kind kind hs = filter (λ h. is_same_kind kind h.kind) hs

-- the holder is the principal of this kind and id, if there is an id
abbrev pub is_held : Kind → Option ℕ → Holder → Bool
is_held kind id h = is_same_kind kind h.kind && is_id h.id id

-- what an inode takes of all holders of a kind together
abbrev shares : Kind → Sort → Inode → List Holder → ℕ
shares kind sort inode hs = sum_by (λ h. charge_to kind h.id sort inode) (of_kind kind hs)

and_first : (a b : Bool) → (a && b) ≡ true → a ≡ true
and_first true b h = refl
and_first false b h = cc

and_second : (a b : Bool) → (a && b) ≡ true → b ≡ true
and_second true b h = h
and_second false b h = cc

-- sums of two functions add up
sum-plus : {X : Type 0} (f g : X → ℕ) (xs : List X) → sum_by (λ x. f x + g x) xs ≡ sum_by f xs + sum_by g xs
sum-plus f g [] = refl
sum-plus f g (x ∷ xs) = omega (arith, sum-plus f g xs, sum_by-cons (λ y. f y + g y) x xs, sum_by-cons f x xs, sum_by-cons g x xs)

-- a sum of nothing
sum-zero : {X : Type 0} (xs : List X) → sum_by (λ x. 0) xs ≡ 0
sum-zero [] = refl
sum-zero (x ∷ xs) = omega (arith, sum-zero xs, sum_by-cons (λ y. 0) x xs)

-- what one holder adds to the shares, by whether it is of the kind and whether it owns the inode
abbrev one_share : Bool → Bool → ℕ → ℕ → ℕ
one_share of_kind owns weight rest = cond of_kind (cond owns weight 0 + rest) rest

shares-cons : (kind : Kind) (sort : Sort) (inode : Inode) (h : Holder) (hs : List Holder)
    → shares kind sort inode (h ∷ hs)
    ≡ one_share (is_same_kind kind h.kind) (belongs_to kind h.id inode) (weight sort inode) (shares kind sort inode hs)
shares-cons kind sort inode h hs =
    elim (is_same_kind kind h.kind) as (λ b. sum_by (λ g. charge_to kind g.id sort inode) (cond b (h ∷ of_kind kind hs) (of_kind kind hs))
    ≡ one_share b (belongs_to kind h.id inode) (weight sort inode) (shares kind sort inode hs)) [
      | true ↦ sum_by-cons (λ g. charge_to kind g.id sort inode) h (of_kind kind hs)
      | false ↦ refl
    ]

one_share-none : (of_kind owns : Bool) (w rest : ℕ) → (of_kind && owns) ≡ false → rest ≡ 0 → one_share of_kind owns w rest ≡ 0
one_share-none true true w rest e z = cc
one_share-none true false w rest e z = omega arith
one_share-none false owns w rest e z = z

-- an inode takes nothing of holders that are not its owner
shares-none : (kind : Kind) (sort : Sort) (inode : Inode) (hs : List Holder)
    → AllByRecursion (λ h. is_held kind (owner kind inode.owners) h ≡ false) hs → shares kind sort inode hs ≡ 0
shares-none kind sort inode [] none = refl
shares-none kind sort inode (h ∷ hs) none =
    shares-cons kind sort inode h hs
    ∙ one_share-none (is_same_kind kind h.kind) (belongs_to kind h.id inode) (weight sort inode) (shares kind sort inode hs)
    none.0 (shares-none kind sort inode hs none.1)

-- one id alone is this one
same_id : (o : Option ℕ) (m n : ℕ) → is_id m o ≡ true → is_id n o ≡ true → m ≡ n
same_id None m n p q = cc
same_id (Some id) m n p q = grind (arith, tests, p, q)

-- two holders that are one principal's are the same
pub held-same : (kind : Kind) (id : Option ℕ) (h g : Holder) → is_held kind id h ≡ true → are_same h g ≡ false → is_held kind id g ≡ false
held-same kind id h g held other = by (is_held kind id g) refl
  where
    by : (b : Bool) → is_held kind id g ≡ b → b ≡ false
    by false e = refl
    by true e =
        let ids : h.id ≡ g.id = same_id id h.id g.id (and_second (is_same_kind kind h.kind) _ held) (and_second (is_same_kind kind g.kind) _ e) in
        let first : is_same_kind kind h.kind ≡ true = and_first (is_same_kind kind h.kind) _ held in
        let second : is_same_kind kind g.kind ≡ true = and_first (is_same_kind kind g.kind) _ e in
        grind (arith, tests, ids, first, second, other)

-- the holders after one that is the owner are none
pub held-once : (kind : Kind) (id : Option ℕ) (h : Holder) (hs : List Holder) → is_held kind id h ≡ true
    → AllByRecursion (λ g. are_same h g ≡ false) hs → AllByRecursion (λ g. is_held kind id g ≡ false) hs
held-once kind id h [] held others = tt
held-once kind id h (g ∷ hs) held others = (held-same kind id h g held others.0, held-once kind id h hs held others.1)

one_share-one : (of_kind owns : Bool) (w rest : ℕ) → (of_kind && owns) ≡ true → rest ≡ 0 → one_share of_kind owns w rest ≡ w
one_share-one true true w rest e z = omega arith
one_share-one true false w rest e z = cc
one_share-one false owns w rest e z = cc

one_share-later : (of_kind owns : Bool) (w rest : ℕ) → (of_kind && owns) ≡ false → one_share of_kind owns w rest ≡ rest
one_share-later true true w rest e = cc
one_share-later true false w rest e = omega arith
one_share-later false owns w rest e = refl

-- an inode takes its weight of its owner, once
shares-owned : (kind : Kind) (sort : Sort) (inode : Inode) (hs : List Holder) → IsDistinct are_same hs
    → list_any (is_held kind (owner kind inode.owners)) hs ≡ true → shares kind sort inode hs ≡ weight sort inode
unfolding IsDistinct
shares-owned kind sort inode [] distinct known = cc
shares-owned kind sort inode (h ∷ hs) distinct known =
    shares-cons kind sort inode h hs
    ∙ (elim (is_held kind (owner kind inode.owners) h) as (λ b. is_held kind (owner kind inode.owners) h ≡ b
    → (b || list_any (is_held kind (owner kind inode.owners)) hs) ≡ true
    → one_share (is_same_kind kind h.kind) (belongs_to kind h.id inode) (weight sort inode) (shares kind sort inode hs) ≡ weight sort inode) [
      | true ↦ λ owns found. one_share-one (is_same_kind kind h.kind) (belongs_to kind h.id inode) (weight sort inode) (shares kind sort inode hs) owns
          (shares-none kind sort inode hs (held-once kind (owner kind inode.owners) h hs owns distinct.0))
      | false ↦ λ other found. one_share-later (is_same_kind kind h.kind) (belongs_to kind h.id inode) (weight sort inode) (shares kind sort inode hs) other
          ∙ shares-owned kind sort inode hs distinct.1 found
    ]) refl known

-- what all inodes take of all holders of a kind is what they take at all
balance : (kind : Kind) (sort : Sort) (hs : List Holder) (inodes : List Inode) → IsDistinct are_same hs
    → All (λ inode. list_any (is_held kind (owner kind inode.owners)) hs ≡ true) inodes
    → sum_by (λ h. sum_by (charge_to kind h.id sort) inodes) (of_kind kind hs) ≡ sum_by (weight sort) inodes
balance kind sort hs [] distinct known = sum-zero (of_kind kind hs)
balance kind sort hs (inode ∷ inodes) distinct known =
    let apart : sum_by (λ h. sum_by (charge_to kind h.id sort) (inode ∷ inodes)) (of_kind kind hs)
    ≡ sum_by (λ h. charge_to kind h.id sort inode + sum_by (charge_to kind h.id sort) inodes) (of_kind kind hs) =
    ap (λ f. sum_by f (of_kind kind hs)) (λ i h. sum_by-cons (charge_to kind h.id sort) inode inodes i) in
    let added : sum_by (λ h. charge_to kind h.id sort inode + sum_by (charge_to kind h.id sort) inodes) (of_kind kind hs)
    ≡ shares kind sort inode hs + sum_by (λ h. sum_by (charge_to kind h.id sort) inodes) (of_kind kind hs) =
    sum-plus (λ h. charge_to kind h.id sort inode) (λ h. sum_by (charge_to kind h.id sort) inodes) (of_kind kind hs) in
    let owned : shares kind sort inode hs ≡ weight sort inode =
    shares-owned kind sort inode hs distinct (All-head (λ j. list_any (is_held kind (owner kind j.owners)) hs ≡ true) inode inodes known) in
    let rest : sum_by (λ h. sum_by (charge_to kind h.id sort) inodes) (of_kind kind hs) ≡ sum_by (weight sort) inodes =
    balance kind sort hs inodes distinct (All-tail (λ j. list_any (is_held kind (owner kind j.owners)) hs ≡ true) inode inodes known) in
    apart ∙ (added ∙ (ap (λ n. n + sum_by (λ h. sum_by (charge_to kind h.id sort) inodes) (of_kind kind hs)) owned
    ∙ (ap (λ n. weight sort inode + n) rest ∙ sym (sum_by-cons (weight sort) inode inodes))))

-- where the kind is declared a known owner is one of the holders
pub held-known : (S : State) (kind : Kind) (id : Option ℕ) → has_kind S kind ≡ true → is_known_owner S kind id ≡ true
    → list_any (is_held kind id) S.holders ≡ true
held-known S kind None declared known = let clash : not true ≡ true = sym (ap not declared) ∙ known in cc
held-known S kind (Some id) declared known = known

pub uses_add_up : UsesAddUp
uses_add_up S kind sort lawful declared =
    balance kind sort S.holders (values_of S.inodes) (distinct-sorted S.holders lawful.parts.holders)
    (λ k d below. held-known S kind (owner kind (slice_index_or (values_of S.inodes) k d).owners) declared
    (lawful.parts.inodes.owners_known k d below kind))

-- who is declared is of a kind that is
pub kind-declared : (kind : Kind) (id : ℕ) (hs : List Holder) → list_any (is_holder kind id) hs ≡ true → list_any (λ h. is_same_kind kind h.kind) hs ≡ true
kind-declared kind id [] there = cc
kind-declared kind id (h ∷ hs) there = by (is_same_kind kind h.kind) (kind-declared kind id hs) there
  where
    by : (b : Bool) → (list_any (is_holder kind id) hs ≡ true → list_any (λ g. is_same_kind kind g.kind) hs ≡ true)
        → (b && id == h.id || list_any (is_holder kind id) hs) ≡ true → (b || list_any (λ g. is_same_kind kind g.kind) hs) ≡ true
    by true later e = refl
    by false later e = later e

pub users_and_groups_stand : UsersAndGroupsStand
users_and_groups_stand S lawful = by (inode_at S ROOT) refl lawful.parts.inodes.root_stands
  where
    by : (o : Option Inode) → inode_at S ROOT ≡ o → is_dir o ≡ true → (has_kind S User ≡ true) × (has_kind S Group ≡ true)
    by None there stands = cc
    by (Some inode) there stands =
        let known : AreKnown S inode.owners = known-owners S ROOT inode lawful.parts there in
        (kind-declared User inode.owners.uid S.holders (known User), kind-declared Group inode.owners.gid S.holders (known Group))
