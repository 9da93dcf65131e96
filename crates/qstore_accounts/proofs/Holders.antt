-- What is asked of the holders of a state, answered by the kept holders of a kind.
use Rattle.std.proofs.Common.{◌≡◌, ℕ, zero, suc, Bool, true, false, cond, ◌&&◌, ◌||◌, ◌==◌, List, [], ◌∷◌, ◌++◌, map, All, Bor, Option, Some, None, is_some}
use Rattle.std.proofs.Common.{find, slice_get, refl, sym, ap, subst, ◌∙◌}
use Rattle.std.specs.Option.{IfSome, option_map, option_or}
use Rattle.std.specs.List.{list_any}
use Rattle.std.proofs.lemmas.Option.{get_or_from_slice_get, slice_get_within}
use Rattle.std.proofs.lemmas.List.Elements.{All-get_or}
use Rattle.std.proofs.lemmas.List.Folds.{find-append, list_any-append}
use Rattle.qrules.specs.declared.kind.Kind.{Kind}
use Rattle.qrules.specs.declared.kind.Kind.TheVariants.{User, Group, Project}
use Rattle.qrules.specs.Kinds.{is_same_kind}
use Rattle.qrules.proofs.Ranks.{each_kind}
use Rattle.qplain.specs.State.{Holder, State}
use Rattle.qplain.specs.Known.{is_holder}
use Rattle.qstore_accounts.specs.declared.kept_holder.KeptHolder.{KeptHolder}
use Rattle.qstore_accounts.specs.KeptHolders.{AreById, IsCountedIn, holder_in, holders_in}
use Rattle.qstore_accounts.specs.Ledgers.{IsHolderAt}
use Rattle.qstore_accounts.proofs.ById.{by_id-rest, slot-first, slot-later, slot-of}
use Rattle.qstore_accounts.proofs.Declared.{or-first, or-second}

-- ---- lists one after the other

or-none : {X : Type 0} (o : Option X) → option_or o None ≡ o
or-none None = refl
or-none (Some x) = refl

or-false : (a : Bool) → (a || false) ≡ a
or-false true = refl
or-false false = refl

-- ---- one kind

module _ (kind : Kind) (id : ℕ) where
  -- among the holders of one kind
  any-in : (other : Kind) (os : List KeptHolder)
      → list_any (is_holder kind id) (map (holder_in other) os) ≡ (is_same_kind kind other && list_any (λ o. id == o.id) os)
  any-in other [] = none (is_same_kind kind other)
    where
      none : (b : Bool) → false ≡ (b && false)
      none true = refl
      none false = refl
  any-in other (o ∷ os) = ap (λ b. is_same_kind kind other && id == o.id || b) (any-in other os) ∙ sym (by (is_same_kind kind other))
    where
      by : (b : Bool) → (b && (id == o.id || list_any (λ p. id == p.id) os)) ≡ (b && id == o.id || (b && list_any (λ p. id == p.id) os))
      by true = refl
      by false = refl

  find-in : (other : Kind) (os : List KeptHolder) → find (is_holder kind id) (map (holder_in other) os)
      ≡ cond (is_same_kind kind other) (option_map (holder_in other) (find (λ o. id == o.id) os)) None
  find-in other [] = none (is_same_kind kind other)
    where
      none : (b : Bool) → ◌≡◌ {A = Option Holder} None (cond b None None)
      none true = refl
      none false = refl
  find-in other (o ∷ os) = by (is_same_kind kind other) (id == o.id) (find-in other os)
    where
      by : (b c : Bool)
          → find (is_holder kind id) (map (holder_in other) os) ≡ cond b (option_map (holder_in other) (find (λ p. id == p.id) os)) None
          → cond (b && c) (Some (holder_in other o)) (find (is_holder kind id) (map (holder_in other) os))
          ≡ cond b (option_map (holder_in other) (cond c (Some o) (find (λ p. id == p.id) os))) None
      by true true later = refl
      by true false later = later
      by false c later = later

-- ---- all kinds

-- a principal is declared where the kept holders of its kind have its id
pub declared-kept : (kind : Kind) (id : ℕ) (ledgers : Kind → List KeptHolder)
    → list_any (is_holder kind id) (holders_in ledgers) ≡ list_any (λ o. id == o.id) (ledgers kind)
declared-kept kind id ledgers =
    list_any-append (is_holder kind id) (map (holder_in User) (ledgers User))
    (map (holder_in Group) (ledgers Group) ++ map (holder_in Project) (ledgers Project))
    ∙ ap (λ b. list_any (is_holder kind id) (map (holder_in User) (ledgers User)) || b)
    (list_any-append (is_holder kind id) (map (holder_in Group) (ledgers Group)) (map (holder_in Project) (ledgers Project)))
    ∙ (λ i. any-in kind id User (ledgers User) i || (any-in kind id Group (ledgers Group) i || any-in kind id Project (ledgers Project) i))
    ∙ each_kind (λ k. ((is_same_kind k User && has User)
    || ((is_same_kind k Group && has Group) || (is_same_kind k Project && has Project))) ≡ has k)
    (or-false (has User)) (or-false (has Group)) refl kind
  where
    has : Kind → Bool
    has k = list_any (λ o. id == o.id) (ledgers k)

-- the holder of a principal is that of the kept holder of its id
pub find-kept : (kind : Kind) (id : ℕ) (ledgers : Kind → List KeptHolder)
    → find (is_holder kind id) (holders_in ledgers) ≡ option_map (holder_in kind) (find (λ o. id == o.id) (ledgers kind))
find-kept kind id ledgers =
    find-append (is_holder kind id) (map (holder_in User) (ledgers User))
    (map (holder_in Group) (ledgers Group) ++ map (holder_in Project) (ledgers Project))
    ∙ ap (option_or (find (is_holder kind id) (map (holder_in User) (ledgers User))))
    (find-append (is_holder kind id) (map (holder_in Group) (ledgers Group)) (map (holder_in Project) (ledgers Project)))
    ∙ (λ i. option_or (find-in kind id User (ledgers User) i)
    (option_or (find-in kind id Group (ledgers Group) i) (find-in kind id Project (ledgers Project) i)))
    ∙ each_kind (λ k. option_or (cond (is_same_kind k User) (found User) None)
    (option_or (cond (is_same_kind k Group) (found Group) None) (cond (is_same_kind k Project) (found Project) None)) ≡ found k)
    (or-none (found User)) (or-none (found Group)) refl kind
  where
    found : Kind → Option Holder
    found k = option_map (holder_in k) (find (λ o. id == o.id) (ledgers k))

-- the kept holder at the slot of the id is the one of the id
pub find-slot : (id : ℕ) (os : List KeptHolder) (slot : ℕ) (o : KeptHolder) → AreById os → slice_get os slot ≡ Some o → o.id ≡ id
    → find (λ p. id == p.id) os ≡ Some o
find-slot id [] slot o by_id there is = cc
find-slot id (p ∷ os) zero o by_id there is =
    ap (λ b. cond b (Some p) (find (λ q. id == q.id) os)) (slot-first id p os (slot-of (p ∷ os) zero id o there is)) ∙ there
find-slot id (p ∷ os) (suc slot) o by_id there is =
    ap (λ b. cond b (Some p) (find (λ q. id == q.id) os)) (slot-later id p os slot by_id (slot-of os slot id o there is))
    ∙ find-slot id os slot o (by_id-rest p os by_id) there is

-- none has an id that no kept holder has
find-absent : (id : ℕ) (os : List KeptHolder) → list_any (λ o. id == o.id) os ≡ false → find (λ o. id == o.id) os ≡ None
find-absent id [] absent = refl
find-absent id (o ∷ os) absent =
    ap (λ b. cond b (Some o) (find (λ p. id == p.id) os)) (or-first (id == o.id) (list_any (λ p. id == p.id) os) absent)
    ∙ find-absent id os (or-second (id == o.id) (list_any (λ p. id == p.id) os) absent)

-- a kept holder that was found is a holder's
pub found-kept : (kind : Kind) (id : ℕ) (ledgers : Kind → List KeptHolder) (result : Option (Bor KeptHolder))
    → is_some result ≡ list_any (λ o. id == o.id) (ledgers kind)
    → IfSome result (λ o. (slot : ℕ) × IsHolderAt (ledgers kind) slot id o.now) → IfSome result (λ o. AreById (ledgers kind))
    → option_map (holder_in kind) (option_map (λ o. o.now) result) ≡ find (is_holder kind id) (holders_in ledgers)
found-kept kind id ledgers None declared there by_id =
    sym (find-kept kind id ledgers ∙ ap (option_map (holder_in kind)) (find-absent id (ledgers kind) (sym declared)))
found-kept kind id ledgers (Some o) declared there by_id =
    sym (find-kept kind id ledgers
    ∙ ap (option_map (holder_in kind)) (find-slot id (ledgers kind) there.0 o.now by_id there.1.there there.1.same))

-- and its use is counted
pub found-counted : (S : State) (kind : Kind) (id : ℕ) (os : List KeptHolder) (result : Option (Bor KeptHolder)) → All (IsCountedIn S kind) os
    → IfSome result (λ o. (slot : ℕ) × IsHolderAt os slot id o.now) → IfSome result (λ o. IsCountedIn S kind o.now)
found-counted S kind id os None counted there = tt
found-counted S kind id os (Some o) counted there =
    subst (IsCountedIn S kind) (get_or_from_slice_get os there.0 o.now o.now there.1.there)
    (All-get_or (IsCountedIn S kind) os there.0 o.now (slice_get_within os there.0 o.now there.1.there) counted)
