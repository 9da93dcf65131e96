-- The records of a store stand in order: one kind after the other, each by id.
use Rattle.std.proofs.Common.{zero, suc, ◌<◌, List, [], ◌∷◌, ◌++◌, map, All, refl, inl, inr, subst, arith}
use Rattle.std.specs.List.{AllPairs}
use Rattle.std.proofs.lemmas.List.{append-nil}
use Rattle.std.proofs.lemmas.List.Elements.{All-append, All-cons, All-nil}
use Rattle.qrules.specs.declared.kind.Kind.{Kind}
use Rattle.qrules.specs.declared.kind.Kind.TheVariants.{User, Group, Project}
use Rattle.qrules.specs.Kinds.{rank_of}
use Rattle.qplain.specs.State.{Holder}
use Rattle.qstore_accounts.specs.declared.kept_holder.KeptHolder.{KeptHolder}
use Rattle.qstore_accounts.specs.KeptHolders.{AreById, holder_in, holders_in}
use Rattle.qstore_accounts.specs.Rows.{StandsBefore}
use Rattle.qstore_accounts.proofs.ById.{AreAbove, above-first, by_id-rest}

-- one more in front
pairs-cons : {X : Type 0} (R : X → X → Type 0) (x : X) (xs : List X) → All (R x) xs → AllPairs R xs → AllPairs R (x ∷ xs)
pairs-cons R x xs above rest zero zero d less within = absurd (omega arith)
pairs-cons R x xs above rest zero (suc j) d less within = above j d (omega arith)
pairs-cons R x xs above rest (suc i) zero d less within = absurd (omega arith)
pairs-cons R x xs above rest (suc i) (suc j) d less within = rest i j d (omega arith) (omega arith)

-- the holders of a kind with greater ids come later
above-holders : (kind : Kind) (o : KeptHolder) (os : List KeptHolder) → AreAbove o.id os → All (StandsBefore (holder_in kind o)) (map (holder_in kind) os)
above-holders kind o [] above = All-nil (StandsBefore (holder_in kind o))
above-holders kind o (p ∷ os) above =
    All-cons (StandsBefore (holder_in kind o)) (holder_in kind p) (map (holder_in kind) os)
    (inr (refl, above.0)) (above-holders kind o os above.1)

-- the holders of a kind come later than those of a kind before it
kind-after : (kind later : Kind) → rank_of kind < rank_of later → (o : KeptHolder) (os : List KeptHolder)
    → All (StandsBefore (holder_in kind o)) (map (holder_in later) os)
kind-after kind later below o [] = All-nil (StandsBefore (holder_in kind o))
kind-after kind later below o (p ∷ os) =
    All-cons (StandsBefore (holder_in kind o)) (holder_in later p) (map (holder_in later) os) (inl below) (kind-after kind later below o os)

-- the holders of a kind, and behind them those of kinds that come later
kind-in_order : (kind : Kind) (os : List KeptHolder) (rest : List Holder) → AreById os → ((o : KeptHolder) → All (StandsBefore (holder_in kind o)) rest)
    → AllPairs StandsBefore rest → AllPairs StandsBefore (map (holder_in kind) os ++ rest)
kind-in_order kind [] rest by_id behind in_order = in_order
kind-in_order kind (o ∷ os) rest by_id behind in_order =
    pairs-cons StandsBefore (holder_in kind o) (map (holder_in kind) os ++ rest)
    (All-append (StandsBefore (holder_in kind o)) (map (holder_in kind) os) rest (above-holders kind o os (above-first o os by_id)) (behind o))
    (kind-in_order kind os rest (by_id-rest o os by_id) behind in_order)

-- all holders
pub in_order-holders : (ledgers : Kind → List KeptHolder) → ((kind : Kind) → AreById (ledgers kind)) → AllPairs StandsBefore (holders_in ledgers)
in_order-holders ledgers by_id =
    kind-in_order User (ledgers User) (map (holder_in Group) (ledgers Group) ++ map (holder_in Project) (ledgers Project)) (by_id User)
    (λ o. All-append (StandsBefore (holder_in User o)) (map (holder_in Group) (ledgers Group)) (map (holder_in Project) (ledgers Project))
    (kind-after User Group (omega arith) o (ledgers Group)) (kind-after User Project (omega arith) o (ledgers Project)))
    (kind-in_order Group (ledgers Group) (map (holder_in Project) (ledgers Project)) (by_id Group)
    (λ o. kind-after Group Project (omega arith) o (ledgers Project))
    (last (ledgers Project) (by_id Project)))
  where
    last : (os : List KeptHolder) → AreById os → AllPairs StandsBefore (map (holder_in Project) os)
    last os by_id = subst (AllPairs StandsBefore) (append-nil (map (holder_in Project) os))
        (kind-in_order Project os [] by_id (λ o. All-nil (StandsBefore (holder_in Project o))) (λ i j d less within. absurd (omega arith)))
