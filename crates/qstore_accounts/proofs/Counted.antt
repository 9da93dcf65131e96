-- KeptHolders whose kept use is the recounted one.
use Rattle.std.proofs.Common.{◌≡◌, ℕ, List, [], ◌∷◌, map, sum_by, All, refl, sym, ap, ◌∙◌, subst}
use Rattle.std.specs.Map.{values_of}
use Rattle.std.proofs.lemmas.List.Elements.{All-cons, All-head, All-nil, All-tail, All-weaker}
use Rattle.qrules.specs.declared.kind.Kind.{Kind}
use Rattle.qrules.specs.Sort.{Sort, Inodes, Blocks}
use Rattle.qrules.specs.Account.{HasEnds}
use Rattle.qplain.specs.State.{Holder, State}
use Rattle.qplain.specs.Use.{account_of, charge_to, use_of}
use Rattle.qstore_accounts.specs.declared.kept_holder.KeptHolder.{KeptHolder}
use Rattle.qstore_accounts.specs.Rows.{record_row_of}
use Rattle.qstore_accounts.specs.KeptHolders.{IsCountedIn, across, holder_in, holders_in}
use Rattle.qstore_accounts.specs.Ledgers.{holder_row}
use Rattle.qstore_accounts.proofs.Across.{across-same, map-across}

-- the record of a counted kept holder is its holder's
pub account_of-counted : (S : State) (kind : Kind) (o : KeptHolder) → IsCountedIn S kind o → account_of S (holder_in kind o) ≡ o.account
account_of-counted S kind o counted = λ i. record o.account { blocks = sym counted.blocks i; inodes = sym counted.inodes i }

-- a kept holder is counted in every state with the same inodes
pub counted-same : (S T : State) (kind : Kind) (os : List KeptHolder) → T.inodes ≡ S.inodes → All (IsCountedIn S kind) os → All (IsCountedIn T kind) os
counted-same S T kind os same all = All-weaker (IsCountedIn S kind) (IsCountedIn T kind) (λ o counted. moved o counted) os all
  where
    uses : (id : ℕ) (sort : Sort) → use_of S kind id sort ≡ use_of T kind id sort
    uses id sort = ap (λ inodes. sum_by (charge_to kind id sort) (values_of inodes)) (sym same)

    moved : (o : KeptHolder) → IsCountedIn S kind o → IsCountedIn T kind o
    moved o counted = record { blocks = counted.blocks ∙ uses o.id Blocks; inodes = counted.inodes ∙ uses o.id Inodes }

-- the ends of counted kept holders are where they should be where their holders' are
pub ends-of-counted : (S : State) (kind : Kind) (os : List KeptHolder) → All (IsCountedIn S kind) os → All (λ h. HasEnds (account_of S h))
    (map (holder_in kind) os)
    → All (λ o. HasEnds o.account) os
ends-of-counted S kind [] counted ends = All-nil (λ o. HasEnds o.account)
ends-of-counted S kind (o ∷ os) counted ends =
    let P : Holder → Type 0 = λ h. HasEnds (account_of S h) in
    All-cons (λ p. HasEnds p.account) o os
    (subst HasEnds (account_of-counted S kind o (All-head (IsCountedIn S kind) o os counted)) (All-head P (holder_in kind o) (map (holder_in kind) os) ends))
    (ends-of-counted S kind os (All-tail (IsCountedIn S kind) o os counted) (All-tail P (holder_in kind o) (map (holder_in kind) os) ends))

-- and the other way round
pub ends-in-counted : (S : State) (kind : Kind) (os : List KeptHolder) → All (IsCountedIn S kind) os → All (λ o. HasEnds o.account) os
    → All (λ h. HasEnds (account_of S h)) (map (holder_in kind) os)
ends-in-counted S kind [] counted ends = All-nil (λ h. HasEnds (account_of S h))
ends-in-counted S kind (o ∷ os) counted ends =
    All-cons (λ h. HasEnds (account_of S h)) (holder_in kind o) (map (holder_in kind) os)
    (subst HasEnds (sym (account_of-counted S kind o (All-head (IsCountedIn S kind) o os counted))) (All-head (λ p. HasEnds p.account) o os ends))
    (ends-in-counted S kind os (All-tail (IsCountedIn S kind) o os counted) (All-tail (λ p. HasEnds p.account) o os ends))

-- the rows of counted kept holders are their holders'
pub rows-of-counted : (S : State) (kind : Kind) (os : List KeptHolder) → All (IsCountedIn S kind) os
    → map (holder_row kind) os ≡ map (record_row_of S) (map (holder_in kind) os)
rows-of-counted S kind [] all = refl
rows-of-counted S kind (o ∷ os) all =
    let counted : IsCountedIn S kind o = All-head (IsCountedIn S kind) o os all in
    let here : holder_row kind o ≡ record_row_of S (holder_in kind o) =
    λ i. record (holder_row kind o) { blocks = counted.blocks i; inodes = counted.inodes i } in
    let rest : map (holder_row kind) os ≡ map (record_row_of S) (map (holder_in kind) os) = rows-of-counted S kind os
    (All-tail (IsCountedIn S kind) o os all) in
    λ i. here i ∷ rest i

-- the rows of all kept holders are those of all holders
pub all-rows : (S : State) (ledgers : Kind → List KeptHolder) → ((kind : Kind) → All (IsCountedIn S kind) (ledgers kind))
    → across (λ kind. map (holder_row kind) (ledgers kind)) ≡ map (record_row_of S) (holders_in ledgers)
all-rows S ledgers counted =
    across-same (λ kind. map (holder_row kind) (ledgers kind)) (λ kind. map (record_row_of S) (map (holder_in kind) (ledgers kind)))
    (λ kind. rows-of-counted S kind (ledgers kind) (counted kind))
    ∙ sym (map-across (record_row_of S) (λ kind. map (holder_in kind) (ledgers kind)))
