-- New limits of one kept holder are what the plain machine makes of the holders.
use Rattle.std.proofs.Common.{◌≡◌, ℕ, Bool, true, false, cond, ◌&&◌, ◌==◌, List, [], ◌∷◌, map, All, None, refl, sym, ap, ◌∙◌, subst}
use Rattle.std.proofs.lemmas.List.Elements.{All-cons, All-head, All-nil, All-tail}
use Rattle.qrules.specs.declared.kind.Kind.{Kind}
use Rattle.qrules.specs.declared.limits.Limits.{Limits}
use Rattle.qrules.specs.declared.graces.Graces.{Graces}
use Rattle.qrules.specs.Sort.{Inodes, Blocks}
use Rattle.qrules.specs.Account.{Account, HasEnds}
use Rattle.qrules.specs.Grace.{end_after, with_limits}
use Rattle.qplain.specs.State.{Holder, State}
use Rattle.qplain.specs.Use.{account_of}
use Rattle.qrules.specs.Kinds.{is_same_kind}
use Rattle.qplain.specs.Known.{is_holder}
use Rattle.qplain.specs.Decision.{ends_after, with_ends_of}
use Rattle.qplain.specs.Quotas.{relimited, with_limits_of}
use Rattle.qplain_laws.proofs.Ends.{holders-same, with_ends_of-same}
use Rattle.qrules.proofs.Ranks.{same_kind-refl}
use Rattle.qstore_accounts.specs.declared.kept_holder.KeptHolder.{KeptHolder}
use Rattle.qstore_accounts.specs.KeptHolders.{IsCountedIn, holder_in}
use Rattle.qstore_accounts.proofs.Counted.{account_of-counted, counted-same, ends-in-counted}

-- the kept holder after new limits for this id
abbrev pub relimited_kept : ℕ → Limits → Graces → ℕ → KeptHolder → KeptHolder
relimited_kept id limits graces moment o = cond (id == o.id) (record o { account = with_limits o.account limits graces moment }) o

-- the holder under new limits, where it is the one of this kind and id
abbrev pub relimited_holder : Kind → ℕ → Limits → Holder → Holder
relimited_holder kind id limits h = cond (is_holder kind id h) (relimited limits h) h

-- a test of kind that fails leaves the holder
untouched : (b c : Bool) (limits : Limits) (h : Holder) → b ≡ false → cond (b && c) (relimited limits h) h ≡ h
untouched true c limits h other = cc
untouched false c limits h other = refl

module _ (S : State) (kind : Kind) (id : ℕ) (limits : Limits) (moment : ℕ) where
  -- the state with the new limits
  abbrev after : State
  after = with_limits_of S kind id limits

  -- the holder of a kept holder with new limits, and of one that keeps its own
  holder-by : (o : KeptHolder) (b : Bool) → IsCountedIn S kind o → HasEnds o.account
      → holder_in kind (cond b (record o { account = with_limits o.account limits S.graces moment }) o)
      ≡ with_ends_of after moment (cond b (relimited limits (holder_in kind o)) (holder_in kind o))
  holder-by o true counted ends =
      let account : Account = record o.account { limits = limits; block_end = None; inode_end = None } in
      let same : account ≡ account_of S (relimited limits (holder_in kind o)) = λ i. record account { blocks = counted.blocks i; inodes = counted.inodes i } in
      λ i. record (holder_in kind o) {
        limits = limits;
        block_end = end_after Blocks (same i) S.graces moment;
        inode_end = end_after Inodes (same i) S.graces moment;
      }
  holder-by o false counted ends =
      sym (with_ends_of-same after moment (holder_in kind o) (subst HasEnds (sym (account_of-counted S kind o counted)) ends))

  -- the holder of a kept holder after the call
  holder-relimited : (o : KeptHolder) → IsCountedIn S kind o → HasEnds o.account
      → holder_in kind (relimited_kept id limits S.graces moment o) ≡ with_ends_of after moment (relimited_holder kind id limits (holder_in kind o))
  holder-relimited o counted ends =
      holder-by o (id == o.id) counted ends
      ∙ ap (λ b. with_ends_of after moment (cond (b && id == o.id) (relimited limits (holder_in kind o)) (holder_in kind o))) (sym (same_kind-refl kind))

  -- new limits of a kept holder are those of its holder, with the ends computed anew
  pub holders-relimited : (os : List KeptHolder) → All (IsCountedIn S kind) os → All (λ o. HasEnds o.account) os
      → map (holder_in kind) (map (relimited_kept id limits S.graces moment) os)
      ≡ map (with_ends_of after moment) (map (λ h. cond (is_holder kind id h) (relimited limits h) h) (map (holder_in kind) os))
  holders-relimited [] counted ends = refl
  holders-relimited (o ∷ os) counted ends =
      let here : holder_in kind (relimited_kept id limits S.graces moment o) ≡ with_ends_of after moment (relimited_holder kind id limits (holder_in kind o)) =
      holder-relimited o (All-head (IsCountedIn S kind) o os counted) (All-head (λ p. HasEnds p.account) o os ends) in
      let rest : map (holder_in kind) (map (relimited_kept id limits S.graces moment) os)
      ≡ map (with_ends_of after moment) (map (λ h. cond (is_holder kind id h) (relimited limits h) h) (map (holder_in kind) os)) =
      holders-relimited os (All-tail (IsCountedIn S kind) o os counted) (All-tail (λ p. HasEnds p.account) o os ends) in
      λ i. here i ∷ rest i

  -- holders of the other kind are not the one
  other-kind-untouched : (other : Kind) → is_same_kind kind other ≡ false → (os : List KeptHolder)
      → map (λ h. cond (is_holder kind id h) (relimited limits h) h) (map (holder_in other) os) ≡ map (holder_in other) os
  other-kind-untouched other apart [] = refl
  other-kind-untouched other apart (o ∷ os) =
      λ i. untouched (is_same_kind kind other) (id == o.id) limits (holder_in other o) apart i ∷ other-kind-untouched other apart os i

  -- and they keep their ends
  pub other-holders-relimited : (other : Kind) → is_same_kind kind other ≡ false → (os : List KeptHolder)
      → All (IsCountedIn S other) os → All (λ o. HasEnds o.account) os
      → map (with_ends_of after moment) (map (λ h. cond (is_holder kind id h) (relimited limits h) h) (map (holder_in other) os)) ≡ map (holder_in other) os
  other-holders-relimited other apart os counted ends =
      ap (map (with_ends_of after moment)) (other-kind-untouched other apart os)
      ∙ holders-same after moment (map (holder_in other) os) (ends-in-counted S other os counted ends)

  -- a kept holder stays counted under new limits
  kept-counted-relimited : (T : State) (k : Kind) (o : KeptHolder) (b : Bool) (graces : Graces) → IsCountedIn T k o
      → IsCountedIn T k (cond b (record o { account = with_limits o.account limits graces moment }) o)
  kept-counted-relimited T k o true graces counted = record { blocks = counted.blocks; inodes = counted.inodes }
  kept-counted-relimited T k o false graces counted = counted

  -- all kept holders stay counted under new limits
  pub counted-relimited : (graces : Graces) (os : List KeptHolder) → All (IsCountedIn S kind) os
      → All (IsCountedIn after kind) (map (relimited_kept id limits graces moment) os)
  counted-relimited graces os counted = all os (counted-same S after kind os refl counted)
    where
      all : (ps : List KeptHolder) → All (IsCountedIn after kind) ps → All (IsCountedIn after kind) (map (relimited_kept id limits graces moment) ps)
      all [] counted = All-nil (IsCountedIn after kind)
      all (p ∷ ps) counted =
          All-cons (IsCountedIn after kind) (relimited_kept id limits graces moment p) (map (relimited_kept id limits graces moment) ps)
          (kept-counted-relimited after kind p (id == p.id) graces (All-head (IsCountedIn after kind) p ps counted))
          (all ps (All-tail (IsCountedIn after kind) p ps counted))

  -- and in the state with the ends that then stand
  pub counted-relimited-ends : (graces : Graces) (os : List KeptHolder) → All (IsCountedIn S kind) os
      → All (IsCountedIn (ends_after after moment) kind) (map (relimited_kept id limits graces moment) os)
  counted-relimited-ends graces os counted =
      counted-same after (ends_after after moment) kind (map (relimited_kept id limits graces moment) os) refl (counted-relimited graces os counted)
