-- Final postings make of the kept holders of a kind what the new state makes of its holders.
use Rattle.std.proofs.Common.{◌≡◌, ℕ, suc, ◌+◌, ◌==◌, Bool, true, false, cond, List, [], ◌∷◌, map, All, Option, Some, None, IfSome, option_map, slice_get, refl, sym, ap, subst, ◌∙◌, tests, arith}
use Rattle.std.proofs.lemmas.Bool.{cond-false, cond-true}
use Rattle.std.proofs.lemmas.Option.{get_or_from_slice_get, slice_get_within, same_Some}
use Rattle.std.proofs.lemmas.List.Elements.{All-cons, All-get_or, All-nil}
use Rattle.qrules.specs.declared.kind.Kind.{Kind}
use Rattle.qrules.specs.declared.graces.Graces.{Graces}
use Rattle.qrules.specs.Sort.{Inodes, Blocks}
use Rattle.qrules.specs.Account.{Account, HasEnds, is_over_soft}
use Rattle.qrules.specs.Grace.{next_end, with_ends}
use Rattle.qrules.specs.Kinds.{is_id}
use Rattle.qplain.specs.State.{Inode, State}
use Rattle.qplain.specs.Use.{account_of, owner}
use Rattle.qplain.specs.Decision.{ends_after, with_ends_of}
use Rattle.qplain_laws.specs.Replaces.{is_owned}
use Rattle.qplain_laws.proofs.Replacing.{account-other}
use Rattle.qstore_accounts.specs.declared.bill.Posting.{Posting}
use Rattle.qstore_accounts.specs.declared.bill.Postings.{Postings}
use Rattle.qstore_accounts.specs.declared.claim.OwnerClaim.{OwnerClaim}
use Rattle.qstore_accounts.specs.declared.kept_holder.KeptHolder.{KeptHolder}
use Rattle.qstore_accounts.specs.Bills.{account_after, post, posted}
use Rattle.qstore_accounts.specs.Claims.{IsShareOf}
use Rattle.qstore_accounts.specs.KeptHolders.{AreById, IsCountedIn, IsSlotFor, IsSlotOf, holder_in}
use Rattle.qstore_accounts.specs.Ledgers.{ArePosted, IsFinal, IsLedgerReplacement, apart, record_after, uses_after}
use Rattle.qstore_accounts.proofs.ById.{changed_by}
use Rattle.qstore_accounts.proofs.Counted.{account_of-counted}
use Rattle.qstore_accounts.proofs.Ends.{block_end-same, inode_end-same}
use Rattle.qstore_accounts.proofs.Shares.{counted-there, slot-once}

-- two functions that agree on each element of a list make the same of it
pub map-at : {X Y : Type 0} (f g : X → Y) (xs : List X) → ((k : ℕ) (x : X) → slice_get xs k ≡ Some x → f x ≡ g x) → map f xs ≡ map g xs
map-at f g [] same = refl
map-at f g (x ∷ xs) same = λ i. same 0 x refl i ∷ map-at f g xs (λ k y there. same (suc k) y there) i

-- a posting has this kept holder's id
abbrev matches : Option Posting → KeptHolder → Bool
matches None o = false
matches (Some q) o = q.id == o.id

-- an end that stands after a change does so after the same again
next_end-again : (over : Bool) (end : Option ℕ) (new : ℕ) → next_end over (next_end over end new) new ≡ next_end over end new
next_end-again true None new = refl
next_end-again true (Some end) new = refl
next_end-again false end new = refl

-- and so do both of a record
with_ends-again : (account : Account) (graces : Graces) (moment : ℕ)
    → with_ends (with_ends account graces moment) graces moment ≡ with_ends account graces moment
with_ends-again account graces moment = λ i. record account {
  block_end = next_end-again (is_over_soft Blocks account) account.block_end (moment + graces.block) i;
  inode_end = next_end-again (is_over_soft Inodes account) account.inode_end (moment + graces.inode) i;
}

module _ (S1 : State) (moment : ℕ) (kind : Kind) where
  -- the kept holder with its record as the new state has it
  abbrev pub holder_after : KeptHolder → KeptHolder
  holder_after o = record o { account = record_after S1 moment kind o }

  -- such kept holders are counted in the new state
  pub counted-after : (os : List KeptHolder) → All (IsCountedIn (ends_after S1 moment) kind) (map holder_after os)
  counted-after [] = All-nil (IsCountedIn (ends_after S1 moment) kind)
  counted-after (o ∷ os) =
      All-cons (IsCountedIn (ends_after S1 moment) kind) (holder_after o) (map holder_after os) (record { blocks = refl; inodes = refl }) (counted-after os)

  -- and their holders are those of the new state
  pub holders-after : (os : List KeptHolder) → map (holder_in kind) (map holder_after os) ≡ map (with_ends_of S1 moment) (map (holder_in kind) os)
  holders-after [] = refl
  holders-after (o ∷ os) = λ i. with_ends_of S1 moment (holder_in kind o) ∷ holders-after os i

  -- what a posting of the new state makes of a kept holder, and of all of a kind
  abbrev post_then : Option Posting → KeptHolder → KeptHolder
  post_then = post S1.graces moment

  abbrev pub posted_then : Postings → KeptHolder → KeptHolder
  posted_then = posted S1.graces moment

  module _ (os : List KeptHolder) (by_id : AreById os) (k : ℕ) (o : KeptHolder) (there : slice_get os k ≡ Some o) where
    -- a final posting that has the kept holder's id sets its uses
    own-uses : (q : Posting) → IsFinal os kind S1 q → (q.id == o.id) ≡ true → q.change ≡ uses_after S1 kind o
    own-uses q final own =
        let same : q.id ≡ o.id = grind (arith, tests) in
        let slot : q.slot ≡ k =
        slot-once os q.slot k o.id by_id (subst (λ n. IsSlotOf os q.slot n) same final.placed.slot) (ap (option_map (λ p. p.id)) there) in
        final.uses o (ap (slice_get os) slot ∙ there)

    -- it leaves a kept holder that has its record already
    post-again : (q : Option Posting) → IfSome q (IsFinal os kind S1) → post_then q (holder_after o) ≡ holder_after o
    post-again None final = refl
    post-again (Some q) final = by (q.id == o.id) refl
      where
        by : (b : Bool) → (q.id == o.id) ≡ b → cond b (changed_by S1.graces moment q (holder_after o)) (holder_after o) ≡ holder_after o
        by true own =
            (λ i. record o { account = account_after (own-uses q final own i) (record_after S1 moment kind o) S1.graces moment })
            ∙ (λ i. record o { account = with_ends-again (account_of S1 (holder_in kind o)) S1.graces moment i })
        by false other = refl

    -- and it gives it to the one of its id
    post-first : (q : Option Posting) → IfSome q (IsFinal os kind S1) → post_then q o ≡ cond (matches q o) (holder_after o) o
    post-first None final = refl
    post-first (Some q) final = by (q.id == o.id) refl
      where
        by : (b : Bool) → (q.id == o.id) ≡ b → cond b (changed_by S1.graces moment q o) o ≡ cond b (holder_after o) o
        by true own = λ i. record o { account = account_after (own-uses q final own i) o.account S1.graces moment }
        by false other = refl

    -- both postings do, or neither has its id
    pub posted-by : (p : Postings) → IfSome p.from (IsFinal os kind S1) → IfSome p.to (IsFinal os kind S1)
        → (matches p.from o ≡ false → matches p.to o ≡ false → o ≡ holder_after o) → posted_then p o ≡ holder_after o
    posted-by p from to stays = by (matches p.from o) (matches p.to o) refl refl
      where
        by : (b c : Bool) → matches p.from o ≡ b → matches p.to o ≡ c → posted_then p o ≡ holder_after o
        by true c e f = ap (post_then p.to) (post-first p.from from ∙ cond-true (matches p.from o) (holder_after o) o e) ∙ post-again p.to to
        by false true e f =
            ap (post_then p.to) (post-first p.from from ∙ cond-false (matches p.from o) (holder_after o) o e)
            ∙ post-first p.to to ∙ cond-true (matches p.to o) (holder_after o) o f
        by false false e f =
            ap (post_then p.to) (post-first p.from from ∙ cond-false (matches p.from o) (holder_after o) o e)
            ∙ post-first p.to to ∙ cond-false (matches p.to o) (holder_after o) o f ∙ stays e f

-- an inode is not the principal's where the posting for its share has not the principal's id
not-owner : (os : List KeptHolder) (kind : Kind) (S1 : State) (share : Option OwnerClaim) (inode : Option Inode) (q : Option Posting)
    (o : KeptHolder) → IsShareOf os kind share inode → option_map (λ p. p.slot) q ≡ option_map (λ s. s.slot) share → IfSome q (IsFinal os kind S1)
    → matches q o ≡ false → is_owned kind o.id inode ≡ false
not-owner os kind S1 None None q o is slots final other = refl
not-owner os kind S1 None (Some inode) q o is slots final other = by (owner kind inode.owners) is
  where
    by : (w : Option ℕ) → IsSlotFor os None w → is_id o.id w ≡ false
    by None is = refl
    by (Some id) is = cc
not-owner os kind S1 (Some share) None q o is slots final other = cc
not-owner os kind S1 (Some share) (Some inode) None o is slots final other = cc
not-owner os kind S1 (Some share) (Some inode) (Some q) o is slots final other = by (owner kind inode.owners) is.slot
  where
    by : (w : Option ℕ) → IsSlotFor os (Some share.slot) w → is_id o.id w ≡ false
    by None placed = cc
    by (Some id) placed =
        let slot : q.slot ≡ share.slot = same_Some q.slot share.slot slots in
        let both : Some q.id ≡ Some id = sym final.placed.slot ∙ ap (λ n. option_map (λ p. p.id) (slice_get os n)) slot ∙ placed in
        ap (λ n. n == o.id) (sym (same_Some q.id id both)) ∙ other

-- nor is the inode that is given up, where neither posting has it
not-loser : (os : List KeptHolder) (kind : Kind) (S1 : State) (from to : Option OwnerClaim) (f : Option Inode) (p q : Option Posting)
    (o : KeptHolder) → IsShareOf os kind from f → option_map (λ p. p.slot) p ≡ option_map (λ s. s.slot) (apart from to)
    → option_map (λ p. p.slot) q ≡ option_map (λ s. s.slot) to → IfSome p (IsFinal os kind S1) → IfSome q (IsFinal os kind S1)
    → matches p o ≡ false → matches q o ≡ false → is_owned kind o.id f ≡ false
not-loser os kind S1 None to f p q o is p_slot q_slot p_final q_final not_p not_q = not-owner os kind S1 None f None o is refl tt refl
not-loser os kind S1 (Some lost) None f p q o is p_slot q_slot p_final q_final not_p not_q =
    not-owner os kind S1 (Some lost) f p o is p_slot p_final not_p
not-loser os kind S1 (Some lost) (Some gained) f p q o is p_slot q_slot p_final q_final not_p not_q = by (lost.slot == gained.slot) refl
  where
    by : (b : Bool) → (lost.slot == gained.slot) ≡ b → is_owned kind o.id f ≡ false
    by true one =
        let same : gained.slot ≡ lost.slot = grind (arith, tests, one) in
        not-owner os kind S1 (Some lost) f q o is (q_slot ∙ ap Some same) q_final not_q
    by false two =
        not-owner os kind S1 (Some lost) f p o is (p_slot ∙ ap (λ b. option_map (λ s. s.slot) (cond b None (Some lost))) two) p_final not_p

-- a record whose ends are where they should be keeps them
with_ends-same : (S1 : State) (moment : ℕ) (account : Account) → HasEnds account → with_ends account S1.graces moment ≡ account
with_ends-same S1 moment account ends =
    λ i. record account { block_end = block_end-same account S1.graces moment ends i; inode_end = inode_end-same account S1.graces moment ends i }

module _ (os : List KeptHolder) (kind : Kind) (from to : Option OwnerClaim) (S S1 : State) (f t : Option Inode) (by_id : AreById os)
    (r : IsLedgerReplacement os kind from to S S1 f t) (moment : ℕ) (p : Postings) (done : ArePosted os kind S1 from to p) where
  -- the kept holder that owns neither inode has its record already
  same-record : (k : ℕ) (o : KeptHolder) → slice_get os k ≡ Some o → matches p.from o ≡ false → matches p.to o ≡ false → o ≡ holder_after S1 moment kind o
  same-record k o there not_from not_to =
      let counted : IsCountedIn S kind o = counted-there S kind os k o r.counted there in
      let ends : HasEnds o.account = subst (λ h. HasEnds h.account) (get_or_from_slice_get os k o o there)
      (All-get_or (λ h. HasEnds h.account) os k o (slice_get_within os k o there) r.ends) in
      let account : account_of S1 (holder_in kind o) ≡ o.account =
      account-other S S1 f t r.replaces (holder_in kind o)
      (not-loser os kind S1 from to f p.from p.to o r.lost done.from_there done.to_there done.from_final done.to_final not_from not_to)
      (not-owner os kind S1 to t p.to o r.gained done.to_there done.to_final not_to)
      ∙ account_of-counted S kind o counted in
      ap (λ a. record o { account = a }) (sym (with_ends-same S1 moment o.account ends) ∙ ap (λ a. with_ends a S1.graces moment) (sym account))

  -- so the postings make of all kept holders what the new state makes of its holders
  pub posted-all : map (posted S1.graces moment p) os ≡ map (holder_after S1 moment kind) os
  posted-all = map-at (posted S1.graces moment p) (holder_after S1 moment kind) os
      (λ k o there. posted-by S1 moment kind os by_id k o there p done.from_final done.to_final (same-record k o there))
