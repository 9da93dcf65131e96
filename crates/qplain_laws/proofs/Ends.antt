-- In a lawful state the rule of grace ends moves none.
use Rattle.std.proofs.Common.{◌≡◌, ℕ, ◌+◌, Bool, true, false, List, [], ◌∷◌, map, All, Option, Some, None, is_some, refl}
use Rattle.std.proofs.lemmas.List.Elements.{All-head, All-tail}
use Rattle.qrules.specs.Sort.{Inodes, Blocks}
use Rattle.qrules.specs.Account.{HasEnds, is_over_soft}
use Rattle.qrules.specs.Grace.{next_end}
use Rattle.qplain.specs.State.{Holder, State}
use Rattle.qplain.specs.Use.{account_of}
use Rattle.qplain.specs.Decision.{with_ends_of}
use Rattle.qplain_laws.specs.Laws.{EndsStay}

-- an end that stands exactly where it should is the next one too
pub next_end-same : (over : Bool) (end : Option ℕ) (new : ℕ) → is_some end ≡ over → next_end over end new ≡ end
next_end-same false None new h = refl
next_end-same false (Some end) new h = cc
next_end-same true None new h = cc
next_end-same true (Some end) new h = refl

-- the next end stands exactly where it should
pub next_end-stands : (over : Bool) (end : Option ℕ) (new : ℕ) → is_some (next_end over end new) ≡ over
next_end-stands false end new = refl
next_end-stands true None new = refl
next_end-stands true (Some end) new = refl

-- a holder whose ends are where they should be keeps them
pub with_ends_of-same : (S : State) (moment : ℕ) (h : Holder) → HasEnds (account_of S h) → with_ends_of S moment h ≡ h
with_ends_of-same S moment h ends =
    let blocks = next_end-same (is_over_soft Blocks (account_of S h)) h.block_end (moment + S.graces.block) ends.blocks in
    let inodes = next_end-same (is_over_soft Inodes (account_of S h)) h.inode_end (moment + S.graces.inode) ends.inodes in
    λ i. record h { block_end = blocks i; inode_end = inodes i }

-- and so do all such holders
pub holders-same : (S : State) (moment : ℕ) (hs : List Holder) → All (λ h. HasEnds (account_of S h)) hs → map (with_ends_of S moment) hs ≡ hs
holders-same S moment [] all = refl
holders-same S moment (h ∷ hs) all =
    let here = with_ends_of-same S moment h (All-head (λ g. HasEnds (account_of S g)) h hs all) in
    let rest = holders-same S moment hs (All-tail (λ g. HasEnds (account_of S g)) h hs all) in
    λ i. here i ∷ rest i

pub ends_stay : EndsStay
ends_stay S moment lawful = λ i. record S { holders = holders-same S moment S.holders lawful.ends_stand i }
