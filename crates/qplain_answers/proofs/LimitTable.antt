-- The limits of one principal in their order, as a table and as a decision looks for them.
use Rattle.std.proofs.Common.{◌≡◌, ℕ, Bool, true, false, not, ◌&&◌, ◌||◌, ◌==◌, nat_le, nat_lt, cond, List, [], ◌∷◌, Option, Some, None, refl, sym, ap, subst, ◌∙◌, tests, arith}
use Rattle.std.specs.Option.{option_or}
use Rattle.std.proofs.lemmas.List.Elements.{All-cons, All-nil}
use Rattle.qrules.specs.declared.over.Over.{Over}
use Rattle.qrules.specs.declared.over.Over.TheVariants.{InodeHard, InodeSoft, BlockHard, BlockSoft}
use Rattle.qrules.specs.Sort.{Sort, Inodes, Blocks, amount_of, hard_limit, soft_limit, is_over}
use Rattle.qrules.specs.Account.{end_in}
use Rattle.qrules.specs.Charge.{has_ended}
use Rattle.qplain.specs.State.{Holder, State}
use Rattle.qplain.specs.Use.{account_of, use_of}
use Rattle.qplain.specs.Decision.{fault_of_holder}
use Rattle.qplain_answers.specs.FirstLimit.{IsFirstInTheWay, NamedLimit, NoneInTheWay, has_run_out, limits_in_order, rises_over}

-- ---- tests, however they are told

not-lt : (b a : ℕ) → nat_le a b ≡ not (nat_lt b a)
not-lt b a = by (nat_lt b a) refl
  where
    by : (t : Bool) → nat_lt b a ≡ t → nat_le a b ≡ not t
    by true l = grind (arith, tests, l)
    by false l = grind (arith, tests, l)

is_set : (limit : ℕ) → nat_lt 0 limit ≡ not (limit == 0)
is_set limit = by (nat_lt 0 limit) refl
  where
    by : (t : Bool) → nat_lt 0 limit ≡ t → t ≡ not (limit == 0)
    by true l = let other : (limit == 0) ≡ false = grind (arith, tests, l) in rw other refl
    by false l = let same : (limit == 0) ≡ true = grind (arith, tests, l) in rw same refl

and-assoc : (a b c : Bool) → (a && b && c) ≡ (a && (b && c))
and-assoc true b c = refl
and-assoc false b c = refl

and-later : (a b c : Bool) → ((a && b) && c) ≡ (a && (b && c))
and-later true b c = refl
and-later false b c = refl

-- a use that rises over a limit
rises : (before after amount limit : ℕ) → rises_over before after amount limit ≡ (nat_lt before after && is_over amount limit)
rises before after amount limit =
    and-assoc (nat_lt before after) (nat_lt 0 limit) (nat_lt limit amount)
    ∙ ap (λ b. nat_lt before after && (b && nat_lt limit amount)) (is_set limit)

ran_out : (end : Option ℕ) (moment : ℕ) → has_run_out end moment ≡ has_ended end moment
ran_out None moment = refl
ran_out (Some end) moment = by (nat_le end moment) refl
  where
    by : (t : Bool) → nat_le end moment ≡ t → not (nat_lt moment end) ≡ t
    by true l = let no : nat_lt moment end ≡ false = grind (arith, tests, l) in rw no refl
    by false l = let yes : nat_lt moment end ≡ true = grind (arith, tests, l) in rw yes refl

rises-late : (before after amount limit : ℕ) (end : Option ℕ) (moment : ℕ)
    → (rises_over before after amount limit && has_run_out end moment) ≡ (nat_lt before after && (is_over amount limit && has_ended end moment))
rises-late before after amount limit end moment =
    (λ i. rises before after amount limit i && ran_out end moment i)
    ∙ and-later (nat_lt before after) (is_over amount limit) (has_ended end moment)

-- ---- the table

-- the four limits of a principal, by what of each sort rises, and is over the hard or the soft limit then
abbrev table : Bool → Bool → Bool → Bool → Bool → Bool → List NamedLimit
table ri hi si rb hb sb = (ri && hi, InodeHard) ∷ (ri && si, InodeSoft) ∷ (rb && hb, BlockHard) ∷ (rb && sb, BlockSoft) ∷ []

-- the first of two limits of a sort
abbrev of_sort : Over → Over → Bool → Bool → Bool → Option Over
of_sort hard soft r h s = cond (not r) None (cond h (Some hard) (cond s (Some soft) None))

-- the first of the four
abbrev first_of : Bool → Bool → Bool → Bool → Bool → Bool → Option Over
first_of ri hi si rb hb sb = option_or (of_sort InodeHard InodeSoft ri hi si) (of_sort BlockHard BlockSoft rb hb sb)

-- a limit that is not in the way
abbrev Free : NamedLimit → Type 0
Free limit = limit.0 ≡ false

free : (a : Over) (limits : List NamedLimit) → NoneInTheWay limits → NoneInTheWay ((false, a) ∷ limits)
free a limits none = All-cons Free (false, a) limits refl none

free1 : (a : Over) → NoneInTheWay ((false, a) ∷ [])
free1 a = free a [] (All-nil Free)

free2 : (a b : Over) → NoneInTheWay ((false, a) ∷ (false, b) ∷ [])
free2 a b = free a ((false, b) ∷ []) (free1 b)

free3 : (a b c : Over) → NoneInTheWay ((false, a) ∷ (false, b) ∷ (false, c) ∷ [])
free3 a b c = free a ((false, b) ∷ (false, c) ∷ []) (free2 b c)

blocks-first : (rb hb sb : Bool) (over : Over) → of_sort BlockHard BlockSoft rb hb sb ≡ Some over
    → IsFirstInTheWay ((false, InodeHard) ∷ (false, InodeSoft) ∷ (rb && hb, BlockHard) ∷ (rb && sb, BlockSoft) ∷ []) over
blocks-first true true sb over is =
    let same : BlockHard ≡ over = cc in
    let before : List NamedLimit = (false, InodeHard) ∷ (false, InodeSoft) ∷ [] in
    let after : List NamedLimit = (sb, BlockSoft) ∷ [] in
    (before, after, (λ i. (false, InodeHard) ∷ (false, InodeSoft) ∷ (true, same i) ∷ after), free2 InodeHard InodeSoft)
blocks-first true false true over is =
    let same : BlockSoft ≡ over = cc in
    let before : List NamedLimit = (false, InodeHard) ∷ (false, InodeSoft) ∷ (false, BlockHard) ∷ [] in
    (before, [], (λ i. (false, InodeHard) ∷ (false, InodeSoft) ∷ (false, BlockHard) ∷ (true, same i) ∷ []), free3 InodeHard InodeSoft BlockHard)
blocks-first true false false over is = cc
blocks-first false hb sb over is = cc

-- the first that is found is the first in the way
table-first : (ri hi si rb hb sb : Bool) (over : Over) → first_of ri hi si rb hb sb ≡ Some over → IsFirstInTheWay (table ri hi si rb hb sb) over
table-first true true si rb hb sb over is =
    let same : InodeHard ≡ over = cc in
    let after : List NamedLimit = (si, InodeSoft) ∷ (rb && hb, BlockHard) ∷ (rb && sb, BlockSoft) ∷ [] in
    ([], after, (λ i. (true, same i) ∷ after), All-nil Free)
table-first true false true rb hb sb over is =
    let same : InodeSoft ≡ over = cc in
    let before : List NamedLimit = (false, InodeHard) ∷ [] in
    let after : List NamedLimit = (rb && hb, BlockHard) ∷ (rb && sb, BlockSoft) ∷ [] in
    (before, after, (λ i. (false, InodeHard) ∷ (true, same i) ∷ after), free1 InodeHard)
table-first true false false rb hb sb over is = blocks-first rb hb sb over is
table-first false hi si rb hb sb over is = blocks-first rb hb sb over is

blocks-free : (rb hb sb : Bool) → of_sort BlockHard BlockSoft rb hb sb ≡ None
    → NoneInTheWay ((false, InodeHard) ∷ (false, InodeSoft) ∷ (rb && hb, BlockHard) ∷ (rb && sb, BlockSoft) ∷ [])
blocks-free true true sb is = cc
blocks-free true false true is = cc
blocks-free true false false is = free InodeHard ((false, InodeSoft) ∷ (false, BlockHard) ∷ (false, BlockSoft) ∷ []) (free3 InodeSoft BlockHard BlockSoft)
blocks-free false hb sb is = free InodeHard ((false, InodeSoft) ∷ (false, BlockHard) ∷ (false, BlockSoft) ∷ []) (free3 InodeSoft BlockHard BlockSoft)

-- and where none is found, none is in the way
table-free : (ri hi si rb hb sb : Bool) → first_of ri hi si rb hb sb ≡ None → NoneInTheWay (table ri hi si rb hb sb)
table-free true true si rb hb sb is = cc
table-free true false true rb hb sb is = cc
table-free true false false rb hb sb is = blocks-free rb hb sb is
table-free false hi si rb hb sb is = blocks-free rb hb sb is

-- what is found has risen
table-rises : (ri hi si rb hb sb : Bool) (over : Over) → first_of ri hi si rb hb sb ≡ Some over → (ri || rb) ≡ true
table-rises true hi si rb hb sb over is = refl
table-rises false hi si true hb sb over is = refl
table-rises false hi si false hb sb over is = cc

-- ---- of a holder

module _ (old new : State) (moment : ℕ) (h : Holder) where
  -- what of this sort rises, and is over the hard or the soft limit
  abbrev r : Sort → Bool
  r sort = nat_lt (use_of old h.kind h.id sort) (use_of new h.kind h.id sort)

  abbrev hard : Sort → Bool
  hard sort = is_over (amount_of sort (use_of new h.kind h.id sort)) (hard_limit sort h.limits)

  abbrev soft : Sort → Bool
  soft sort = is_over (amount_of sort (use_of new h.kind h.id sort)) (soft_limit sort h.limits) && has_ended (end_in sort (account_of old h)) moment

  in-table : limits_in_order old new moment h ≡ table (r Inodes) (hard Inodes) (soft Inodes) (r Blocks) (hard Blocks) (soft Blocks)
  in-table =
      let i0 = use_of old h.kind h.id Inodes in
      let i1 = use_of new h.kind h.id Inodes in
      let b0 = use_of old h.kind h.id Blocks in
      let b1 = use_of new h.kind h.id Blocks in
      (λ i.
      (rises i0 i1 i1 h.limits.inode_hard i, InodeHard) ∷ (rises-late i0 i1 i1 h.limits.inode_soft h.inode_end moment i, InodeSoft)
      ∷ (rises b0 b1 (amount_of Blocks b1) h.limits.block_hard i, BlockHard)
      ∷ (rises-late b0 b1 (amount_of Blocks b1) h.limits.block_soft h.block_end moment i, BlockSoft) ∷ [])

  as-found : fault_of_holder old new moment h ≡ first_of (r Inodes) (hard Inodes) (soft Inodes) (r Blocks) (hard Blocks) (soft Blocks)
  as-found =
      (λ i.
      option_or
      (cond (not-lt (use_of old h.kind h.id Inodes) (use_of new h.kind h.id Inodes) i) None (cond (hard Inodes) (Some InodeHard)
      (cond (soft Inodes) (Some InodeSoft) None)))
      (cond (not-lt (use_of old h.kind h.id Blocks) (use_of new h.kind h.id Blocks) i) None (cond (hard Blocks) (Some BlockHard)
      (cond (soft Blocks) (Some BlockSoft) None))))

  -- the fault of a holder is its first limit in the way
  pub first-fault : (over : Over) → fault_of_holder old new moment h ≡ Some over → IsFirstInTheWay (limits_in_order old new moment h) over
  first-fault over is =
      subst (λ limits. IsFirstInTheWay limits over) (sym in-table)
      (table-first (r Inodes) (hard Inodes) (soft Inodes) (r Blocks) (hard Blocks) (soft Blocks) over (sym as-found ∙ is))

  -- a holder without a fault has no limit in the way
  pub no-fault : fault_of_holder old new moment h ≡ None → NoneInTheWay (limits_in_order old new moment h)
  no-fault is =
      subst NoneInTheWay (sym in-table) (table-free (r Inodes) (hard Inodes) (soft Inodes) (r Blocks) (hard Blocks) (soft Blocks) (sym as-found ∙ is))

  -- of a holder with a fault a use rises
  pub fault-rises : (over : Over) → fault_of_holder old new moment h ≡ Some over → (r Inodes || r Blocks) ≡ true
  fault-rises over is = table-rises (r Inodes) (hard Inodes) (soft Inodes) (r Blocks) (hard Blocks) (soft Blocks) over (sym as-found ∙ is)
