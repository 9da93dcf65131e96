-- What an attempt and a step of the plain machine come to, and what every step keeps.
use Rattle.std.proofs.Common.{◌≡◌, ℕ, ◌+◌, ◌-◌, ◌≤◌, Bool, true, false, ◌||◌, nat_le, nat_lt, cond, List, [], ◌∷◌, Option, Some, None, refl, sym, ap, subst, ◌∙◌, tests, arith}
use Rattle.std.specs.Option.{option_or, option_map}
use Rattle.qrules.specs.declared.kind.Kind.{Kind}
use Rattle.qrules.specs.declared.limits.Limits.{Limits}
use Rattle.qrules.specs.declared.graces.Graces.{Graces}
use Rattle.qrules.specs.Sort.{Sort, Inodes, Blocks}
use Rattle.qrules.specs.Account.{Account, count_in}
use Rattle.qrules.specs.Charge.{fault_of}
use Rattle.qplain.specs.declared.call.Call.{Call}
use Rattle.qplain.specs.declared.refusal.Refusal.{Refusal}
use Rattle.qplain.specs.declared.refusal.Refusal.TheVariants.{ENOSPC, EDQUOT}
use Rattle.qplain.specs.declared.reply.Reply.{Reply}
use Rattle.qplain.specs.declared.reply.Reply.TheVariants.{Done, Refused}
use Rattle.qplain.specs.declared.bounds.TheConstants.{MAX_NUMBER}
use Rattle.qplain.specs.Caller.{Caller, is_superuser}
use Rattle.qplain.specs.State.{Holder, State, inode_at}
use Rattle.qplain.specs.Use.{account_of, total_of}
use Rattle.qplain.specs.Decision.{ends_after, fault_of_holder, first_refusal, refusal_between, refusal_of_charge}
use Rattle.qplain.specs.Calls.{attempt_of, refusal_of_arguments, unless}
use Rattle.qplain.specs.Attempt.{Becomes, no_change}
use Rattle.qplain.specs.Quotas.{with_limits_of}
use Rattle.qplain.specs.Step.{change_between, settle, settled, step}
use Rattle.qplain_laws.specs.Laws.{IsLawful, KeepsSetup}
use Rattle.qplain_laws.proofs.Becoming.{HasGoodArguments, good-arguments}
use Rattle.qplain_laws.proofs.Tables.{absent-fresh}
use Rattle.qplain_laws.proofs.Results.{fits-graced}
use Rattle.qplain_laws.proofs.Lawful.{steps_stay_lawful}
use Rattle.qplain_laws.proofs.Ends.{ends_stay}
use Rattle.qplain_laws.proofs.Kept.{setups_stay}

-- ---- what an attempt and a step come to

-- a plain result that is refused leaves the state
pub settle-refused : (S S1 : State) (cred : Caller) (moment number : ℕ) (r : Refusal) → refusal_between S S1 cred moment ≡ Some r
    → settle S cred moment (Becomes S1 number) ≡ (S, Refused r)
settle-refused S S1 cred moment number r e = ap (settled S S1 number moment) e

-- a plain result that is granted is the state, with the ends that then stand
pub settle-granted : (S S1 : State) (cred : Caller) (moment number : ℕ) → refusal_between S S1 cred moment ≡ None
    → settle S cred moment (Becomes S1 number) ≡ (ends_after S1 moment, Done number (change_between S S1))
settle-granted S S1 cred moment number e = ap (settled S S1 number moment) e

-- a call that is refused for what is written leaves the state
pub step-refused : (S : State) (cred : Caller) (moment : ℕ) (call : Call) (r : Refusal) → refusal_of_arguments S cred moment call ≡ Some r
    → step S cred moment call ≡ (S, Refused r)
step-refused S cred moment call r e = ap (λ o. settle S cred moment (unless o (attempt_of S cred call))) e

-- any other call comes to what it attempts
pub step-attempted : (S : State) (cred : Caller) (moment : ℕ) (call : Call) → refusal_of_arguments S cred moment call ≡ None
    → step S cred moment call ≡ settle S cred moment (attempt_of S cred call)
step-attempted S cred moment call e = ap (λ o. settle S cred moment (unless o (attempt_of S cred call))) e

-- what holds of a state holds after each call, where it does after one that is not refused for its arguments
pub step-passed : (P : State → Type 0) (S : State) (cred : Caller) (moment : ℕ) (call : Call) → P S
    → (HasGoodArguments S cred moment call → P (step S cred moment call).0) → P (step S cred moment call).0
step-passed P S cred moment call stays passed = by (refusal_of_arguments S cred moment call) refl
  where
    by : (o : Option Refusal) → refusal_of_arguments S cred moment call ≡ o → P (step S cred moment call).0
    by (Some r) e = subst (λ (after : State × Reply). P after.0) (sym (step-refused S cred moment call r e)) stays
    by None e = passed (good-arguments S cred moment call e)

-- ---- other limits and other graces

-- a state whose holders and graces alone were changed has no other totals
pub change-none : (S : State) (holders : List Holder) (graces : Graces) → change_between S (record S { holders = holders; graces = graces }) ≡ no_change
change-none S holders graces =
    let blocks : total_of S Blocks - total_of S Blocks ≡ 0 = omega arith in
    let inodes : total_of S Inodes - total_of S Inodes ≡ 0 = omega arith in
    λ i. record { blocks_charged = blocks i; blocks_released = blocks i; inodes_charged = inodes i; inodes_released = inodes i }

le-itself : (n : ℕ) → nat_le n n ≡ true
le-itself n = grind (arith, tests)

-- a use that stays has no fault
fault_of-same : (sort : Sort) (a : Account) (moment : ℕ) → fault_of sort a moment (count_in sort a) ≡ None
fault_of-same sort a moment = rw (le-itself (count_in sort a)) refl

-- where no use changes, no holder has a fault
first_refusal-same : (S : State) (holders : List Holder) (graces : Graces) (moment : ℕ) (hs : List Holder)
    → first_refusal (fault_of_holder S (record S { holders = holders; graces = graces }) moment) hs ≡ None
first_refusal-same S holders graces moment [] = refl
first_refusal-same S holders graces moment (h ∷ hs) =
    let fault : fault_of_holder S (record S { holders = holders; graces = graces }) moment h ≡ None =
    λ i. option_or (fault_of-same Inodes (account_of S h) moment i) (fault_of-same Blocks (account_of S h) moment i) in
    λ i. option_or (option_map (λ over. EDQUOT h.kind over) (fault i)) (first_refusal-same S holders graces moment hs i)

none-if : (b : Bool) (o : Option Refusal) → o ≡ None → cond b None o ≡ None
none-if true o e = refl
none-if false o e = e

-- a state whose holders and graces alone were changed is refused to nobody
pub refusal-none : (S : State) (holders : List Holder) (graces : Graces) (cred : Caller) (moment : ℕ)
    → total_of S Blocks ≤ S.size → total_of S Inodes ≤ S.most_inodes → S.next ≤ MAX_NUMBER + 1
    → refusal_between S (record S { holders = holders; graces = graces }) cred moment ≡ None
refusal-none S holders graces cred moment blocks inodes next =
    let few_blocks : nat_lt S.size (total_of S Blocks) ≡ false = grind (arith, tests, blocks) in
    let few_inodes : nat_lt S.most_inodes (total_of S Inodes) ≡ false = grind (arith, tests, inodes) in
    let low : nat_lt (MAX_NUMBER + 1) S.next ≡ false = grind (arith, tests, next) in
    (λ i. cond (few_blocks i || few_inodes i || low i) (Some ENOSPC) (refusal_of_charge S (record S { holders = holders; graces = graces }) cred moment))
    ∙ none-if (is_superuser cred) (first_refusal (fault_of_holder S (record S { holders = holders; graces = graces }) moment) S.holders)
    (first_refusal-same S holders graces moment S.holders)

-- a state whose holders and graces alone were changed is what the attempt comes to
pub settle-unchanged : (S : State) (holders : List Holder) (graces : Graces) (cred : Caller) (moment number : ℕ)
    → total_of S Blocks ≤ S.size → total_of S Inodes ≤ S.most_inodes → S.next ≤ MAX_NUMBER + 1
    → settle S cred moment (Becomes (record S { holders = holders; graces = graces }) number)
    ≡ (ends_after (record S { holders = holders; graces = graces }) moment, Done number no_change)
settle-unchanged S holders graces cred moment number blocks inodes next =
    let S1 : State = record S { holders = holders; graces = graces } in
    settle-granted S S1 cred moment number (refusal-none S holders graces cred moment blocks inodes next)
    ∙ (λ i. (ends_after S1 moment, Done number (change-none S holders graces i)))

-- so are new limits
pub settle-with_limits_of : (S : State) (kind : Kind) (id : ℕ) (limits : Limits) (cred : Caller) (moment : ℕ)
    → total_of S Blocks ≤ S.size → total_of S Inodes ≤ S.most_inodes → S.next ≤ MAX_NUMBER + 1
    → settle S cred moment (Becomes (with_limits_of S kind id limits) 0) ≡ (ends_after (with_limits_of S kind id limits) moment, Done 0 no_change)
settle-with_limits_of S kind id limits cred moment blocks inodes next =
    settle-unchanged S (with_limits_of S kind id limits).holders S.graces cred moment 0 blocks inodes next

-- and so are new graces
pub settle-graced : (S : State) (graces : Graces) (cred : Caller) (moment : ℕ)
    → total_of S Blocks ≤ S.size → total_of S Inodes ≤ S.most_inodes → S.next ≤ MAX_NUMBER + 1
    → settle S cred moment (Becomes (record S { graces = graces }) 0) ≡ (ends_after (record S { graces = graces }) moment, Done 0 no_change)
settle-graced S graces cred moment blocks inodes next = settle-unchanged S S.holders graces cred moment 0 blocks inodes next

-- new graces move no end that stands
pub ends_after-graced : (S : State) (graces : Graces) (moment : ℕ) → IsLawful S
    → ends_after (record S { graces = graces }) moment ≡ record S { graces = graces }
ends_after-graced S graces moment lawful = ends_stay (record S { graces = graces }) moment (record {
  blocks_fit = lawful.blocks_fit;
  inodes_fit = lawful.inodes_fit;
  next_fits = lawful.next_fits;
  ends_stand = lawful.ends_stand;
  parts = fits-graced S graces lawful.parts;
})

-- ---- what every step keeps

-- the next number is nobody's
pub absent-next : (S : State) → IsLawful S → inode_at S S.next ≡ None
absent-next S lawful = absent-fresh S.inodes S.next lawful.parts.inodes.fresh

-- the state after a call of a lawful state is lawful
pub IsLawful-step : (S : State) (cred : Caller) (moment : ℕ) (call : Call) → IsLawful S → IsLawful (step S cred moment call).0
IsLawful-step = steps_stay_lawful

-- so it is where the step is known
pub IsLawful-from_step : (S : State) (cred : Caller) (moment : ℕ) (call : Call) (S2 : State) (reply : Reply)
    → IsLawful S → step S cred moment call ≡ (S2, reply) → IsLawful S2
IsLawful-from_step S cred moment call S2 reply lawful e =
    subst (λ (after : State × Reply). IsLawful after.0) e (steps_stay_lawful S cred moment call lawful)

-- the size, the most inodes, the file limit and who the holders are stay
pub KeepsSetup-from_step : (S : State) (cred : Caller) (moment : ℕ) (call : Call) (S2 : State) (reply : Reply)
    → step S cred moment call ≡ (S2, reply) → KeepsSetup S S2
KeepsSetup-from_step S cred moment call S2 reply e =
    subst (λ (after : State × Reply). KeepsSetup S after.0) e (setups_stay S cred moment call)
