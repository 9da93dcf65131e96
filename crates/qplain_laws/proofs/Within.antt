-- Nobody but the superuser raises a use past a limit.
use Rattle.std.proofs.Common.{◌≡◌, ℕ, Bool, true, false, not, ◌&&◌, ◌||◌, nat_le, cond, List, [], ◌∷◌, All, Option, Some, None, refl, tests, arith}
use Rattle.std.specs.Option.{option_or, option_map}
use Rattle.std.proofs.lemmas.List.Elements.{All-nil, All-cons}
use Rattle.qrules.specs.declared.kind.Kind.{Kind}
use Rattle.qrules.specs.declared.over.Over.{Over}
use Rattle.qrules.specs.Sort.{Sort, Inodes, Blocks, amount_of, hard_limit, soft_limit, is_over}
use Rattle.qrules.specs.Account.{Account, count_in, end_in}
use Rattle.qrules.specs.Charge.{has_ended, hard_fault, soft_fault, fault_of}
use Rattle.qplain.specs.declared.refusal.Refusal.{Refusal}
use Rattle.qplain.specs.declared.refusal.Refusal.TheVariants.{EDQUOT, ENOSPC}
use Rattle.qplain.specs.Caller.{Caller, is_superuser}
use Rattle.qplain.specs.State.{Holder, State}
use Rattle.qplain.specs.Use.{account_of, use_of}
use Rattle.qplain.specs.Decision.{fault_of_holder, first_refusal, is_too_full, refusal_between, ends_after}
use Rattle.qplain.specs.Attempt.{Attempt, Refuse, Answer, Becomes}
use Rattle.qplain.specs.Calls.{attempt}
use Rattle.qplain.specs.Step.{settle, settled}
use Rattle.qplain_laws.specs.Laws.{LimitsHold, PassesNoLimit, is_within}

-- what the three tests of one sort leave
within_tests : (kept hard soft : Bool) (x y : Over)
    → cond kept None (cond hard (Some x) (cond soft (Some y) None)) ≡ None → (kept || (not hard && not soft)) ≡ true
within_tests true hard soft x y h = refl
within_tests false true soft x y h = cc
within_tests false false true x y h = cc
within_tests false false false x y h = refl

-- a sort without a fault is within its limits
is_within-no_fault : (sort : Sort) (a : Account) (moment count : ℕ) → fault_of sort a moment count ≡ None → is_within sort a moment count ≡ true
is_within-no_fault sort a moment count h =
    within_tests (nat_le count (count_in sort a)) (is_over (amount_of sort count) (hard_limit sort a.limits))
    (is_over (amount_of sort count) (soft_limit sort a.limits) && has_ended (end_in sort a) moment) (hard_fault sort) (soft_fault sort) h

-- neither of two faults, where the first is none
no_fault-either : (first second : Option Over) → option_or first second ≡ None → (first ≡ None) × (second ≡ None)
no_fault-either None second h = (refl, h)
no_fault-either (Some x) second h = cc

-- neither a holder's fault nor a later one
no_refusal-either : (kind : Kind) (fault : Option Over) (rest : Option Refusal)
    → option_or (option_map (λ over. EDQUOT kind over) fault) rest ≡ None → (fault ≡ None) × (rest ≡ None)
no_refusal-either kind None rest h = (refl, h)
no_refusal-either kind (Some x) rest h = cc

-- a holder without a fault has passed no limit
passes-no_fault : (old new : State) (moment : ℕ) (h : Holder) → fault_of_holder old new moment h ≡ None → PassesNoLimit old new moment h
passes-no_fault old new moment h e =
    let both = no_fault-either (fault_of Inodes (account_of old h) moment (use_of new h.kind h.id Inodes))
    (fault_of Blocks (account_of old h) moment (use_of new h.kind h.id Blocks)) e in
    record {
      inodes = is_within-no_fault Inodes (account_of old h) moment (use_of new h.kind h.id Inodes) both.0;
      blocks = is_within-no_fault Blocks (account_of old h) moment (use_of new h.kind h.id Blocks) both.1;
    }

-- where no holder is refused, none has passed a limit
all_pass : (old new : State) (moment : ℕ) (hs : List Holder) → first_refusal (fault_of_holder old new moment) hs ≡ None → All (PassesNoLimit old new moment) hs
all_pass old new moment [] e = All-nil (PassesNoLimit old new moment)
all_pass old new moment (h ∷ hs) e =
    let both = no_refusal-either h.kind (fault_of_holder old new moment h) (first_refusal (fault_of_holder old new moment) hs) e in
    All-cons (PassesNoLimit old new moment) h hs (passes-no_fault old new moment h both.0) (all_pass old new moment hs both.1)

-- a use that stays is within
is_within-same : (sort : Sort) (a : Account) (moment : ℕ) → is_within sort a moment (count_in sort a) ≡ true
is_within-same sort a moment =
    let same : nat_le (count_in sort a) (count_in sort a) ≡ true = grind (arith, tests) in
    rw same refl

-- the old state passes no limit of its own
all_stay : (S : State) (moment : ℕ) (hs : List Holder) → All (PassesNoLimit S S moment) hs
all_stay S moment [] = All-nil (PassesNoLimit S S moment)
all_stay S moment (h ∷ hs) =
    All-cons (PassesNoLimit S S moment) h hs
    (record { inodes = is_within-same Inodes (account_of S h) moment; blocks = is_within-same Blocks (account_of S h) moment })
    (all_stay S moment hs)

-- a decision that refuses nobody
granted_between : (old new : State) (cred : Caller) (moment : ℕ) (full superuser : Bool) (r : Option Refusal)
    → cond full (Some ENOSPC) (cond superuser None r) ≡ None → superuser ≡ false → r ≡ None
granted_between old new cred moment true superuser r h e = cc
granted_between old new cred moment false true r h e = cc
granted_between old new cred moment false false r h e = h

-- a plain result that is granted passes no limit, and one that is refused is not reached
settled_within : (old new : State) (number moment : ℕ) (o : Option Refusal)
    → (o ≡ None → All (PassesNoLimit old (ends_after new moment) moment) old.holders)
    → All (PassesNoLimit old (settled old new number moment o).0 moment) old.holders
settled_within old new number moment (Some q) granted = all_stay old moment old.holders
settled_within old new number moment None granted = granted refl

-- whatever an attempt comes to, nobody but the superuser passes a limit
settle_within : (S : State) (cred : Caller) (moment : ℕ) (a : Attempt) → is_superuser cred ≡ false
    → All (PassesNoLimit S (settle S cred moment a).0 moment) S.holders
settle_within S cred moment (Refuse q) e = all_stay S moment S.holders
settle_within S cred moment (Answer reply) e = all_stay S moment S.holders
settle_within S cred moment (Becomes new number) e =
    settled_within S new number moment (refusal_between S new cred moment)
    (λ none. all_pass S (ends_after new moment) moment S.holders
    (granted_between S new cred moment (is_too_full new) (is_superuser cred) (first_refusal (fault_of_holder S new moment) S.holders) none e))

pub limits_hold : LimitsHold
limits_hold S cred moment call e = settle_within S cred moment (attempt S cred moment call) e
