-- What is decided of a call that is written as it may be, and what comes of it when it is carried out.
use Rattle.std.proofs.Common.{◌≡◌, ℕ, All, Bool, Some, Option, Result, Ok, Err, refl, sym, ap, subst, ◌∙◌}
use Rattle.std.specs.declared.alloc.AllocError.{AllocError}
use Rattle.std.specs.Result.{IsErr}
use Rattle.qplain.specs.declared.call.Call.{Call}
use Rattle.qplain.specs.declared.refusal.Refusal.{Refusal}
use Rattle.qplain.specs.declared.reply.Reply.{Reply}
use Rattle.qplain.specs.declared.reply.Reply.TheVariants.{Refused}
use Rattle.qplain.specs.Calls.{attempt_of, refusal_of_arguments, unless}
use Rattle.qplain.specs.Caller.{Caller}
use Rattle.qplain.specs.State.{State}
use Rattle.qplain.specs.Step.{settle, step}
use Rattle.qplain_laws.specs.Laws.{PassesNoLimit}
use Rattle.qplain_laws.proofs.Within.{limits_hold}
use Rattle.qstore.specs.declared.plan.Plan.{Plan}
use Rattle.qstore.specs.declared.plan.Plan.TheVariants.{Nothing}
use Rattle.qstore.specs.declared.request.Request.{Request}
use Rattle.qstore.specs.Applied.{IsApplied}
use Rattle.qstore.specs.Decided.{IsDecided, IsDecision, IsPlanned}
use Rattle.qstore.specs.Ready.{IsReady, IsRefused, committed, effect}
use Rattle.qstore.specs.Requests.{CanDecide, IsConsistent, IsRequestFor, IsWritten}
use Rattle.qstore.specs.Stored.{IsStorable, Stored}
use Rattle.qstore.proofs.Steps.{IsStorable-from_step}

-- a call that is refused for what is written changes nothing
pub step-refused : (S : State) (cred : Caller) (moment : ℕ) (call : Call) (refusal : Refusal) → refusal_of_arguments S cred moment call ≡ Some refusal
    → step S cred moment call ≡ (S, Refused refusal)
step-refused S cred moment call refusal is = ap (λ o. settle S cred moment (unless o (attempt_of S cred call))) is

-- the store can decide the request, also where it is looked at once more
pub can-now : (s now : Stored) → now ≡ s → (cred : Caller) (moment : ℕ) (bad : Bool) (fault : Option Refusal) (q : Request)
    → IsRequestFor s cred moment bad fault q → CanDecide now q
can-now s now same cred moment bad fault q asked = subst (λ (v : Stored). CanDecide v q) (sym same) asked.can

-- a step that is made is one that is applied
pub applied : (S T : State) (cred : Caller) (moment : ℕ) (call : Call) (reply : Reply) → (T, reply) ≡ step S cred moment call
    → IsApplied S T cred moment call (Ok reply)
applied S T cred moment call reply is = record {
  ok = is;
  err = tt;
  refused_first = λ refused. refl;
  limits = λ other.
      subst (λ U. All (PassesNoLimit S U moment) S.holders) (sym (ap (λ (told : State × Reply). told.0) is)) (limits_hold S cred moment call other);
}

-- so is a call that is refused for what is written
pub applied-refused : (s now : Stored) → now ≡ s → (cred : Caller) (moment : ℕ) (call : Call) (refusal : Refusal)
    → refusal_of_arguments s.state cred moment call ≡ Some refusal → IsApplied s.state now.state cred moment call (Ok (Refused refusal))
applied-refused s now same cred moment call refusal is =
    applied s.state now.state cred moment call (Refused refusal)
    (ap (λ (v : Stored). (v.state, Refused refusal)) same ∙ sym (step-refused s.state cred moment call refusal is))

-- its refusal is ready, and comes to that step
pub refused-ready : (s now new : Stored) → now ≡ s → IsConsistent s → new ≡ record now { plan = Nothing } → IsReady new
refused-ready s now new same whole none =
    subst IsReady (sym none) (record { can = tt; sound = subst (λ (v : Stored). IsStorable v.state) (sym same) whole.sound })

pub refused-committed : (s now new : Stored) → now ≡ s → (cred : Caller) (moment : ℕ) (call : Call) (refusal : Refusal) (reply : Reply)
    → new ≡ record now { plan = Nothing } → reply ≡ Refused refusal → refusal_of_arguments s.state cred moment call ≡ Some refusal
    → (committed new, reply) ≡ step s.state cred moment call
refused-committed s now new same cred moment call refusal reply none is refused =
    (λ i. (committed (none i), is i))
    ∙ ap (λ (v : Stored). (v.state, Refused refusal)) same
    ∙ sym (step-refused s.state cred moment call refusal refused)

module _ (s : Stored) (cred : Caller) (moment : ℕ) (bad : Bool) (fault : Option Refusal) (q : Request)
    (asked : IsRequestFor s cred moment bad fault q) (call : Call) (written : IsWritten s.state bad fault call) where
  -- the request comes to the step
  pub settled-step : settle s.state q.cred.now q.moment (attempt_of s.state q.cred.now call) ≡ step s.state cred moment call
  settled-step =
      (λ i. settle s.state (asked.cred_is i) (asked.moment_is i) (attempt_of s.state (asked.cred_is i) call))
      ∙ ap (λ o. settle s.state cred moment (unless o (attempt_of s.state cred call))) (sym (asked.allowed call written))

  -- what is decided leaves that
  pub effect-step : (new : Stored) (plan : Plan) (reply : Reply) → IsDecided s new q (attempt_of s.state q.cred.now call) plan reply
      → (effect new plan, reply) ≡ step s.state cred moment call
  effect-step new plan reply decided = decided.step ∙ settled-step

  -- which is storable
  pub effect-sound : (new : Stored) (plan : Plan) (reply : Reply) → IsDecided s new q (attempt_of s.state q.cred.now call) plan reply
      → IsStorable (effect new plan)
  effect-sound new plan reply decided =
      IsStorable-from_step s.state (effect new plan) cred moment call reply asked.can.whole.sound (effect-step new plan reply decided)

  -- so what is decided and kept is ready
  pub decided-ready : (new : Stored) (reply : Reply) → IsDecided s new q (attempt_of s.state q.cred.now call) new.plan reply → IsReady new
  decided-ready new reply decided = record { can = decided.can; sound = effect-sound new new.plan reply decided }

  -- where it is refused, it is no want of memory
  pub refused-step : {A : Type 0} → (IsRefused (settle s.state q.cred.now q.moment (attempt_of s.state q.cred.now call)).1 → A)
      → IsRefused (step s.state cred moment call).1 → A
  refused-step first refused = first (subst (λ (t : State × Reply). IsRefused t.1) (sym settled-step) refused)

  module _ (now new : Stored) (same : now ≡ s) where
    -- what is decided then is decided of the store before
    pub decided-before : (plan : Plan) (result : Result Reply AllocError)
        → IsPlanned now new q (attempt_of now.state q.cred.now call) plan result
        → IsPlanned s new q (attempt_of s.state q.cred.now call) plan result
    decided-before plan result decided =
        subst (λ (v : Stored). IsPlanned v new q (attempt_of v.state q.cred.now call) plan result) same decided

    -- what is answered at once is applied
    pub answered-now : (reply : Reply) → settle now.state q.cred.now q.moment (attempt_of now.state q.cred.now call) ≡ (now.state, reply)
        → IsApplied s.state now.state cred moment call (Ok reply)
    answered-now reply is =
        let before : settle s.state q.cred.now q.moment (attempt_of s.state q.cred.now call) ≡ (s.state, reply) =
        subst (λ (v : Stored). settle v.state q.cred.now q.moment (attempt_of v.state q.cred.now call) ≡ (v.state, reply)) same is in
        applied s.state now.state cred moment call reply (ap (λ (v : Stored). (v.state, reply)) same ∙ sym before ∙ settled-step)

    module _ (plan : Plan) (reply : Reply) (decided : IsPlanned now new q (attempt_of now.state q.cred.now call) plan (Ok reply)) where
      -- what is decided leaves a storable state
      pub sound-now : IsStorable (effect new plan)
      sound-now = effect-sound new plan reply (decided-before plan (Ok reply) decided).decided

      -- and where it is carried out, it is applied
      pub applied-now : (T : State) → T ≡ effect new plan → IsApplied s.state T cred moment call (Ok reply)
      applied-now T is =
          applied s.state T cred moment call reply
          ((λ i. (is i, reply)) ∙ effect-step new plan reply (decided-before plan (Ok reply) decided).decided)

    -- what is decided and kept is ready
    pub ready-now : (reply : Reply) → IsDecision now new q (attempt_of now.state q.cred.now call) (Ok reply) → IsReady new
    ready-now reply decided = decided-ready new reply (decided-before new.plan (Ok reply) decided).decided

    -- and nothing is where memory is wanting
    pub unapplied-now : (plan : Plan) (decision result : Result Reply AllocError) → IsErr decision → IsErr result
        → IsPlanned now new q (attempt_of now.state q.cred.now call) plan decision
        → IsApplied s.state new.state cred moment call result
    unapplied-now plan (Ok told) result wanting wants decided = cc
    unapplied-now plan (Err lack) (Ok reply) wanting wants decided = cc
    unapplied-now plan (Err lack) (Err want) wanting wants decided = record {
      ok = tt;
      err = decided.same.state ∙ ap (λ (v : Stored). v.state) same;
      refused_first = refused-step (decided-before plan (Err lack) decided).refused_first;
      limits = tt;
    }
