use Rattle.std.proofs.Common.{◌≡◌, ℕ, nat_lt, List, Result, Ok, refl, sym, ap, subst, ◌∙◌, arith, tests}
use Rattle.std.specs.declared.alloc.AllocError.{AllocError}
use Rattle.qblocks.specs.Input.{input_bytes}
use Rattle.qplain.specs.declared.bounds.TheConstants.{MAX_DATA}
use Rattle.qplain.specs.declared.call.Call.{Call}
use Rattle.qplain.specs.declared.call.Call.TheVariants.{Write}
use Rattle.qplain.specs.declared.refusal.Refusal.{Refusal}
use Rattle.qplain.specs.declared.reply.Reply.{Reply}
use Rattle.qplain.specs.declared.reply.Reply.TheVariants.{Refused}
use Rattle.qplain.specs.Calls.{attempt_of}
use Rattle.qstore.specs.declared.plan.Plan.TheVariants.{Nothing}
use Rattle.qstore.specs.declared.request.Request.{Request}
use Rattle.qstore.specs.declared.store.write.Target.{Target}
use Rattle.qstore.specs.Decided.{IsPlanned}
use Rattle.qstore.specs.Requests.{IsWritten}
use Rattle.qstore.specs.Stored.{Stored}
use Rattle.qstore.specs.Targets.{put_plan, put_planned, put_reply}
use Rattle.qstore.proofs.Applied.{answered-now, applied-now, applied-refused, can-now, sound-now, unapplied-now}
use Rattle.qstore.proofs.store.Store.write.Goals as goal

-- what is planned where room was to be made, of an equal answer to that
planned-as : (now new : Stored) (q : Request) (call : Call) (target : Target) (off : ℕ) (bytes : List ℕ)
    (made other : Result (Result ℕ Refusal) AllocError) → made ≡ other
    → IsPlanned now new q (attempt_of now.state q.cred.now call) (put_planned target off bytes made) (put_reply target made)
    → IsPlanned now new q (attempt_of now.state q.cred.now call) (put_planned target off bytes other) (put_reply target other)
planned-as now new q call target off bytes made other same =
    subst (λ (r : Result (Result ℕ Refusal) AllocError).
    IsPlanned now new q (attempt_of now.state q.cred.now call) (put_planned target off bytes r) (put_reply target r)) same

pub returns-in-Err : goal.returns-in-Err
returns-in-Err c =
    let x = c.args in
    let call = Write x.path.now x.off (input_bytes x.bytes) in
    let bad = nat_lt MAX_DATA c.len.result in
    let written : IsWritten x.self.now.state bad c.path_fault.result call =
    record { numbers = ap (nat_lt MAX_DATA) (sym c.len.ensures); paths = sym c.path_fault.ensures } in
    applied-refused x.self.now c.check.new.self c.check.ensures.same x.cred.now x.moment call c.in-Err.refusal
    (c.in-Err.ensures.refused call written)

pub target-requires-clause-can : goal.target-requires-clause-can
target-requires-clause-can c =
    let x = c.args in
    can-now x.self.now c.check.new.self c.check.ensures.same x.cred.now x.moment (nat_lt MAX_DATA c.len.result) c.path_fault.result c.in-Ok.request
    c.in-Ok.ensures.checked

pub target-requires-clause-few : goal.target-requires-clause-few
target-requires-clause-few c =
    let fine = c.in-Ok.ensures.checked.numbers in
    let len = c.len.ensures in
    grind (arith, tests, fine, len)

pub returns-in-Err-target : goal.returns-in-Err-target
returns-in-Err-target c =
    let x = c.args in
    let bytes = input_bytes x.bytes in
    let call = Write x.path.now x.off bytes in
    let q = c.in-Ok.request in
    let bad = nat_lt MAX_DATA c.len.result in
    let written : IsWritten x.self.now.state bad c.path_fault.result call =
    record { numbers = ap (nat_lt MAX_DATA) (sym c.len.ensures); paths = sym c.path_fault.ensures } in
    answered-now x.self.now x.cred.now x.moment bad c.path_fault.result q c.in-Ok.ensures.checked call written c.check.new.self
    c.check.new.self c.check.ensures.same c.in-Err-target.reply (c.in-Err-target.ensures.refused q.moment)

pub returns-in_err-spare : goal.returns-in_err-spare
returns-in_err-spare c =
    let x = c.args in
    let bytes = input_bytes x.bytes in
    let call = Write x.path.now x.off bytes in
    let q = c.in-Ok.request in
    let bad = nat_lt MAX_DATA c.len.result in
    let written : IsWritten x.self.now.state bad c.path_fault.result call =
    record { numbers = ap (nat_lt MAX_DATA) (sym c.len.ensures); paths = sym c.path_fault.ensures } in
    let now = c.check.new.self in
    let new = c.room_for_put.new.self in
    let target = c.in-Ok-target.target in
    let decision = planned-as now new q call target x.off bytes _ _ c.in_err-spare.was c.room_for_put.ensures in
    unapplied-now x.self.now x.cred.now x.moment bad c.path_fault.result q c.in-Ok.ensures.checked call written c.check.new.self
    new c.check.ensures.same _ _ _ refl c.from_residual.ensures.0 decision

pub put-requires-clause-can : goal.put-requires-clause-can
put-requires-clause-can c =
    let x = c.args in
    let bytes = input_bytes x.bytes in
    let call = Write x.path.now x.off bytes in
    let q = c.in-Ok.request in
    let bad = nat_lt MAX_DATA c.len.result in
    let written : IsWritten x.self.now.state bad c.path_fault.result call =
    record { numbers = ap (nat_lt MAX_DATA) (sym c.len.ensures); paths = sym c.path_fault.ensures } in
    let now = c.check.new.self in
    let new = c.room_for_put.new.self in
    let target = c.in-Ok-target.target in
    let decision = planned-as now new q call target x.off bytes _ _ (c.in_ok-spare.was ∙ ap Ok c.in-Ok-2.is) c.room_for_put.ensures in
    decision.decided.can

pub put-requires-clause-sound : goal.put-requires-clause-sound
put-requires-clause-sound c =
    let x = c.args in
    let bytes = input_bytes x.bytes in
    let call = Write x.path.now x.off bytes in
    let q = c.in-Ok.request in
    let bad = nat_lt MAX_DATA c.len.result in
    let written : IsWritten x.self.now.state bad c.path_fault.result call =
    record { numbers = ap (nat_lt MAX_DATA) (sym c.len.ensures); paths = sym c.path_fault.ensures } in
    let now = c.check.new.self in
    let new = c.room_for_put.new.self in
    let target = c.in-Ok-target.target in
    let decision = planned-as now new q call target x.off bytes _ _ (c.in_ok-spare.was ∙ ap Ok c.in-Ok-2.is) c.room_for_put.ensures in
    sound-now x.self.now x.cred.now x.moment bad c.path_fault.result q c.in-Ok.ensures.checked call written c.check.new.self
    new c.check.ensures.same (put_plan target x.off bytes c.in-Ok-2.spare) _ decision

pub returns-in-Ok-2 : goal.returns-in-Ok-2
returns-in-Ok-2 c =
    let x = c.args in
    let bytes = input_bytes x.bytes in
    let call = Write x.path.now x.off bytes in
    let q = c.in-Ok.request in
    let bad = nat_lt MAX_DATA c.len.result in
    let written : IsWritten x.self.now.state bad c.path_fault.result call =
    record { numbers = ap (nat_lt MAX_DATA) (sym c.len.ensures); paths = sym c.path_fault.ensures } in
    let now = c.check.new.self in
    let new = c.room_for_put.new.self in
    let target = c.in-Ok-target.target in
    let decision = planned-as now new q call target x.off bytes _ _ (c.in_ok-spare.was ∙ ap Ok c.in-Ok-2.is) c.room_for_put.ensures in
    applied-now x.self.now x.cred.now x.moment bad c.path_fault.result q c.in-Ok.ensures.checked call written c.check.new.self
    new c.check.ensures.same (put_plan target x.off bytes c.in-Ok-2.spare) c.put.result
    (subst (λ (r : Reply). IsPlanned now new q (attempt_of now.state q.cred.now call) (put_plan target x.off bytes c.in-Ok-2.spare) (Ok r))
    (sym c.put.ensures.reply) decision)
    c.put.new.self.state c.put.ensures.state

pub returns-in-Err-2 : goal.returns-in-Err-2
returns-in-Err-2 c =
    let x = c.args in
    let bytes = input_bytes x.bytes in
    let call = Write x.path.now x.off bytes in
    let q = c.in-Ok.request in
    let bad = nat_lt MAX_DATA c.len.result in
    let written : IsWritten x.self.now.state bad c.path_fault.result call =
    record { numbers = ap (nat_lt MAX_DATA) (sym c.len.ensures); paths = sym c.path_fault.ensures } in
    let now = c.check.new.self in
    let new = c.room_for_put.new.self in
    let target = c.in-Ok-target.target in
    let decision = planned-as now new q call target x.off bytes _ _ (c.in_ok-spare.was ∙ ap Ok c.in-Err-2.is) c.room_for_put.ensures in
    applied-now x.self.now x.cred.now x.moment bad c.path_fault.result q c.in-Ok.ensures.checked call written c.check.new.self
    new c.check.ensures.same Nothing (Refused c.in-Err-2.refusal) decision new.state refl
