use Rattle.std.proofs.Common.{ap, sym, ◌∙◌}
use Rattle.qplain.specs.Calls.{has_bad_number}
use Rattle.qstore.specs.Requests.{IsWritten}
use Rattle.qstore.specs.declared.plan.Plan.TheVariants.{Nothing}
use Rattle.qstore.specs.Stored.{Stored}
use Rattle.qstore.proofs.Applied.{can-now, decided-before, decided-ready, effect-step, refused-committed, refused-ready, refused-step}
use Rattle.qstore.proofs.Listed.{ok_so, ok_weaker}
use Rattle.qstore.proofs.store.Store.ready.Goals as goal

pub returns-in-Err-clause-state : goal.returns-in-Err-clause-state
returns-in-Err-clause-state c = ap (λ (v : Stored). v.state) (c.refused.ensures.plan ∙ ap (λ (v : Stored). record v { plan = Nothing }) c.check.ensures.same)

pub returns-in-Err-clause-step : goal.returns-in-Err-clause-step
returns-in-Err-clause-step c =
    let x = c.args in
    let written : IsWritten x.self.now.state c.has_bad_number-has_bad_number.result c.paths_fault.result x.call.now =
    record { numbers = sym c.has_bad_number-has_bad_number.ensures; paths = sym c.paths_fault.ensures } in
    refused-committed x.self.now c.check.new.self c.refused.new.self c.check.ensures.same x.cred.now x.moment x.call.now c.in-Err.refusal
    c.refused.result c.refused.ensures.plan c.refused.ensures.reply (c.in-Err.ensures.refused x.call.now written)

pub returns-in-Err-clause-ready : goal.returns-in-Err-clause-ready
returns-in-Err-clause-ready c =
    refused-ready c.args.self.now c.check.new.self c.refused.new.self c.check.ensures.same c.check.ensures.whole c.refused.ensures.plan

pub decide_lawful-requires-clause-can : goal.decide_lawful-requires-clause-can
decide_lawful-requires-clause-can c =
    let x = c.args in
    can-now x.self.now c.check.new.self c.check.ensures.same x.cred.now x.moment c.has_bad_number-has_bad_number.result c.paths_fault.result c.in-Ok.request
    c.in-Ok.ensures.checked

pub decide_lawful-requires-clause-numbers : goal.decide_lawful-requires-clause-numbers
decide_lawful-requires-clause-numbers c =
    let call = c.args.call.now in
    ap (λ (v : Stored). has_bad_number v.state call) c.check.ensures.same ∙ sym c.has_bad_number-has_bad_number.ensures ∙ c.in-Ok.ensures.checked.numbers

pub returns-clause-state : goal.returns-clause-state
returns-clause-state c = c.decide_lawful.ensures.decided.same.state ∙ ap (λ (v : Stored). v.state) c.check.ensures.same

pub returns-clause-step : goal.returns-clause-step
returns-clause-step c =
    let x = c.args in
    let s = x.self.now in
    let q = c.in-Ok.request in
    let asked = c.in-Ok.ensures.checked in
    let written : IsWritten s.state c.has_bad_number-has_bad_number.result c.paths_fault.result x.call.now =
    record { numbers = sym c.has_bad_number-has_bad_number.ensures; paths = sym c.paths_fault.ensures } in
    let d = decided-before s x.cred.now x.moment c.has_bad_number-has_bad_number.result c.paths_fault.result q asked x.call.now written c.check.new.self
    c.decide_lawful.new.self c.check.ensures.same c.decide_lawful.new.self.plan c.decide_lawful.result c.decide_lawful.ensures.decided in
    ok_weaker c.decide_lawful.result _ _ d.decided (λ reply is.
    effect-step s x.cred.now x.moment c.has_bad_number-has_bad_number.result c.paths_fault.result q asked x.call.now written c.decide_lawful.new.self
    c.decide_lawful.new.self.plan reply is)

pub returns-clause-ready : goal.returns-clause-ready
returns-clause-ready c =
    let x = c.args in
    let s = x.self.now in
    let q = c.in-Ok.request in
    let asked = c.in-Ok.ensures.checked in
    let written : IsWritten s.state c.has_bad_number-has_bad_number.result c.paths_fault.result x.call.now =
    record { numbers = sym c.has_bad_number-has_bad_number.ensures; paths = sym c.paths_fault.ensures } in
    let d = decided-before s x.cred.now x.moment c.has_bad_number-has_bad_number.result c.paths_fault.result q asked x.call.now written c.check.new.self
    c.decide_lawful.new.self c.check.ensures.same c.decide_lawful.new.self.plan c.decide_lawful.result c.decide_lawful.ensures.decided in
    ok_so c.decide_lawful.result _ _ d.decided (λ reply is.
    decided-ready s x.cred.now x.moment c.has_bad_number-has_bad_number.result c.paths_fault.result q asked x.call.now written c.decide_lawful.new.self
    reply is)

pub returns-clause-refused_first : goal.returns-clause-refused_first
returns-clause-refused_first c =
    let x = c.args in
    let s = x.self.now in
    let q = c.in-Ok.request in
    let asked = c.in-Ok.ensures.checked in
    let written : IsWritten s.state c.has_bad_number-has_bad_number.result c.paths_fault.result x.call.now =
    record { numbers = sym c.has_bad_number-has_bad_number.ensures; paths = sym c.paths_fault.ensures } in
    let d = decided-before s x.cred.now x.moment c.has_bad_number-has_bad_number.result c.paths_fault.result q asked x.call.now written c.check.new.self
    c.decide_lawful.new.self c.check.ensures.same c.decide_lawful.new.self.plan c.decide_lawful.result c.decide_lawful.ensures.decided in
    refused-step s x.cred.now x.moment c.has_bad_number-has_bad_number.result c.paths_fault.result q asked x.call.now written d.refused_first
