use Rattle.std.proofs.Common.{◌≡◌, false, refl, sym, subst, ◌∙◌}
use Rattle.qplain.specs.declared.call.Call.TheVariants.{Stat}
use Rattle.qplain.specs.Attempt.{at_path}
use Rattle.qplain.specs.Files.{stat_at}
use Rattle.qplain.specs.Step.{settle}
use Rattle.qstore.specs.Requests.{IsWritten}
use Rattle.qstore.specs.Stored.{Stored}
use Rattle.qstore.proofs.Applied.{settled-step, step-refused}
use Rattle.qstore.proofs.store.Store.stat.Goals as goal

pub returns-in-Err-clause-step : goal.returns-in-Err-clause-step
returns-in-Err-clause-step c =
    let x = c.args in
    let call = Stat x.path.now in
    let written : IsWritten x.self.now.state false c.path_fault.result call = record { numbers = refl; paths = sym c.path_fault.ensures } in
    sym (step-refused x.self.now.state x.cred.now x.moment call c.in-Err.refusal (c.in-Err.ensures.refused call written))

pub returns-in-Ok-clause-step : goal.returns-in-Ok-clause-step
returns-in-Ok-clause-step c =
    let x = c.args in
    let s = x.self.now in
    let call = Stat x.path.now in
    let q = c.in-Ok.field-0 in
    let written : IsWritten s.state false c.path_fault.result call = record { numbers = refl; paths = sym c.path_fault.ensures } in
    let told = c.decide_stat.ensures q.cred.now q.moment in
    subst (λ (v : Stored). (v.state, c.decide_stat.result) ≡ settle v.state q.cred.now q.moment (at_path v.state (stat_at v.state) x.path.now))
    c.check.ensures.same told
    ∙ settled-step s x.cred.now x.moment false c.path_fault.result q c.in-Ok.ensures.checked call written
