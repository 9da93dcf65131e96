use Rattle.std.proofs.Common.{ℕ, List, sym, ap, ◌∙◌}
use Rattle.qplain.specs.declared.call.Call.TheVariants.{Write}
use Rattle.qplain.specs.Calls.{attempt_of}
use Rattle.qplain.specs.Step.{settle}
use Rattle.qstore.proofs.Deciding.{answered-here}
use Rattle.qstore.proofs.store.Store.decide_write.Goals as goal

pub returns-in-Err : goal.returns-in-Err
returns-in-Err c =
    let x = c.args in
    let s = x.self.now in
    let moment = x.request.now.moment in
    let cred = x.request.now.cred.now in
    let refused = ap (λ (bytes : List ℕ). settle s.state cred moment (attempt_of s.state cred (Write x.path.now x.off bytes)))
    (sym c.input-input.ensures) ∙ c.in-Err.ensures.refused moment in
    answered-here s c.clear_plan.new.self x.request.now _ c.in-Err.reply refused c.clear_plan.ensures
