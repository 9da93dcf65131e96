use Rattle.std.proofs.Common.{rules, option_map}
use Rattle.qplain_laws.proofs.Walking.{walk-fault}
use Rattle.qstore_walk.specs.Paths.{parts_in}
use Rattle.qstore_walk.proofs.walk.walk.Goals as goal

pub returns-in_err-reached : goal.returns-in_err-reached
returns-in_err-reached c = λ S is.
    let walked = c.loop-behind.invariant S is in
    let step = c.in_err-reached.ensures S is in
    let fault = walk-fault S c.in_err-reached.field-0.0 (parts_in (option_map (λ r. r.now) c.cut.result.1)) in
    search (rules, walked, step, fault)

pub loop-behind-preserved : goal.loop-behind-preserved
loop-behind-preserved c = λ S is.
    let walked = c.loop-behind.invariant S is in
    let step = c.in_ok-reached.ensures S is in
    search (rules, walked, step)

pub returns : goal.returns
returns c = λ S is.
    let walked = c.loop-behind.invariant S is in
    search (rules, walked)
