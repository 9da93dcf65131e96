use Rattle.std.proofs.Common.{rules}
use Rattle.qstore_walk.proofs.Walks.{told-fault}
use Rattle.qstore_walk.proofs.walk.find.Goals as goal

pub returns-in_err-number-clause-fault : goal.returns-in_err-number-clause-fault
returns-in_err-number-clause-fault c =
    told-fault _ c.from_residual.result c.in_err-number.field-0.0 (search rules) (λ S is try.
    let walked = c.in_err-number.ensures S is in
    search (rules, walked))

pub returns-in-Some-clause-found : goal.returns-in-Some-clause-found
returns-in-Some-clause-found c = λ S is try.
    let walked = c.in_ok-number.ensures S is in
    let there = c.in-Some.ensures.there S is in
    search (rules, walked, there)

pub returns-in-None-clause-fault : goal.returns-in-None-clause-fault
returns-in-None-clause-fault c = λ S is try.
    let walked = c.in_ok-number.ensures S is in
    let there = c.in-None.ensures.there S is in
    search (rules, walked, there)
