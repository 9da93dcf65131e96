use Rattle.std.proofs.Common.{rules, ◌≡◌, ap, ◌∙◌}
use Rattle.std.specs.List.{slice_split}
use Rattle.qplain.specs.Walk.{components, is_slash, last_name}
use Rattle.qplain.specs.Attempt.{under}
use Rattle.qstore_walk.proofs.Walks.{parent-fault, told-fault}
use Rattle.qstore_walk.proofs.walk.last_component.Goals as goal

pub returns-in-Err-clause-fault : goal.returns-in-Err-clause-fault
returns-in-Err-clause-fault c = λ S is try.
    let x = c.args in
    let parts : components x.path.now ≡ slice_split is_slash c.in-Some.names.now = search rules in
    ap (λ names. under S x.of_root try names (last_name names)) parts
    ∙ parent-fault S x.of_root try is_slash c.in-Some.names.now c.in-Err.refusal (c.in-Err.ensures.fault S is)

pub returns-in_err-leads_to-clause-fault : goal.returns-in_err-leads_to-clause-fault
returns-in_err-leads_to-clause-fault c =
    told-fault _ c.from_residual.result c.in_err-leads_to.field-0.0 (search rules) (λ S is try.
    let parent = c.in-Ok.ensures.dir S is in
    let none = c.in_err-leads_to.ensures.fault S is in
    search (rules, parent, none))

pub returns-clause-found : goal.returns-clause-found
returns-clause-found c = λ S is try.
    let parent = c.in-Ok.ensures.dir S is in
    let found = c.in_ok-leads_to.ensures.found S is in
    search (rules, parent, found)
