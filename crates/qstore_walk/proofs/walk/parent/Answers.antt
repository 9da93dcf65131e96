use Rattle.std.proofs.Common.{rules, Ok, option_map, ap, sym, ◌∙◌}
use Rattle.qplain.specs.Walk.{is_slash, last_name}
use Rattle.qstore_walk.specs.Paths.{parts_in}
use Rattle.qstore_walk.specs.Parents.{parent}
use Rattle.qstore_walk.proofs.Walks.{parent-from, parent_from-stops, told-fault}
use Rattle.qstore_walk.proofs.walk.parent.Goals as goal

pub loop-behind-init : goal.loop-behind-init
loop-behind-init c = (
  (λ S is. ap (parent S) c.cut.ensures.parts ∙ parent-from S c.cut.result.0.now (parts_in (option_map (λ r. r.now) c.cut.result.1))),
  ap last_name c.cut.ensures.parts,
  search rules,
)

pub returns-in_err-dir-clause-fault : goal.returns-in_err-dir-clause-fault
returns-in_err-dir-clause-fault c =
    told-fault _ c.from_residual.result c.in_err-dir.field-0.0 (search rules) (λ S is.
    let walked = c.loop-behind.invariant.0 S is in
    let stops = parent_from-stops S (Ok c.loop-behind.dir) c.loop-behind.name.now c.in_err-dir.field-0.0 is_slash c.in-Some.rest.now
    (sym (c.in_err-dir.ensures S is)) in
    search (rules, walked, stops))

pub loop-behind-preserved : goal.loop-behind-preserved
loop-behind-preserved c = (
  (λ S is.
      let walked = c.loop-behind.invariant.0 S is in
      let step = c.in_ok-dir.ensures S is in
      search (rules, walked, step)),
  search rules,
  search rules,
)

pub returns-clause-dir : goal.returns-clause-dir
returns-clause-dir c = λ S is.
    let walked = c.loop-behind.invariant.0 S is in
    search (rules, walked)
