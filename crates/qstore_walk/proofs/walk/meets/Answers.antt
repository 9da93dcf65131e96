use Rattle.std.proofs.Common.{rules, option_map, sym}
use Rattle.std.specs.List.{slice_split}
use Rattle.qplain.specs.Walk.{is_slash}
use Rattle.qstore_walk.specs.Paths.{parts_in}
use Rattle.qstore_walk.proofs.Walks.{meets_from-on, meets_from-stops}
use Rattle.qstore_walk.proofs.walk.meets.Goals as goal

pub returns-in-Err : goal.returns-in-Err
returns-in-Err c = λ S is.
    let x = c.args in
    let met = c.loop-behind.invariant S is in
    let stops = meets_from-stops S x.number c.loop-behind.reached (slice_split is_slash c.in-Some.names.now) c.cut.result.0.now
    (parts_in (option_map (λ r. r.now) c.cut.result.1)) c.cut.ensures.parts c.in-Err.field-0 (search rules) (sym (c.in-Err.ensures S is)) in
    search (rules, met, stops)

pub loop-behind-preserved : goal.loop-behind-preserved
loop-behind-preserved c = λ S is.
    let x = c.args in
    let met = c.loop-behind.invariant S is in
    let on = meets_from-on S x.number c.loop-behind.reached (slice_split is_slash c.in-Some.names.now) c.cut.result.0.now
    (parts_in (option_map (λ r. r.now) c.cut.result.1)) c.cut.ensures.parts c.in-Ok.next (search rules) (sym (c.in-Ok.ensures S is)) in
    search (rules, met, on)
