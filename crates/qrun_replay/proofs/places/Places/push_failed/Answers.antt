use Rattle.std.proofs.Common.{◌++◌, ◌∷◌, [], Err, ap, ◌∙◌}
use Rattle.qrun_replay.specs.declared.failed_line.FailedLine.{FailedLine}
use Rattle.qrun_replay.proofs.Standing.{failed_more}
use Rattle.qrun_replay.proofs.places.Places.push_failed.Goals as goal

pub returns-clause-stands : goal.returns-clause-stands
returns-clause-stands c =
    let failed : FailedLine = record { line = c.args.line; fault = c.args.fault } in
    failed_more c.self.inside.failed.items c.self.inside.kept.items c.push_reserved-2.new.self.items c.self.invariant.0
    c.push_reserved.new.self.items failed c.len-index.result c.push_reserved.ensures.items (c.len-index.ensures ∙ c.self.inside.failed.ok.0)
    c.push_reserved-2.ensures.items
    ∙ ap (λ s. s.stands ++ Err failed ∷ []) c.self.view_is
