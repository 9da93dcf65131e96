use Rattle.std.proofs.Common.{◌∙◌, arith, sym}
use Rattle.qtext_outcome.proofs.LastMoments.{greatest_more}
use Rattle.qtext_outcome.proofs.moments.last_of.Goals as goal

pub loop-at-preserved : goal.loop-at-preserved
loop-at-preserved c =
    let at = c.loop-at.at in
    let lines = c.args.transcript.now.lines in
    let more = greatest_more c.args.least at lines c.line.result (c.line.ensures c.line.result)
    (omega (arith, c.len-at-end.ensures.lines, c.loop-at-test.true)) in
    c.max-last.ensures ∙ rw (c.loop-at.invariant, c.moment.ensures) (sym more)
