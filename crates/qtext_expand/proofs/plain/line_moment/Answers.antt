use Rattle.qtext_expand.proofs.PlainLines.{moment_fails, moment_said}
use Rattle.qtext_expand.proofs.plain.line_moment.Goals as goal

pub returns-in-Ok : goal.returns-in-Ok
returns-in-Ok c =
    moment_said c.args.line.now.bytes.now c.args.line.now.whole c.in-Ok.read c.requires.whole c.in-Ok.ensures.exact

pub returns : goal.returns
returns c =
    moment_fails c.args.line.now.bytes.now c.args.line.now.whole c.in-Err.fault c.requires.whole c.in-Err.ensures.exact
