use Rattle.std.proofs.Common.{ap, arith, length}
use Rattle.qblocks.specs.File.{with_touched}
use Rattle.qblocks.proofs.Dense.{dense_gaps}
use Rattle.qblocks.proofs.View.{allocated_le, missing_blocks}
use Rattle.qblocks.proofs.file.BlockFile.missing.Goals as goal

pub overflow_mul-self-inside : goal.overflow_mul-self-inside
overflow_mul-self-inside c =
    let a = c.self.inside in
    let whole = c.self.invariant in
    omega (arith, allocated_le a.rows a.size whole.below, whole.counted, whole.bounded)

pub returns-then-self-clause-missing : goal.returns-then-self-clause-missing
returns-then-self-clause-missing c =
    let a = c.self.inside in
    let whole = c.self.invariant in
    let before = ap (λ f. length f.file.allocated) c.self.view_is in
    let after = ap (λ f. length (with_touched f.file.allocated c.args.off c.args.len)) c.self.view_is in
    let past = dense_gaps a.rows a.size a.count whole.counted whole.below (omega arith) c.args.off c.args.len in
    omega (arith, before, after, past, c.touched_from.ensures.count, missing_blocks a.rows a.size c.args.off c.args.len whole.below)

pub returns-clause-missing : goal.returns-clause-missing
returns-clause-missing c =
    let before = ap (λ f. length f.file.allocated) c.self.view_is in
    let after = ap (λ f. length (with_touched f.file.allocated c.args.off c.args.len)) c.self.view_is in
    omega (arith, before, after, c.missing.ensures.missing, missing_blocks c.self.inside.rows c.self.inside.size c.args.off c.args.len c.self.invariant.below)
