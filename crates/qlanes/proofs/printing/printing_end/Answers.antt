use Rattle.std.proofs.Common.{◌≡◌, arith}
use Rattle.qlanes.specs.Bytes.{is_printing}
use Rattle.qlanes.proofs.Runs.{run_goes_on, run_ends}
use Rattle.qlanes.proofs.printing.printing_end.Goals as goal

pub returns-then-run-lt16-clause-end : goal.returns-then-run-lt16-clause-end
returns-then-run-lt16-clause-end c =
    let ends = run_ends is_printing c.args.bytes.now c.loop-at.at c.run_at-run.result (omega arith) c.run_at-run.ensures.run c.if-run-lt16.true in
    omega (arith, ends, c.loop-at.invariant.same)

pub loop-at-preserved : goal.loop-at-preserved
loop-at-preserved c =
    let whole : c.run_at-run.result ≡ 16 = omega arith in
    let on = run_goes_on is_printing c.args.bytes.now c.loop-at.at c.run_at-run.result (omega arith) c.run_at-run.ensures.run whole in
    rw whole (record { within = omega arith; same = omega (arith, on, c.loop-at.invariant.same) })
