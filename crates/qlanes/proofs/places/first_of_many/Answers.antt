use Rattle.std.proofs.Common.{◌-◌, eqb, length, arith}
use Rattle.qlanes.proofs.FirstPlaces.{passes_on, stands}
use Rattle.qlanes.proofs.places.first_of_many.Goals as goal

pub returns-then-run-lt16 : goal.returns-then-run-lt16
returns-then-run-lt16 c =
    stands (λ b. eqb b c.args.byte) c.args.bytes.now c.loop-at.at 16 c.run_of_16-run.result (omega arith) c.run_of_16-run.ensures
    c.loop-at.invariant.passed (λ _. c.if-run-lt16.true)

pub loop-at-preserved : goal.loop-at-preserved
loop-at-preserved c = record {
  within = omega arith;
  passed = passes_on (λ b. eqb b c.args.byte) c.args.bytes.now c.loop-at.at 16 c.run_of_16-run.result (omega arith)
      c.run_of_16-run.ensures c.loop-at.invariant.passed (omega arith);
}

pub returns : goal.returns
returns c =
    let last = length c.args.bytes.now - 16 in
    stands (λ b. eqb b c.args.byte) c.args.bytes.now last 16 c.run_of_16.result (omega arith) c.run_of_16.ensures
    (λ k low. c.loop-at.invariant.passed k (omega (arith, low))) (λ inside. omega (arith, inside))
