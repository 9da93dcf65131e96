use Rattle.std.proofs.Common.{arith, inr, refl}
use Rattle.qtext_client.proofs.Paying.{all_passed, part_passed}
use Rattle.qtext_client.proofs.bounded_line.pass.Goals as goal

pub loop-preserved : goal.loop-preserved
loop-preserved g c =
    let (part, takes, turns, rest) = c.in-More.ensures in
    record {
      few = omega (arith, rest);
      passed = part_passed _ _ _ _ _ _ _ c.loop.left c.in-More.rest c.loop.invariant.passed c.in-More.ensures;
    }

pub returns-in-Last-clause-over : goal.returns-in-Last-clause-over
returns-in-Last-clause-over g c =
    inr (refl, all_passed _ _ _ _ _ _ _ c.loop.left c.loop.invariant.passed c.in-Last.ensures)
