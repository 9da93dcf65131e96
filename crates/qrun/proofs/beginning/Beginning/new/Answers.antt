use Rattle.std.proofs.Common.{arith}
use Rattle.qrun.proofs.beginning.Beginning.new.Goals as goal

pub returns-clause-has_begun : goal.returns-clause-has_begun
returns-clause-has_begun c wanted said = record {
  fresh = c.in_ok-store.ensures.journal;
  again = record {
    alike = rw c.in_ok-store.ensures.begun c.in_ok-again.ensures.alike;
    there = λ some. c.in_ok-again.ensures.there (said some);
  };
}

pub returns-clause-fresh : goal.returns-clause-fresh
returns-clause-fresh c = returns-clause-has_begun c 0 (λ some. absurd (omega (arith, some)))
