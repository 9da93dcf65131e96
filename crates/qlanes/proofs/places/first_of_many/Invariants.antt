use Rattle.std.proofs.Common.{length, ◌-◌, ◌≤◌, eqb}
use Rattle.qlanes.proofs.FirstPlaces.{IsPassed}
use Rattle.qlanes.proofs.places.first_of_many.Given as goal

-- it is none of the bytes before
abbrev pub invariant-loop-at : goal.invariant-loop-at
invariant-loop-at l = record {
  within : l.at ≤ length l.bytes;
  passed : IsPassed (λ b. eqb b l.byte) l.bytes l.at;
}

abbrev pub decreases-loop-at : goal.decreases-loop-at
decreases-loop-at l = length l.bytes - l.at
