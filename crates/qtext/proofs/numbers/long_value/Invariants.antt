use Rattle.std.proofs.Common.{drop}
use Rattle.qtext.proofs.Numerals.{IsSoFar}
use Rattle.qtext.proofs.numbers.long_value.Given as goal

abbrev pub invariant-loop-digit : goal.invariant-loop-digit
invariant-loop-digit l = IsSoFar l.digits (drop l.digit-index l.digits) l.value
