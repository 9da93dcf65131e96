use Rattle.std.proofs.Common.{◌≡◌, ◌+◌}
use Rattle.qaudit_checks.specs.FirstMismatch.{AreSeenAnswers}
use Rattle.qaudit_checks.proofs.answers.first_other.Given as goal

abbrev pub invariant-loop-entry : goal.invariant-loop-entry
invariant-loop-entry l = (l.place ≡ l.entry-index + 1) × AreSeenAnswers l.entries l.transcript l.entry-index l.seen
