use Rattle.std.proofs.Common.{◌≡◌, ◌+◌, Some}
use Rattle.qplain.specs.Transcripts.{Belongs}
use Rattle.qaudit_checks.specs.FirstMismatch.{AllBefore}
use Rattle.qaudit_checks.proofs.strangers.first_strange.Given as goal

abbrev pub invariant-loop-entry : goal.invariant-loop-entry
invariant-loop-entry l = (l.place ≡ l.entry-index)
    × AllBefore l.entries (Some (l.entry-index + 1)) (λ e. Unit {0}) (λ k e. Belongs l.transcripts e)
