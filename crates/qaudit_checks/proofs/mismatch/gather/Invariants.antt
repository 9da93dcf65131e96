use Rattle.qaudit_checks.specs.FirstMismatch.{IsFirstMismatch}
use Rattle.qaudit_checks.proofs.mismatch.gather.Given as goal

abbrev pub invariant-loop-transcript : goal.invariant-loop-transcript
invariant-loop-transcript l = IsFirstMismatch l.entries l.transcripts l.transcript-index l.first
