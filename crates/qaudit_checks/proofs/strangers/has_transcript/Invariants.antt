use Rattle.std.proofs.Common.{Contains, map, take}
use Rattle.qaudit_checks.proofs.strangers.has_transcript.Given as goal

abbrev pub invariant-loop-transcript : goal.invariant-loop-transcript
invariant-loop-transcript l = Contains (map (λ t. t.worker) (take l.transcript-index l.transcripts)) l.worker → ⊥
