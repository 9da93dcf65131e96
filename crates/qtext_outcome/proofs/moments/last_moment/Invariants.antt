use Rattle.std.proofs.Common.{◌≡◌, take}
use Rattle.std.specs.Prelude.{fold, max}
use Rattle.qtext_outcome.specs.Moments.{moments_in}
use Rattle.qtext_outcome.proofs.moments.last_moment.Given as goal

abbrev pub invariant-loop-transcript : goal.invariant-loop-transcript
invariant-loop-transcript l = l.last ≡ fold max 0 (moments_in (take l.transcript-index l.transcripts))
