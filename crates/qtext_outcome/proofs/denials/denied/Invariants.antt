use Rattle.std.proofs.Common.{◌≡◌, ◌≤◌, ◌*◌, ◌^◌, take}
use Rattle.qtext_outcome.specs.Denials.{denied}
use Rattle.qtext_outcome.proofs.denials.denied.Given as goal

abbrev pub invariant-loop-transcript : goal.invariant-loop-transcript
invariant-loop-transcript l = record {
  counted : l.count ≡ denied l.number (take l.transcript-index l.transcripts);
  small : l.count ≤ l.transcript-index * 2 ^ 64;
}
