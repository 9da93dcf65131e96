use Rattle.std.proofs.Common.{◌≡◌, ◌≤◌, ◌==◌, filter, length, take}
use Rattle.qtext_outcome.specs.Denials.{denial_number}
use Rattle.qtext_outcome.proofs.denials.denied_in.Given as goal

abbrev pub invariant-loop-at : goal.invariant-loop-at
invariant-loop-at l = record {
  counted : l.count ≡ length (filter (λ answer. denial_number answer == l.number) (take l.at l.transcript.answers));
  small : l.count ≤ l.at;
}
