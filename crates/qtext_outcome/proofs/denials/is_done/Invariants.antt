use Rattle.std.proofs.Common.{◌≡◌, All, take}
use Rattle.qtext_outcome.specs.Denials.{denial_number}
use Rattle.qtext_outcome.proofs.denials.is_done.Given as goal

abbrev pub invariant-loop-at : goal.invariant-loop-at
invariant-loop-at l = All (λ answer. denial_number answer ≡ 0) (take l.at l.transcript.answers)
