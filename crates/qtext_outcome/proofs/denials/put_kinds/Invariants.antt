use Rattle.std.proofs.Common.{ℕ, List, drop}
use Rattle.std.specs.List.{flat_map}
use Rattle.std.specs.Borrow.{Bor}
use Rattle.qtext.specs.Written.{Partly}
use Rattle.qtext_outcome.specs.Denials.{denial_line, denied}
use Rattle.qtext_outcome.proofs.denials.put_kinds.Given as goal

abbrev pub invariant-loop-number : goal.invariant-loop-number
invariant-loop-number g l =
    let line = λ (kind : ℕ × Bor (List ℕ)). denial_line (denied kind.0 l.transcripts) kind.1.now in
    Partly (g.W.Write.contents l.fn.out) (g.W.Write.contents l.out) (flat_map line l.kinds)
    (flat_map line (drop l.number-index l.kinds))
