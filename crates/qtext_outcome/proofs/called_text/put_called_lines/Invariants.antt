use Rattle.std.proofs.Common.{◌+◌, drop}
use Rattle.qtext.specs.Written.{Partly}
use Rattle.qtext_outcome.specs.Calls.{called_lines}
use Rattle.qtext_outcome.proofs.called_text.put_called_lines.Given as goal

abbrev pub invariant-loop-at : goal.invariant-loop-at
invariant-loop-at g l = Partly (g.W.Write.contents l.fn.out) (g.W.Write.contents l.out)
    (called_lines 1 l.transcript.lines l.transcript.answers)
    (called_lines (l.at + 1) (drop l.at l.transcript.lines) (drop l.at l.transcript.answers))
