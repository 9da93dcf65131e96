use Rattle.std.proofs.Common.{drop}
use Rattle.std.specs.List.{flat_map}
use Rattle.qtext.specs.Written.{Partly}
use Rattle.qtext_write.specs.Answers.{answer_text}
use Rattle.qtext_outcome.proofs.transcript_text.put_lines.Given as goal

abbrev pub invariant-loop-at : goal.invariant-loop-at
invariant-loop-at g l =
    Partly (g.W.Write.contents l.fn.out) (g.W.Write.contents l.out) (flat_map answer_text l.transcript.answers)
    (flat_map answer_text (drop l.at l.transcript.answers))
