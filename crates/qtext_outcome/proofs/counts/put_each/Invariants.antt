use Rattle.std.proofs.Common.{drop}
use Rattle.std.specs.List.{flat_map}
use Rattle.qtext.specs.Written.{Partly}
use Rattle.qtext_outcome.proofs.CountedLines.{one_count}
use Rattle.qtext_outcome.proofs.counts.put_each.Given as goal

abbrev pub invariant-loop-words : goal.invariant-loop-words
invariant-loop-words g l =
    Partly (g.W.Write.contents l.fn.out) (g.W.Write.contents l.out) (flat_map one_count l.counts)
    (flat_map one_count (drop l.words-index l.counts))
