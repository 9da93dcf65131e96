use Rattle.std.proofs.Common.{map, take}
use Rattle.qtext_job.specs.Pairs.{ArePairs}
use Rattle.qtext_job.proofs.pair.pairs_of.Given as goal

abbrev pub invariant-loop-word : goal.invariant-loop-word
invariant-loop-word l = ArePairs (map (λ w. w.now) (take l.word-index l.words)) l.pairs.items
