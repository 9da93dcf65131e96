use Rattle.qtext.specs.Pieces.{spaces}
use Rattle.qtext.specs.Written.{Partly}
use Rattle.qtext.proofs.writing.put_spaces.Given as goal

abbrev pub invariant-loop-rest : goal.invariant-loop-rest
invariant-loop-rest g l = Partly (g.W.Write.contents l.fn.out) (g.W.Write.contents l.out) (spaces l.fn.count) (spaces l.rest)

abbrev pub decreases-loop-rest : goal.decreases-loop-rest
decreases-loop-rest g l = l.rest
