use Rattle.std.proofs.Common.{length}
use Rattle.qtext.specs.Written.{Partly}
use Rattle.qtext.proofs.writing.put.Given as goal

abbrev pub invariant-loop-rest : goal.invariant-loop-rest
invariant-loop-rest g l = Partly (g.W.Write.contents l.fn.out) (g.W.Write.contents l.out) l.fn.text l.rest

abbrev pub decreases-loop-rest : goal.decreases-loop-rest
decreases-loop-rest g l = length l.rest
