use Rattle.std.proofs.Common.{length}
use Rattle.test_texts.proofs.answer_all.Given as goal

-- the input that is left
abbrev pub decreases-loop-rest : goal.decreases-loop-rest
decreases-loop-rest g l = length l.rest
