use Rattle.std.proofs.Common.{length}
use Rattle.test_texts.proofs.spellings.one_spelling.Given as goal

-- the text that is left
abbrev pub decreases-loop-rest : goal.decreases-loop-rest
decreases-loop-rest l = length l.rest
