use Rattle.std.proofs.Common.{length}
use Rattle.qtext_check.proofs.near.+without_back.Given as goal

abbrev pub decreases-without_back : goal.decreases-without_back
decreases-without_back l = length l.other.now
