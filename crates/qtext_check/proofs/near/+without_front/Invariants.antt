use Rattle.std.proofs.Common.{length}
use Rattle.qtext_check.proofs.near.+without_front.Given as goal

abbrev pub decreases-without_front : goal.decreases-without_front
decreases-without_front l = length l.other.now
