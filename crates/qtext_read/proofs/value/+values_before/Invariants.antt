use Rattle.std.proofs.Common.{length}
use Rattle.qtext_read.proofs.value.+values_before.Given as goal

abbrev pub decreases-values_before : goal.decreases-values_before
decreases-values_before l = length l.row.now
