use Rattle.std.proofs.Common.{length}
use Rattle.qtext_expand.proofs.call.+put_worked.Given as goal

abbrev pub decreases-put_worked : goal.decreases-put_worked
decreases-put_worked l = length l.row.now
