use Rattle.std.proofs.Common.{length}
use Rattle.qtext_rows.proofs.call_members.+put_values.Given as goal

abbrev pub decreases-put_values : goal.decreases-put_values
decreases-put_values g l = length l.row.now
