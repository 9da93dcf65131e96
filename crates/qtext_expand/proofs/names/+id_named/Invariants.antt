use Rattle.std.proofs.Common.{length}
use Rattle.qtext_expand.proofs.names.+id_named.Given as goal

abbrev pub decreases-id_named : goal.decreases-id_named
decreases-id_named l = length l.principals.now
