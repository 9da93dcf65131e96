use Rattle.qshare_history.specs.Shares.{AreThere}
use Rattle.qshare_history.proofs.share.least_missing.Given as goal

abbrev pub invariant-loop-before : goal.invariant-loop-before
invariant-loop-before g l = AreThere l.shares l.before
