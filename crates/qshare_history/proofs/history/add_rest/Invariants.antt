use Rattle.std.proofs.Common.{◌≡◌, take}
use Rattle.qshare_history.specs.Histories.{recorded}
use Rattle.qshare_history.proofs.history.add_rest.Given as goal

abbrev pub invariant-loop-at : goal.invariant-loop-at
invariant-loop-at g l = l.prefix ≡ recorded l.fn.prefix.history (take l.at l.journal)
