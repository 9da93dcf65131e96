use Rattle.std.proofs.Common.{take}
use Rattle.qstore_open.specs.Reaching.{Finds}
use Rattle.qstore_open.proofs.reach.Reach.find_all.Given as goal

abbrev pub invariant-loop-number : goal.invariant-loop-number
invariant-loop-number l = Finds (take l.number-index l.numbers) l.fn.self l.self
