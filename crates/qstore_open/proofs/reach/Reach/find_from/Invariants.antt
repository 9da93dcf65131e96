use Rattle.std.proofs.Common.{take}
use Rattle.qstore_open.specs.Reaching.{Finds, inos_of_all}
use Rattle.qstore_open.proofs.reach.Reach.find_from.Given as goal

abbrev pub invariant-loop-dir : goal.invariant-loop-dir
invariant-loop-dir l = Finds (inos_of_all l.inos (take l.dir-index l.dirs)) l.fn.self l.self
