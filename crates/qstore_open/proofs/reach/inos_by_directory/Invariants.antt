use Rattle.std.proofs.Common.{◌≡◌, ℕ, take}
use Rattle.qstore_open.specs.Reaching.{inos_at, inos_in}
use Rattle.qstore_open.proofs.reach.inos_by_directory.Given as goal

abbrev pub invariant-loop-name : goal.invariant-loop-name
invariant-loop-name l = (dir : ℕ) → inos_at l.inos dir ≡ inos_in dir (take l.name-index l.names)
