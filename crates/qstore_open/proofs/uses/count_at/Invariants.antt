use Rattle.std.proofs.Common.{◌≡◌, ◌==◌, drop}
use Rattle.std.specs.List.{find}
use Rattle.qstore_open.proofs.uses.count_at.Given as goal

abbrev pub invariant-loop-count : goal.invariant-loop-count
invariant-loop-count l = find (λ count. count.id == l.id) l.counts ≡ find (λ count. count.id == l.id) (drop l.count-index l.counts)
