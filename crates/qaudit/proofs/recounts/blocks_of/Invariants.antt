use Rattle.std.proofs.Common.{◌≡◌, ◌≤◌, ◌*◌, ◌^◌, take}
use Rattle.std.specs.List.{sum_by}
use Rattle.qaudit.proofs.recounts.blocks_of.Given as goal

abbrev pub invariant-loop-row : goal.invariant-loop-row
invariant-loop-row l = (l.blocks ≡ sum_by (λ row. row.blocks) (take l.row-index l.inodes)) × (l.blocks ≤ l.row-index * 2 ^ 32)
