use Rattle.std.proofs.Common.{◌≡◌, map, take}
use Rattle.qrules.specs.declared.inode_row.InodeRow.{InodeRow}
use Rattle.qaudit.proofs.numbers.numbers_of.Given as goal

abbrev pub invariant-loop-inode : goal.invariant-loop-inode
invariant-loop-inode l = l.numbers.items ≡ map (λ (row : InodeRow). row.ino) (take l.inode-index l.inodes)
