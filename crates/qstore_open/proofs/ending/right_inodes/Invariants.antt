use Rattle.std.proofs.Common.{◌≡◌, ◌+◌, drop, sum_by}
use Rattle.qstore_open.specs.Counting.{rows_line}
use Rattle.qstore_open.proofs.ending.right_inodes.Given as goal

abbrev pub invariant-loop-inode : goal.invariant-loop-inode
invariant-loop-inode l = record {
  behind : l.line + sum_by (λ row. row.blocks) (drop l.inode-index l.inodes)
      ≡ l.from + l.inode-index + sum_by (λ row. row.blocks) l.inodes;
  lines : rows_line l.reach l.from l.inodes ≡ rows_line l.reach l.line (drop l.inode-index l.inodes);
}
