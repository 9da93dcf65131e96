use Rattle.std.proofs.Common.{◌++◌, map, IsPermutation}
use Rattle.std.specs.List.{All}
use Rattle.qstore_tree.specs.Tree.{kept_row}
use Rattle.qstore_tree.proofs.Rows.{HasFewBlocks, row_of, seen}
use Rattle.qstore_tree.proofs.tree.Tree.inode_rows.Given as goal

abbrev pub invariant-loop-number : goal.invariant-loop-number
invariant-loop-number l = record {
  rows : IsPermutation (map (kept_row l.self.links) l.self.inodes) (l.rows.items ++ map row_of l.number-iterator);
  few : All HasFewBlocks (map seen l.number-iterator);
}
