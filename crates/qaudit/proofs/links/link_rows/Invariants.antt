use Rattle.std.proofs.Common.{◌≡◌, map, take}
use Rattle.qaudit.specs.Recount.{link_row}
use Rattle.qaudit.proofs.links.link_rows.Given as goal

abbrev pub invariant-loop-inode : goal.invariant-loop-inode
invariant-loop-inode l = l.rows.items ≡ map (link_row l.inodes l.names) (take l.inode-index l.inodes)
