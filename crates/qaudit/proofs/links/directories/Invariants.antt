use Rattle.std.proofs.Common.{◌≡◌, ℕ, take}
use Rattle.std.specs.BTreeSet.{contains}
use Rattle.std.specs.Ordering.{nat_cmp}
use Rattle.qaudit.specs.Recount.{is_directory}
use Rattle.qaudit.proofs.links.directories.Given as goal

abbrev pub invariant-loop-inode : goal.invariant-loop-inode
invariant-loop-inode l = (q : ℕ) → contains nat_cmp l.found q ≡ is_directory (take l.inode-index l.inodes) q
