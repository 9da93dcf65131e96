use Rattle.std.proofs.Common.{◌≡◌, map, take}
use Rattle.qsession.specs.Inodes.{inode_in}
use Rattle.qsession.proofs.inodes.list_inodes.Given as goal

-- the rows so far stand in the list
abbrev pub invariant-loop-i : goal.invariant-loop-i
invariant-loop-i l = map inode_in (take l.i l.list) ≡ take l.i l.rows
