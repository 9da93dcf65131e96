-- The two sorts of use that a quota counts, inodes and blocks, and what a limit is for each of them.
use Rattle.std.specs.Prelude.{ℕ, ◌*◌, Bool, not, ◌&&◌, ◌==◌, nat_lt}
use Rattle.qrules.specs.declared.limits.Limits.{Limits}
use Rattle.qrules.specs.declared.limits.TheConstants.{KIB_PER_BLOCK}
use Rattle.qrules.specs.declared.graces.Graces.{Graces}

-- a sort of use
pub data Sort : Type 0 where
  Inodes : Sort
  Blocks : Sort

-- what a use amounts to in the unit of its limits: inodes one by one, blocks of 4096 bytes in KiB (setquota(8))
abbrev pub amount_of : Sort → ℕ → ℕ
amount_of Inodes count = count
amount_of Blocks count = KIB_PER_BLOCK * count

-- the soft limit of this sort
abbrev pub soft_limit : Sort → Limits → ℕ
soft_limit Inodes limits = limits.inode_soft
soft_limit Blocks limits = limits.block_soft

-- the hard limit of this sort
abbrev pub hard_limit : Sort → Limits → ℕ
hard_limit Inodes limits = limits.inode_hard
hard_limit Blocks limits = limits.block_hard

-- the grace period of this sort, in seconds
abbrev pub grace_of : Sort → Graces → ℕ
grace_of Inodes graces = graces.inode
grace_of Blocks graces = graces.block

-- an amount is over a limit where it is more, and never where the limit is 0, which is none (setquota(8))
abbrev pub is_over : ℕ → ℕ → Bool
is_over amount limit = not (limit == 0) && nat_lt limit amount
