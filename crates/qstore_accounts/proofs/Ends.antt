-- Grace ends that are where they should be, and changes that move none.
use Rattle.std.proofs.Common.{◌≡◌, ℕ, ◌+◌}
use Rattle.qrules.specs.declared.graces.Graces.{Graces}
use Rattle.qrules.specs.Sort.{Inodes, Blocks, grace_of}
use Rattle.qrules.specs.Account.{Account, HasEnds, is_over_soft}
use Rattle.qrules.specs.Grace.{end_after}
use Rattle.qplain_laws.proofs.Ends.{next_end-same}

-- an account whose ends are where they should be keeps its block end
pub block_end-same : (account : Account) (graces : Graces) (moment : ℕ) → HasEnds account → end_after Blocks account graces moment ≡ account.block_end
block_end-same account graces moment ends = next_end-same (is_over_soft Blocks account) account.block_end (moment + grace_of Blocks graces) ends.blocks

-- and its inode end
pub inode_end-same : (account : Account) (graces : Graces) (moment : ℕ) → HasEnds account → end_after Inodes account graces moment ≡ account.inode_end
inode_end-same account graces moment ends = next_end-same (is_over_soft Inodes account) account.inode_end (moment + grace_of Inodes graces) ends.inodes
