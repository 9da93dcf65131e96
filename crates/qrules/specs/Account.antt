-- What a quota record is to its callers: what one principal uses, its limits and its grace ends (quotactl(2)).
use Rattle.std.specs.Prelude.{◌≡◌, ℕ, Bool, Option, is_some}
use Rattle.qrules.specs.declared.limits.Limits.{Limits}
use Rattle.qrules.specs.Sort.{Sort, Inodes, Blocks, amount_of, soft_limit, is_over}

-- the blocks and inodes in use, the limits, and for each sort the moment at which its grace ends, where one runs
pub record Account : Type 0 where
  pub blocks : ℕ
  pub inodes : ℕ
  pub limits : Limits
  pub block_end : Option ℕ
  pub inode_end : Option ℕ

-- how many of this sort the account uses
abbrev pub count_in : Sort → Account → ℕ
count_in Inodes account = account.inodes
count_in Blocks account = account.blocks

-- the grace end of this sort
abbrev pub end_in : Sort → Account → Option ℕ
end_in Inodes account = account.inode_end
end_in Blocks account = account.block_end

-- the account's use of this sort is over its soft limit
abbrev pub is_over_soft : Sort → Account → Bool
is_over_soft sort account = is_over (amount_of sort (count_in sort account)) (soft_limit sort account.limits)

-- a grace end stands exactly where use is over that soft limit
pub record HasEnds (account : Account) : Type 0 where
  pub inodes : is_some account.inode_end ≡ is_over_soft Inodes account
  pub blocks : is_some account.block_end ≡ is_over_soft Blocks account
