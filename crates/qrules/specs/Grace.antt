-- When the grace of a soft limit begins, stands and goes, and what each change of an account leaves (quotactl(2)).
use Rattle.std.specs.Prelude.{ℕ, ◌+◌, ◌-◌, Bool, true, false, Option, Some, None}
use Rattle.qrules.specs.declared.limits.Limits.{Limits}
use Rattle.qrules.specs.declared.graces.Graces.{Graces}
use Rattle.qrules.specs.Sort.{Sort, Inodes, Blocks, grace_of}
use Rattle.qrules.specs.Account.{Account, end_in, is_over_soft}

-- the grace end after a change: none where use is not over the soft limit, else the one that stands, else a new one
abbrev pub next_end : Bool → Option ℕ → ℕ → Option ℕ
next_end false end new = None
next_end true (Some end) new = Some end
next_end true None new = Some new

-- the grace end of this sort that stands after a change at this moment
abbrev pub end_after : Sort → Account → Graces → ℕ → Option ℕ
end_after sort account graces moment =
    next_end (is_over_soft sort account) (end_in sort account) (moment + grace_of sort graces)

-- the account with the grace ends that stand after a change at this moment
abbrev pub with_ends : Account → Graces → ℕ → Account
with_ends account graces moment =
    record account {
      block_end = end_after Blocks account graces moment;
      inode_end = end_after Inodes account graces moment;
    }

-- the account of somebody who uses nothing
abbrev pub unused : Limits → Account
unused limits = record { blocks = 0; inodes = 0; limits = limits; block_end = None; inode_end = None }

-- the account after a charge, which adds to the use, with the ends that then stand
abbrev pub charged : Account → Graces → ℕ → ℕ → ℕ → Account
charged account graces moment blocks inodes =
    with_ends (record account { blocks = account.blocks + blocks; inodes = account.inodes + inodes }) graces moment

-- a release takes from the use
abbrev pub less_used : Account → ℕ → ℕ → Account
less_used account blocks inodes = record account { blocks = account.blocks - blocks; inodes = account.inodes - inodes }

-- a grace end goes where use is no longer over the soft limit, and else stays as it is
abbrev pub kept_end : Bool → Option ℕ → Option ℕ
kept_end false end = None
kept_end true end = end

-- the account after a release, which begins no grace
abbrev pub released : Account → ℕ → ℕ → Account
released account blocks inodes =
    let less = less_used account blocks inodes in
    record less {
      block_end = kept_end (is_over_soft Blocks less) account.block_end;
      inode_end = kept_end (is_over_soft Inodes less) account.inode_end;
    }

-- new limits forget both grace ends and compute them anew, also where they are the old limits (profile)
abbrev pub with_limits : Account → Limits → Graces → ℕ → Account
with_limits account limits graces moment =
    with_ends (record account { limits = limits; block_end = None; inode_end = None }) graces moment
