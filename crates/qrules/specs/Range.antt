-- Which limits and graces may be set (setquota(8), profile).
use Rattle.std.specs.Prelude.{Bool, ◌&&◌, nat_le}
use Rattle.qrules.specs.declared.limits.Limits.{Limits}
use Rattle.qrules.specs.declared.limits.TheConstants.{MAX_LIMIT}
use Rattle.qrules.specs.declared.graces.Graces.{Graces}
use Rattle.qrules.specs.declared.graces.TheConstants.{MAX_GRACE}

-- each limit is at most the highest
abbrev pub are_limits_in_range : Limits → Bool
are_limits_in_range limits =
    nat_le limits.block_soft MAX_LIMIT && nat_le limits.block_hard MAX_LIMIT
    && nat_le limits.inode_soft MAX_LIMIT && nat_le limits.inode_hard MAX_LIMIT

-- each grace is a second at least, and at most the longest
abbrev pub are_graces_in_range : Graces → Bool
are_graces_in_range graces =
    nat_le 1 graces.block && nat_le graces.block MAX_GRACE && nat_le 1 graces.inode && nat_le graces.inode MAX_GRACE
