-- How a `Record` keeps its account. No public clause cites this module.
use Rattle.std.specs.Prelude.{◌≤◌}
use Rattle.qrules.specs.declared.record.Record.TheInside.{Inside}
use Rattle.qrules.specs.declared.record.TheConstants.{MAX_USE}
use Rattle.qrules.specs.Account.{Account, HasEnds}

-- the account that the fields spell out
abbrev pub account_of : Inside → Account
account_of r = record {
  blocks = r.blocks;
  inodes = r.inodes;
  limits = r.limits;
  block_end = r.block_end;
  inode_end = r.inode_end;
}

-- the fields that spell out an account
abbrev pub fields_of : Account → Inside
fields_of a = record {
  blocks = a.blocks;
  inodes = a.inodes;
  limits = a.limits;
  block_end = a.block_end;
  inode_end = a.inode_end;
}

-- what is true of every record: its ends are those that its use asks for, and its use is within bounds
pub record IsKept (r : Inside) : Type 0 where
  pub ends : HasEnds (account_of r)
  pub blocks : r.blocks ≤ MAX_USE
  pub inodes : r.inodes ≤ MAX_USE
