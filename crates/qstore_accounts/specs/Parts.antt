-- What accounts are made of that are opened: the books that the parts spell out, and the account that a record holds.
use Rattle.qrules.specs.declared.graces.Graces.{Graces}
use Rattle.qrules.specs.Account.{Account}
use Rattle.qplain.specs.declared.quota.Quota.{Quota}
use Rattle.qstore_accounts.specs.declared.accounts.parts.Parts.{Parts}
use Rattle.qstore_accounts.specs.Books.{Books}

-- the books that the parts spell out
abbrev pub books_in : Parts → Books
books_in parts = record {
  size = parts.size;
  most_inodes = parts.most_inodes;
  graces = parts.graces;
  users = parts.users.items;
  groups = parts.groups.items;
  projects = parts.projects.items;
  blocks = parts.blocks;
  inodes = parts.inodes;
}

-- the account that a record holds
abbrev pub account_in : Quota → Account
account_in quota = record {
  blocks = quota.blocks;
  inodes = quota.inodes;
  limits = quota.limits;
  block_end = quota.block_end;
  inode_end = quota.inode_end;
}

-- no grace, so that what begins ends at its own moment
abbrev pub no_graces : Graces
no_graces = record { block = 0; inode = 0 }
