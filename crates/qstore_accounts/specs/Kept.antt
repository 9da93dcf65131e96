-- How accounts keep their books. No public clause cites this module.
use Rattle.qstore_accounts.specs.declared.accounts.Accounts.TheInside.{Inside}
use Rattle.qstore_accounts.specs.Books.{Books}

-- the books that the fields spell out
abbrev pub books_of : Inside → Books
books_of a = record {
  size = a.size;
  most_inodes = a.most_inodes;
  graces = a.graces;
  users = a.users;
  groups = a.groups;
  projects = a.projects;
  blocks = a.blocks;
  inodes = a.inodes;
}
