-- Where a directory stands in a state.
use Rattle.std.proofs.Common.{◌≡◌, true, Option, Some, None, refl}
use Rattle.qplain.specs.State.{Inode, is_dir}

-- where a directory stands an inode does, which is one
pub record IsThere (o : Option Inode) : Type 0 where
  pub inode : Inode
  pub there : o ≡ Some inode
  pub directory : inode.dir ≡ true

-- it is known from the inode
pub directory-there : (o : Option Inode) → is_dir o ≡ true → IsThere o
directory-there None stands = cc
directory-there (Some inode) stands = record { inode = inode; there = refl; directory = stands }
