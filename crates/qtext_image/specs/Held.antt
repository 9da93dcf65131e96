-- What the types of rows can hold, and what those of a setup and of a store say of a state beside its laws.
use Rattle.std.specs.Prelude.{◌<◌, ◌^◌, All}
use Rattle.std.specs.Map.{values_of}
use Rattle.qplain.specs.declared.owners.Owners.{Owners}
use Rattle.qplain.specs.Held.{IsEnd}
use Rattle.qplain.specs.Paths.{ArePathBytes}
use Rattle.qplain.specs.Ranges.{AreBytes, AreLimits, IsOwner}
use Rattle.qplain.specs.State.{Holder, State}
use Rattle.qplain_image.specs.Rows.{Row, Bounds, Grace, Record, Directory, FileHead, Block, Name}

-- ids of principals have 32 bits and bytes of files 8, as the types of code have them
pub record IsStateTyped (S : State) : Type 0 where
  pub ids : All (λ h. h.id < 2 ^ 32) S.holders
  pub bytes : All (λ inode. AreBytes inode.file.bytes) (values_of S.inodes)

-- ---- what no public clause cites

-- ids of owners
pub record AreOwners (o : Owners) : Type 0 where
  pub uid : o.uid < 2 ^ 32
  pub gid : o.gid < 2 ^ 32
  pub project : IsOwner o.project

-- the numbers and the name of a holder
pub record IsHolder (h : Holder) : Type 0 where
  pub id : h.id < 2 ^ 32
  pub name : ArePathBytes h.name
  pub limits : AreLimits h.limits
  pub block_end : IsEnd h.block_end
  pub inode_end : IsEnd h.inode_end

-- the parts of a row are what their types can hold
abbrev pub IsRow : Row → Type 0
IsRow (Bounds size most next) = (size < 2 ^ 64) × (most < 2 ^ 64) × (next < 2 ^ 64)
IsRow (Grace g) = (g.block < 2 ^ 64) × (g.inode < 2 ^ 64)
IsRow (Record h blocks inodes) = IsHolder h × (blocks < 2 ^ 64) × (inodes < 2 ^ 64)
IsRow (Directory number owners) = (number < 2 ^ 64) × AreOwners owners
IsRow (FileHead number owners size) = (number < 2 ^ 64) × AreOwners owners × (size < 2 ^ 64)
IsRow (Block b) = (b.0 < 2 ^ 64) × AreBytes b.1
IsRow (Name key number) = (key.0 < 2 ^ 64) × ArePathBytes key.1 × (number < 2 ^ 64)
