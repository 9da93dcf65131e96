-- What the types of bytes, owners and limits can hold.
use Rattle.std.specs.Prelude.{ℕ, ◌<◌, ◌^◌, List, slice_index, Option, Some, None}
use Rattle.qrules.specs.declared.limits.Limits.{Limits}

-- each is a byte
abbrev pub AreBytes : List ℕ → Type 0
AreBytes xs = (i : ℕ) → slice_index xs i < 256

-- an owner that is named has an id of 32 bits
abbrev pub IsOwner : Option ℕ → Type 0
IsOwner None = Unit {0}
IsOwner (Some id) = id < 2 ^ 32

-- each limit is a number of 64 bits
pub record AreLimits (l : Limits) : Type 0 where
  pub block_soft : l.block_soft < 2 ^ 64
  pub block_hard : l.block_hard < 2 ^ 64
  pub inode_soft : l.inode_soft < 2 ^ 64
  pub inode_hard : l.inode_hard < 2 ^ 64
