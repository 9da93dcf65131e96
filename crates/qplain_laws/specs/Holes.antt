-- What a file has where none of its blocks is.
use Rattle.std.specs.Prelude.{◌≡◌, ℕ, ◌/◌, false}
use Rattle.qblocks.specs.declared.block.TheConstants.{BLOCK_SIZE}
use Rattle.qblocks.specs.File.{File, is_allocated}
use Rattle.qplain_laws.specs.Bytes.{byte_at}

-- a byte of no block is 0
abbrev pub HolesAreEmpty : File → Type 0
HolesAreEmpty file = (offset : ℕ) → is_allocated file (offset / BLOCK_SIZE) ≡ false → byte_at file offset ≡ 0
