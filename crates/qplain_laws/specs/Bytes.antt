-- What a write and a truncation make of a file's bytes, and what a read gives of them, byte by byte.
use Rattle.std.specs.Prelude.{◌≡◌, ◌<◌, ◌+◌, ℕ, List, get_or}
use Rattle.qblocks.specs.File.{File, after_truncate, after_write, read_at, size_of}
use Rattle.qblocks.specs.Row.{Overwrites}

-- the byte at this offset, and 0 where there is none
abbrev pub byte_at : File → ℕ → ℕ
byte_at file offset = get_or file.bytes offset 0

-- what was written stands from the offset on, and every other byte is as it was
abbrev pub BytesAreWritten : Type 0
BytesAreWritten = (file : File) (off : ℕ) (bytes : List ℕ)
    → Overwrites (byte_at file) (byte_at (after_write file off bytes)) off bytes

-- a truncated file has the size that was named; below it every byte is as it was, or 0
abbrev pub BytesAreCut : Type 0
BytesAreCut = (file : File) (size : ℕ)
    → (size_of (after_truncate file size) ≡ size)
    × ((offset : ℕ) → offset < size → byte_at (after_truncate file size) offset ≡ byte_at file offset)

-- a read gives the bytes from the offset on
abbrev pub BytesAreRead : Type 0
BytesAreRead = (file : File) (off len i : ℕ) → i < len → get_or (read_at file off len) i 0 ≡ byte_at file (off + i)
