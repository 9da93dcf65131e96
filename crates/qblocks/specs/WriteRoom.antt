-- What a caller sees of the room in a file: the one write that has its rows made beforehand.
--     WriteRoom, no_room          the write's offset and length;  where there is no room
--     RoomyFile                a file and its room, which "as before" does not speak of
--     IsReadyToPut f off n blocks   that write needs no memory where N blocks are at hand
--     IsThereToPut f off n blocks   the file is there, and is so
use Rattle.std.specs.Prelude.{◌≡◌, ℕ, Option, true, is_some, IfSome}
use Rattle.qblocks.specs.File.{File, Adds}

-- the offset and the length of the write that there is room for
pub record WriteRoom : Type 0 where
  pub off : ℕ
  pub len : ℕ

-- there is room for no write
abbrev pub no_room : WriteRoom
no_room = record { off = 0; len = 0 }

-- a file, and the room in it
pub record RoomyFile : Type 0 where
  pub file : File
  pub room : WriteRoom

-- there is room for a write of n bytes at the offset, and as many blocks as it allocates
pub record IsReadyToPut (f : RoomyFile) (off n spare : ℕ) : Type 0 where
  pub room : f.room ≡ record { off = off; len = n }
  pub blocks : Adds f.file off n spare

-- there is a file, and in it room for that write
pub record IsThereToPut (file : Option RoomyFile) (off n spare : ℕ) : Type 0 where
  pub there : is_some file ≡ true
  pub ready : IfSome file (λ f. IsReadyToPut f off n spare)
