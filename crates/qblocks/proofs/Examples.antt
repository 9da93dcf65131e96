-- Worked examples, counted by hand: the definitions of a file's changes compute.
use Rattle.std.proofs.Common.{◌≡◌, [], ◌∷◌, refl}
use Rattle.qblocks.specs.File.{File, empty_file, after_write, after_truncate, read_at, written, resized, with_touched, with_index}

-- a byte at the start takes one block
one_byte : after_write empty_file 0 (0x78 ∷ []) ≡ record { bytes = 0x78 ∷ []; allocated = 0 ∷ [] }
unfolding after_write written resized with_touched with_index
one_byte = refl

-- two bytes on a boundary take two blocks
two_bytes : (after_write empty_file 4095 (0x78 ∷ 0x78 ∷ [])).allocated ≡ 0 ∷ 1 ∷ []
unfolding after_write with_touched with_index
two_bytes = refl

-- a block after a hole
hole : after_write empty_file 4096 (0xff ∷ []) ≡ record { bytes = written [] 4096 (0xff ∷ []); allocated = 1 ∷ [] }
unfolding after_write with_touched with_index
hole = refl

-- a cut to 1 byte and back to 3 forgets the last two
forgets : (f : File) → f ≡ after_write empty_file 0 (0x61 ∷ 0x62 ∷ 0x63 ∷ [])
    → read_at (after_truncate (after_truncate f 1) 3) 0 9 ≡ 0x61 ∷ 0 ∷ 0 ∷ []
unfolding after_write after_truncate written resized
forgets f e = rw e refl
