-- The bytes of a file after a write and after a truncation, and those that a read gives.
use Rattle.std.proofs.Common.{[], ◌∷◌, drop, refl, ◌∙◌, arith}
use Rattle.std.proofs.lemmas.List.{get_or-drop, get_or-take}
use Rattle.qblocks.specs.File.{after_truncate, after_write}
use Rattle.qblocks.proofs.Bytes.{get_or-resized, get_or-written, length-resized}
use Rattle.qplain_laws.specs.Bytes.{BytesAreCut, BytesAreRead, BytesAreWritten}

pub bytes_are_written : BytesAreWritten
unfolding after_write
bytes_are_written file off [] = record { inside = λ i l. absurd (omega (arith, l)); before = λ o l. refl; behind = λ o l. refl }
bytes_are_written file off (byte ∷ rest) = get_or-written file.bytes off (byte ∷ rest)

pub bytes_are_cut : BytesAreCut
unfolding after_truncate
bytes_are_cut file size = (length-resized file.bytes size, (λ o l. get_or-resized file.bytes size o l))

pub bytes_are_read : BytesAreRead
bytes_are_read file off len i l = get_or-take len (drop off file.bytes) i 0 l ∙ get_or-drop off file.bytes i 0
