-- How a `Data` keeps its bytes. No public clause cites this module.
use Rattle.std.specs.Prelude.{ℕ, List, replicate}
use Rattle.qblocks.specs.declared.data.Kept.{Kept}
use Rattle.qblocks.specs.declared.data.Kept.TheVariants.{Bytes, Fill}

-- the bytes that are kept
abbrev pub bytes_in : Kept → List ℕ
bytes_in (Bytes bytes) = bytes
bytes_in (Fill count byte) = replicate count byte
