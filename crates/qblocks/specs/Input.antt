-- What a write brings.
--     input_bytes input    its bytes
use Rattle.std.specs.Prelude.{ℕ, List, replicate}
use Rattle.qblocks.specs.declared.input.Input.{Input}
use Rattle.qblocks.specs.declared.input.Input.TheVariants.{Bytes, Fill}

-- the bytes that the input stands for
abbrev pub input_bytes : Input → List ℕ
input_bytes (Bytes bytes) = bytes.now
input_bytes (Fill count byte) = replicate count byte
