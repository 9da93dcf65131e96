-- Bytes as hexadecimal digits.
use Rattle.std.specs.Prelude.{ℕ, ◌==◌, List, [], length, codes, Result, Ok, Err, if◌then◌else◌, slice_index}
use Rattle.std.specs.Str.{bytes_eq}
use Rattle.hex.specs.Hex.{decode_of}
use Rattle.hex.specs.declared.error.FromHexError.{FromHexError}
use Rattle.qtext.specs.declared.text_fault.TextKind.{TextKind}
use Rattle.qtext.specs.declared.text_fault.TextKind.TheVariants.{BadHex}
use Rattle.qtext.specs.Reading.{◌>>=◌}

-- what was decoded, or the one fault for all that hexadecimal digits may have
abbrev pub hex_or_fault : Result (List ℕ) FromHexError → Result (List ℕ) TextKind
hex_or_fault (Ok bytes) = Ok bytes
hex_or_fault (Err e) = Err BadHex

-- a dash for no bytes, else two digits a byte, in either case
unfoldable pub data_of : List ℕ → Result (List ℕ) TextKind
data_of word =
    if bytes_eq word (codes "-") then Ok []
    else if length word == 0 then Err BadHex
    else hex_or_fault (decode_of word)

-- one byte in two digits
unfoldable pub byte_of : List ℕ → Result ℕ TextKind
byte_of word = if length word == 2 then (do
  bytes ← hex_or_fault (decode_of word)
  Ok (slice_index bytes 0)) else Err BadHex
