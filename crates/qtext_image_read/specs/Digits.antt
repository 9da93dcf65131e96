-- Data that are borrowed as digits.
use Rattle.std.specs.Prelude.{◌≡◌, ℕ, ◌%◌, ◌==◌, Bool, not, ◌&&◌, ◌||◌, nat_le, List, [], length, Result, Ok, Err}
use Rattle.std.specs.List.{list_all}
use Rattle.std.specs.Borrow.{Bor}
use Rattle.hex.specs.Hex.{decode_of}
use Rattle.hex.specs.declared.error.FromHexError.{FromHexError}
use Rattle.qtext.specs.declared.read_fault.ReadFault.{ReadFault}
use Rattle.qtext.specs.declared.text_fault.TextKind.{TextKind}
use Rattle.qtext.specs.Gives.{Fails}

-- a digit, or a letter from a to f
abbrev pub is_lower_digit : ℕ → Bool
is_lower_digit byte = nat_le 48 byte && nat_le byte 57 || nat_le 97 byte && nat_le byte 102

-- the digits of one byte or more, two a byte
abbrev pub are_pairs : List ℕ → Bool
are_pairs word = not (length word == 0) && (length word % 2 == 0 && list_all is_lower_digit word)

-- what was decoded, and no bytes where that failed
abbrev pub bytes_or_none : Result (List ℕ) FromHexError → List ℕ
bytes_or_none (Ok bytes) = bytes
bytes_or_none (Err fault) = []

-- the bytes of digits, two a byte
abbrev pub bytes_of : List ℕ → List ℕ
bytes_of digits = bytes_or_none (decode_of digits)

-- the bytes of the digits are those that reading gives, unless memory ran out
abbrev pub GivesDigits : Result (Bor (List ℕ)) ReadFault → Result (List ℕ) TextKind → Type 0
GivesDigits (Ok digits) read = read ≡ Ok (bytes_of digits.now)
GivesDigits (Err fault) read = Fails fault read
