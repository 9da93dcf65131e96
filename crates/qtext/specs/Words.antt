-- How a text comes apart, and the numbers that its words spell.
use Rattle.std.specs.Prelude.{◌≡◌, ℕ, ◌-◌, ◌^◌, ◌==◌, ◌&&◌, Bool, true, false, List, [], length, slice_index, Option}
use Rattle.std.specs.Prelude.{Some, None, Result, Ok, Err, nat_le, if◌then◌else◌}
use Rattle.std.specs.List.{slice_split, list_all}
use Rattle.std.specs.Char.{is_ascii_digit}
use Rattle.std.specs.Str.Parse.{digits_value}
use Rattle.qtext.specs.declared.text_fault.TextKind.{TextKind}
use Rattle.qtext.specs.declared.text_fault.TextKind.TheVariants.{BadNumber}

-- the parts of a text between separators: one more than there are separators, some of them empty
abbrev pub parts : ℕ → List ℕ → List (List ℕ)
parts separator text = slice_split (λ byte. byte == separator) text

-- the parts after a separator, where there is one
abbrev pub parts_after : ℕ → Option (List ℕ) → List (List ℕ)
parts_after separator None = []
parts_after separator (Some text) = parts separator text

-- the words of a line, with exactly one space between two of them
abbrev pub words : List ℕ → List (List ℕ)
words line = parts 0x20 line

-- a space, or a byte that prints
abbrev pub is_text_byte : ℕ → Bool
is_text_byte byte = nat_le 0x20 byte && nat_le byte 0x7e

-- a byte that prints
abbrev pub is_word_byte : ℕ → Bool
is_word_byte byte = nat_le 0x21 byte && nat_le byte 0x7e

-- decimal digits alone
abbrev pub AreDigits : List ℕ → Type 0
AreDigits word = list_all is_ascii_digit word ≡ true

-- the digit 0, or decimal digits of which the first is not 0
abbrev pub is_numeral : List ℕ → Bool
is_numeral word =
    if length word == 0 then false
    else if slice_index word 0 == 48 then length word == 1
    else list_all is_ascii_digit word

-- the number that a word spells, where it is a numeral
unfoldable pub numeral : List ℕ → Option ℕ
numeral word = if is_numeral word then Some (digits_value 10 word) else None

-- a number that is there and is no more than the most, or else the fault
abbrev pub at_most : TextKind → ℕ → Option ℕ → Result ℕ TextKind
at_most fault most None = Err fault
at_most fault most (Some n) = if nat_le n most then Ok n else Err fault

-- the number that a word spells, at most so much, or else the fault
abbrev pub number_of : TextKind → ℕ → List ℕ → Result ℕ TextKind
number_of fault most word = at_most fault most (numeral word)

-- a number of 64 bits
abbrev pub number : List ℕ → Result ℕ TextKind
number word = number_of BadNumber (2 ^ 64 - 1) word

-- the id of a user, a group or a project, of 32 bits, or else the fault
abbrev pub id_of : TextKind → List ℕ → Result ℕ TextKind
id_of fault word = number_of fault (2 ^ 32 - 1) word
