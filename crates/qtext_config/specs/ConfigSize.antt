-- Sizes as a configuration writes them.
use Rattle.std.specs.Prelude.{◌==◌, ◌&&◌, not, nat_le, ℕ, ◌*◌, ◌^◌, Bool, false, if◌then◌else◌, List, [], ◌∷◌, length}
use Rattle.std.specs.Prelude.{take, drop, Option, Some, None, option_map}
use Rattle.std.specs.List.{prefix_len}
use Rattle.std.specs.Int.{div_ceil}
use Rattle.std.specs.Char.{is_ascii_digit}
use Rattle.std.specs.Str.Parse.{digits_value}

-- how many bytes the letter after a number stands for: none, k, m or g
abbrev pub unit_of : List ℕ → Option ℕ
unit_of [] = Some 1
unit_of (letter ∷ []) =
    if letter == 0x6b then Some (2 ^ 10) else if letter == 0x6d then Some (2 ^ 20)
    else if letter == 0x67 then Some (2 ^ 30) else None
unit_of (letter ∷ other ∷ others) = None

-- 1 to 10 digits, the first not 0
abbrev pub is_number_of_size : List ℕ → Bool
is_number_of_size [] = false
is_number_of_size (first ∷ others) = not (first == 0x30) && nat_le (length others) 9

-- the whole blocks of 4096 bytes that hold so many of the unit
abbrev pub blocks_in : List ℕ → ℕ → ℕ
blocks_in digits unit = div_ceil (digits_value 10 digits * unit) 4096

-- the blocks that these digits and the letter after them ask for
abbrev pub blocks_of : List ℕ → List ℕ → Option ℕ
blocks_of digits letter = if is_number_of_size digits then option_map (blocks_in digits) (unit_of letter) else None

-- the blocks that a size asks for, by the digits that it begins with and what comes after them
abbrev pub blocks_of_size : List ℕ → Option ℕ
blocks_of_size text =
    let count = prefix_len is_ascii_digit text in blocks_of (take count text) (drop count text)
