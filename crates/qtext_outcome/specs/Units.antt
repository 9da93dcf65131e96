-- Amounts in larger units (repquota(8), `-s`).
use Rattle.std.specs.Prelude.{ℕ, ◌+◌, ◌-◌, ◌*◌, ◌/◌, ◌^◌, nat_le, List, ◌++◌, codes, decimal, if◌then◌else◌}

-- how many units of this size an amount has, rounded up
abbrev pub units_in : ℕ → ℕ → ℕ
units_in size amount = (amount + size - 1) / size

-- KiB in the greatest of the units TiB, GiB and MiB of which there are at least 100, and else in KiB
abbrev pub space_text : ℕ → List ℕ
space_text kib = if nat_le (100 * 2 ^ 30) kib then decimal (units_in (2 ^ 30) kib) ++ codes "T"
    else if nat_le (100 * 2 ^ 20) kib then decimal (units_in (2 ^ 20) kib) ++ codes "G"
    else if nat_le (100 * 2 ^ 10) kib then decimal (units_in (2 ^ 10) kib) ++ codes "M"
    else decimal kib ++ codes "K"

-- a number in the greatest of the units 10^12, 10^9, 10^6 and 10^3 of which there are at least 100, and else as it is
abbrev pub count_text : ℕ → List ℕ
count_text n = if nat_le (100 * 10 ^ 12) n then decimal (units_in (10 ^ 12) n) ++ codes "t"
    else if nat_le (100 * 10 ^ 9) n then decimal (units_in (10 ^ 9) n) ++ codes "g"
    else if nat_le (100 * 10 ^ 6) n then decimal (units_in (10 ^ 6) n) ++ codes "m"
    else if nat_le (100 * 10 ^ 3) n then decimal (units_in (10 ^ 3) n) ++ codes "k"
    else decimal n
