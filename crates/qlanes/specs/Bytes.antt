-- Which bytes go on.
use Rattle.std.specs.Prelude.{ℕ, Bool, ◌&&◌, nat_le}

-- a byte that prints and is no space
abbrev pub is_printing : ℕ → Bool
is_printing byte = nat_le 0x21 byte && nat_le byte 0x7e
