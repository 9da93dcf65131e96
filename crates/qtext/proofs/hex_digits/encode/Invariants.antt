use Rattle.std.proofs.Common.{◌≡◌, ◌≤◌, ◌*◌, ◌-◌, ◌++◌, drop, length, take}
use Rattle.hex.specs.Hex.{encode_lower}
use Rattle.qtext.proofs.hex_digits.encode.Given as goal

-- the digits of the first bytes stand
abbrev pub invariant-loop-at : goal.invariant-loop-at
invariant-loop-at l = (l.at ≤ length l.bytes) × (length l.out ≡ 2 * length l.bytes)
    × (take (2 * l.at) l.out ++ encode_lower (drop l.at l.bytes) ≡ encode_lower l.bytes)

abbrev pub decreases-loop-at : goal.decreases-loop-at
decreases-loop-at l = length l.bytes - l.at
