use Rattle.std.proofs.Common.{◌≡◌, ◌≤◌, ◌*◌, ◌-◌, length, take}
use Rattle.qtext.specs.Digits.{Decodes}
use Rattle.qtext.proofs.hex_bytes.decode_whole.Given as goal

-- the first digits are read
abbrev pub invariant-loop-at : goal.invariant-loop-at
invariant-loop-at l = (l.at ≤ length l.out) × (length l.word ≡ 2 * length l.out) × (length l.out ≡ length l.fn.out)
    × Decodes l.word (take l.at l.out) l.at

abbrev pub decreases-loop-at : goal.decreases-loop-at
decreases-loop-at l = length l.word - l.at
