use Rattle.std.proofs.Common.{◌≡◌, ◌≤◌, ◌-◌, drop, length}
use Rattle.std.specs.List.{list_all}
use Rattle.qtext_image_read.specs.Digits.{is_lower_digit}
use Rattle.qtext_image_read.proofs.digits.are_digits.Given as goal

-- all so far are digits
abbrev pub invariant-loop-at : goal.invariant-loop-at
invariant-loop-at l = (l.at ≤ length l.word)
    × (list_all is_lower_digit (drop l.at l.word) ≡ list_all is_lower_digit l.word)

abbrev pub decreases-loop-at : goal.decreases-loop-at
decreases-loop-at l = length l.word - l.at
