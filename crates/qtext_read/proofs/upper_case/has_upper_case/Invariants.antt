use Rattle.std.proofs.Common.{◌≡◌, ◌≤◌, ◌-◌, drop, length}
use Rattle.std.specs.Char.{is_ascii_uppercase}
use Rattle.std.specs.List.{list_any}
use Rattle.qtext_read.proofs.upper_case.has_upper_case.Given as goal

-- no letter so far is
abbrev pub invariant-loop-at : goal.invariant-loop-at
invariant-loop-at l = (l.at ≤ length l.digits)
    × (list_any is_ascii_uppercase (drop l.at l.digits) ≡ list_any is_ascii_uppercase l.digits)

abbrev pub decreases-loop-at : goal.decreases-loop-at
decreases-loop-at l = length l.digits - l.at
