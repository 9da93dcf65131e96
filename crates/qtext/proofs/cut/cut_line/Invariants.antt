use Rattle.std.proofs.Common.{◌+◌, ◌-◌, length, map}
use Rattle.qtext.proofs.CutLines.{FoundUpTo}
use Rattle.qtext.proofs.cut.cut_line.Given as goal

abbrev pub invariant-loop-start : goal.invariant-loop-start
invariant-loop-start l = FoundUpTo l.text l.start (map (λ word. word.now) l.room.items)

abbrev pub decreases-loop-start : goal.decreases-loop-start
decreases-loop-start l = length l.text + 1 - l.start
