use Rattle.std.proofs.Common.{◌≡◌, ◌≤◌, ◌-◌, ℕ, List, length, drop}
use Rattle.qplain.specs.declared.line.Line.{Line}
use Rattle.qplain.specs.Transcripts.{journaled_lines}
use Rattle.qaudit_checks.proofs.answers.next_receipt.Given as goal

abbrev pub invariant-loop-at : goal.invariant-loop-at
invariant-loop-at l = (l.at ≤ length l.answers)
    × ((worker : ℕ) (lines : List Line) → length l.answers ≡ length lines
    → journaled_lines worker (drop l.from lines) (drop l.from l.answers) ≡ journaled_lines worker (drop l.at lines) (drop l.at l.answers))

abbrev pub decreases-loop-at : goal.decreases-loop-at
decreases-loop-at l = length l.answers - l.at
