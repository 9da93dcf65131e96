use Rattle.std.proofs.Common.{◌≡◌, ◌≤◌, ◌<◌, ◌+◌, ◌^◌, ℕ, length}
use Rattle.qtext.specs.Words.{parts}
use Rattle.qtext_files.specs.RawLines.{raw_lines_from}
use Rattle.qstore_open.specs.ReadTo.{IsReadTo}
use Rattle.qstore_open.specs.Told.{nothing_told}
use Rattle.qstore_open.proofs.lines.take_lines.Given as goal

-- what was read of the lines so far; they are no more than the text has bytes
abbrev pub invariant-loop-rest : goal.invariant-loop-rest
invariant-loop-rest l = record {
  count : l.line + length l.rest ≤ 2 + length l.fn.text;
  read : (limit : ℕ) → limit < 2 ^ 64 → l.fn.opening ≡ nothing_told limit
      → IsReadTo limit (raw_lines_from 2 (parts 10 l.fn.text)) l.line (raw_lines_from l.line (parts 10 l.rest)) l.opening;
}

abbrev pub decreases-loop-rest : goal.decreases-loop-rest
decreases-loop-rest l = length l.rest
