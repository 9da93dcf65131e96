-- Where the answers to a worker's lines stand.
use Rattle.std.specs.Prelude.{ℕ, List, Result, Ok, Err}
use Rattle.qplain.specs.declared.call_fault.CallFault.{CallFault}
use Rattle.qplain.specs.declared.line.Line.{Line}
use Rattle.qrun_replay.specs.declared.failed_line.FailedLine.{FailedLine}

-- where the answers to the first lines of a worker stand, in their order, each at its place in the journal, from 1, or
-- beside its line, which is in none; and for how many more there is room
pub record Standing : Type 0 where
  pub stands : List (Result ℕ FailedLine)
  pub room : ℕ

-- where the answer to a line stands: at its place, or beside the line
abbrev pub stand_at : Line → Result ℕ CallFault → Result ℕ FailedLine
stand_at line (Ok place) = Ok place
stand_at line (Err fault) = Err (record { line = line; fault = fault })
