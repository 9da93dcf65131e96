-- A script as a client.
use Rattle.std.specs.Prelude.{◌≡◌, ℕ, Bool, true, false, List, slice_get, Option, None, Result}
use Rattle.qplain.specs.declared.line.Line.{Line}
use Rattle.qrun_client.specs.Clients.{Talk}
use Rattle.qrun_replay.specs.declared.failed_line.FailedLine.{FailedLine}

-- the lines of a script whose answers are still to come, whether the first of them is handed out, and where the answers
-- to those before stand
pub record Playing : Type 0 where
  pub lines : List Line
  pub is_owed : Bool
  pub stands : List (Result ℕ FailedLine)

-- the line that is handed out: the first, or none
abbrev pub owed_of : Bool → List Line → Option Line
owed_of true lines = slice_get lines 0
owed_of false lines = None

-- just these lines are still to come
abbrev pub has_still : List Line → Talk (Unit {0})
has_still rest lines answers left = lines ≡ rest
