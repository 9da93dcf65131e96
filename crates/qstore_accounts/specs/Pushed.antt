-- The rows that a call changes on a board, in a list.
use Rattle.std.specs.Prelude.{◌≡◌, List, ◌++◌}
use Rattle.qplain.specs.declared.placed_row.PlacedRow.{PlacedRow}
use Rattle.qplain.specs.Boards.{AreChangedRows}
use Rattle.qplain.specs.State.{State}

-- what stands after the first rows are those that a step from one state to the other changes on a board
pub record IsPushed (old : State) (rows longer : List PlacedRow) (new : State) : Type 0 where
  pub placed : List PlacedRow
  pub behind : longer ≡ rows ++ placed
  pub are : AreChangedRows old placed new
