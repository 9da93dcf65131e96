-- What a call does to a board, told by the rows that it changes (profile).
use Rattle.std.specs.Prelude.{◌≡◌, ◌≢◌, ◌≤◌, List, length, map, fold, slice_set, All, Some}
use Rattle.std.specs.List.{slice_get}
use Rattle.qrules.specs.declared.board_row.BoardRow.{BoardRow}
use Rattle.qplain.specs.declared.placed_row.PlacedRow.{PlacedRow}
use Rattle.qplain.specs.declared.placed_row.TheConstants.{MAX_CHANGED_ROWS}
use Rattle.qplain.specs.State.{State}
use Rattle.qplain.specs.Journal.{row_of}

-- the rows of a state's board
abbrev pub rows_of : State → List BoardRow
rows_of S = map (row_of S) S.holders

-- the rows with one more in its place
abbrev pub with_row : List BoardRow → PlacedRow → List BoardRow
with_row rows p = slice_set rows p.place p.row

-- the rows with each of these in its place, one after the other
abbrev pub with_rows : List BoardRow → List PlacedRow → List BoardRow
with_rows rows placed = fold with_row rows placed

-- another row stands in the place of this one
abbrev pub IsOther : List BoardRow → PlacedRow → Type 0
IsOther rows p = slice_get rows p.place ≢ Some p.row

-- these rows lead from the board of one state to that of the other, and there are no more of them than change
pub record AreChangedRows (old : State) (placed : List PlacedRow) (new : State) : Type 0 where
  pub leads : with_rows (rows_of old) placed ≡ rows_of new
  pub few : length placed ≤ MAX_CHANGED_ROWS
  pub others : All (IsOther (rows_of old)) placed
