-- The rows of calls that wait to be published. No public clause cites this module.
use Rattle.std.specs.Prelude.{◌≡◌, List, length}
use Rattle.qrules.specs.declared.board_row.BoardRow.{BoardRow}
use Rattle.qplain.specs.declared.placed_row.PlacedRow.{PlacedRow}
use Rattle.qplain.specs.declared.entry.Entry.{Entry}
use Rattle.qplain.specs.Boards.{rows_of, with_rows}
use Rattle.qplain.specs.State.{State}
use Rattle.qshare_boards.specs.Boards.{shown_of}

-- from whatever rows the first list leads to those of the state before, the other leads to those of the state after
pub record LeadsOn (waiting : List PlacedRow) (before : State) (with_call : List PlacedRow) (after : State)
    : Type 0 where
  pub leads : (rows : List BoardRow) → with_rows rows waiting ≡ rows_of before
      → with_rows rows with_call ≡ rows_of after

-- the board of the first history is published, and the rows that wait lead from its rows to those of the journal's
pub record Waits (begun : State) (shown : List Entry) (waiting : List PlacedRow) (published journal : List Entry)
    : Type 0 where
  pub shown_is : shown ≡ published
  pub leads : with_rows (shown_of begun published).rows waiting ≡ (shown_of begun journal).rows

-- these rows lead to the given ones from any others of which there are as many
abbrev pub Replaces : List PlacedRow → List BoardRow → Type 0
Replaces placed rows = (others : List BoardRow) → length others ≡ length rows → with_rows others placed ≡ rows
