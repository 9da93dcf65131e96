-- Boards of histories, and what changes do to them.
use Rattle.std.specs.Prelude.{◌≡◌, List, length}
use mathlib.Core.List.{IsPrefix}
use Rattle.qplain.specs.declared.board.Board.{Board}
use Rattle.qplain.specs.declared.entry.Entry.{Entry}
use Rattle.qplain.specs.Boards.{with_rows}
use Rattle.qplain.specs.State.{State}
use Rattle.qplain.specs.Journal.{IsLegal, board_of, play}
use Rattle.qshare_history.specs.Histories.{Recorded}
use Rattle.qshare_history.specs.StoreIds.{Identity}
use Rattle.qshare_boards.specs.declared.board_change.BoardChange.{BoardChange}

-- the board of a history: that of the state which it leaves, under its length
abbrev pub shown_of : State → List Entry → Board
shown_of S history = board_of (play S history) (length history)

-- the board after a change: the rows with each of the change's, and its totals, under its version
abbrev pub changed_by : Board → BoardChange → Board
changed_by b c = record {
  version = c.version;
  rows = with_rows b.rows c.rows.items;
  blocks = c.blocks;
  inodes = c.inodes;
}

-- a legal history of this store
pub record IsHistoryOf (id : Identity) (prefix : Recorded) : Type 0 where
  pub history : prefix.history ≡ id.history
  pub legal : IsLegal id.begun prefix.entries

-- such a one that begins with what is published
pub record GoesOn (id : Identity) (published : List Entry) (prefix : Recorded) : Type 0 where
  pub of : IsHistoryOf id prefix
  pub begins : IsPrefix published prefix.entries

-- the change brings the board of what is published on to the board of such a one
pub record BringsOn (id : Identity) (published : List Entry) (change : BoardChange) (prefix : Recorded) : Type 0 where
  pub on : GoesOn id published prefix
  pub leads : changed_by (shown_of id.begun published) change ≡ shown_of id.begun prefix.entries
