-- What is published. No public clause cites this module.
use Rattle.std.specs.Prelude.{◌≡◌, List, [], fold}
use Rattle.qshare_history.specs.Histories.{Recorded}
use Rattle.qplain.specs.declared.board.Board.{Board}
use Rattle.qplain.specs.declared.entry.Entry.{Entry}
use Rattle.qplain.specs.State.{State}
use Rattle.qshare_history.specs.StoreIds.{Identity}
use Rattle.qshare_boards.specs.declared.board_change.BoardChange.{BoardChange}
use Rattle.qshare_boards.specs.declared.sheet.Batch.{Batch}
use Rattle.qshare_boards.specs.declared.sheet.Sealed.{Sealed}
use Rattle.qshare_boards.specs.declared.sheet.Sheet.{Sheet}
use Rattle.qshare_boards.specs.Boards.{GoesOn, changed_by, shown_of}

-- the board on a sheet
abbrev pub board_in : Sheet → Board
board_in s = record { version = s.version; rows = s.rows.items; blocks = s.blocks; inodes = s.inodes }

-- the board on a sheet, with its history
abbrev pub sealed_in : Sheet → Sealed
sealed_in s = record { board = board_in s; prefix = s.prefix }

-- a board that took in a change, and the history that the change brings
abbrev pub after_change : Sealed → BoardChange → Recorded → Sealed
after_change s c prefix = record { board = changed_by s.board c; prefix = prefix }

-- a board that took in what one publication brings
abbrev pub taken_in : Sealed → Batch → Sealed
taken_in s b = after_change s b.change b.prefix

-- a history with its board
abbrev pub board_and : State → Recorded → Sealed
board_and S prefix = record { board = shown_of S prefix.entries; prefix = prefix }

-- nothing waits to be published, what is published is the board of a history of this store, and who publishes has seen
-- that
pub record IsPublished (id : Identity) (sheet : Sheet) (seen : List Entry) (waits : List Batch) : Type 0 where
  pub none : waits ≡ []
  pub history : sheet.prefix.history ≡ id.history
  pub seen_is : seen ≡ sheet.prefix.entries
  pub shown : board_in sheet ≡ shown_of id.begun sheet.prefix.entries

-- a legal history of this store goes on with what is published, and what waits leads to its board
pub record LeadsTo (id : Identity) (sheet : Sheet) (waits : List Batch) (prefix : Recorded) : Type 0 where
  pub on : GoesOn id sheet.prefix.entries prefix
  pub leads : fold taken_in (sealed_in sheet) waits ≡ board_and id.begun prefix
