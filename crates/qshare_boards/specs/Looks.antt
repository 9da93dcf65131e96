-- What a look leaves seen, and what it may be answered.
use Rattle.std.specs.Prelude.{◌≡◌, ℕ, List, None, Result, Ok, Err}
use mathlib.Core.List.{IsPrefix}
use Rattle.qrules.specs.declared.board_row.BoardRow.{BoardRow}
use Rattle.qrules.specs.declared.kind.Kind.{Kind}
use Rattle.qplain.specs.declared.board.Board.{Board}
use Rattle.qplain.specs.declared.entry.Entry.{Entry}
use Rattle.qplain.specs.declared.look_fault.LookFault.{LookFault}
use Rattle.qplain.specs.declared.look_fault.LookFault.TheVariants.{NoBoard, ESRCH, OutOfMemory}
use Rattle.qplain.specs.State.{State}
use Rattle.qshare_history.specs.Histories.{Recorded}
use Rattle.qshare_history.specs.StoreIds.{Identity}
use Rattle.qshare_boards.specs.Boards.{IsHistoryOf, shown_of}
use Rattle.qshare_boards.specs.Whole.{IsRecordOf, row_in}

-- after a look a legal history of the store was seen that begins with all that had been seen, and the same as before
-- where no board was handed out
pub record IsLook {T : Type 0} (id : Identity) (since seen : Recorded) (shown : Result T LookFault) : Type 0 where
  pub of : IsHistoryOf id seen
  pub begins : IsPrefix since.entries seen.entries
  pub nothing : shown ≡ Err NoBoard → seen ≡ since

-- the board of this history, or none was handed out, or memory was wanting
abbrev pub IsBoardAnswer : State → List Entry → Result Board LookFault → Type 0
IsBoardAnswer S history (Ok b) = b ≡ shown_of S history
IsBoardAnswer S history (Err NoBoard) = Unit {0}
IsBoardAnswer S history (Err ESRCH) = ⊥
IsBoardAnswer S history (Err OutOfMemory) = Unit {0}

-- the row of this principal on the board of this history, with its version; or no board was handed out, or there is
-- no such row
abbrev pub IsRecordAnswer : State → List Entry → Kind → ℕ → Result (ℕ × BoardRow) LookFault → Type 0
IsRecordAnswer S history kind id (Ok record_shown) = IsRecordOf S history kind id record_shown
IsRecordAnswer S history kind id (Err NoBoard) = Unit {0}
IsRecordAnswer S history kind id (Err ESRCH) = row_in (shown_of S history) kind id ≡ None
IsRecordAnswer S history kind id (Err OutOfMemory) = ⊥
