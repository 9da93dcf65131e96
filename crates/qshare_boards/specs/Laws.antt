-- What holds of every board that is shown.
use Rattle.std.specs.Prelude.{List}
use Rattle.qplain.specs.declared.entry.Entry.{Entry}
use Rattle.qplain.specs.Setups.{Setting}
use Rattle.qplain.specs.State.{State}
use Rattle.qplain_laws.specs.Beginnings.{IsStateOf}
use Rattle.qshare_boards.specs.Boards.{shown_of}
use Rattle.qshare_boards.specs.Whole.{IsWhole}

-- the board of whatever is played from a state that a store of the setup can be in is whole
abbrev pub BoardsAreWhole : Type 0
BoardsAreWhole = (s : Setting) (S : State) (history : List Entry) → IsStateOf s S → IsWhole s (shown_of S history)
