-- What a monitor is shown, and what comes of it.
use Rattle.std.specs.Prelude.{◌≡◌, ◌≢◌, ◌<◌, ◌⊎◌, ℕ, List, [], ◌∷◌, ◌++◌, All, Option, None, Some, ⊤}
use Rattle.qplain.specs.declared.board.Board.{Board}
use Rattle.qplain.specs.declared.entry.Entry.{Entry}
use Rattle.qplain.specs.State.{State}
use Rattle.qaudit_checks.specs.LawfulBoards.{AreLawful}
use Rattle.qshare.specs.Seats.{Seated}
use Rattle.qshare_boards.specs.Boards.{shown_of}

-- what may come of a monitor: the boards that it is shown from now on, and what is left of it
abbrev pub Sight : Type 0 → Type 1
Sight Left = List Board → Left → Type 0

-- it was shown these boards: what comes of it then is what comes of it as it was before, with these first
abbrev pub HasSeen : {Left : Type 0} → List Board → Sight Left → Sight Left → Type 0
HasSeen {Left} first old new = (boards : List Board) (left : Left) → new boards left → old (first ++ boards) left

-- versions rise: that of each board is below those of all later ones
unfoldable pub Rise : List Board → Type 0
Rise [] = ⊤
Rise (b ∷ later) = All (λ l. b.version < l.version) later × Rise later

-- the boards that were shown are this journal's own, and their versions rise; and this is left of who has seen them
pub record IsShown {Left : Type 0} (S : State) (journal : List Entry) (sees : Sight Left) (left : Left) : Type 0 where
  pub boards : List Board
  pub lawful : AreLawful S journal boards
  pub rising : Rise boards
  pub seen : sees boards left

-- so it is with the monitor of a service, where it has one
abbrev pub IsShownTo : {M Left : Type 0} → (M → Sight Left) → State → List Entry → Option M → Option Left → Type 0
IsShownTo sees S journal None left = left ≡ None
IsShownTo sees S journal (Some monitor) None = ⊥
IsShownTo sees S journal (Some monitor) (Some left) = IsShown S journal (sees monitor) left

-- ---- what no public clause cites

-- who shows boards: a seat that looks at them, and the monitor
pub record Observing (M : Type 0) : Type 0 where
  pub seat : Seated
  pub monitor : M

-- the board of this history was shown, under another version than the last
pub record ShowsOne {Left : Type 0} (S : State) (history : List Entry) (last next : Option ℕ) (old new : Sight Left)
    : Type 0 where
  pub board : Board
  pub board_is : board ≡ shown_of S history
  pub another : last ≢ Some board.version
  pub next_is : next ≡ Some board.version
  pub seen : HasSeen (board ∷ []) old new

-- nothing was shown
pub record ShowsNone {Left : Type 0} (last next : Option ℕ) (old new : Sight Left) : Type 0 where
  pub next_is : next ≡ last
  pub seen : HasSeen [] old new

-- one board was shown, or none
abbrev pub ShowsNext : {Left : Type 0} → State → List Entry → Option ℕ → Option ℕ → Sight Left → Sight Left → Type 0
ShowsNext S history last next old new = ShowsOne S history last next old new ⊎ ShowsNone last next old new
