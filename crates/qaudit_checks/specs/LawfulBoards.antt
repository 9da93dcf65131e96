-- Boards beside a journal: whether they are its own, and the first that is not.
use Rattle.std.specs.Prelude.{◌≡◌, ℕ, ◌+◌, ◌≤◌, List, [], ◌∷◌, ◌++◌, length, take, All, Result, Ok, Err, OnOk}
use Rattle.qplain.specs.declared.board.Board.{Board}
use Rattle.qplain.specs.declared.entry.Entry.{Entry}
use Rattle.qplain.specs.declared.look_fault.LookFault.{LookFault}
use Rattle.qplain.specs.Journal.{board_of, play}
use Rattle.qplain.specs.State.{State}
use Rattle.qaudit_checks.specs.declared.board_fault.BoardFault.{BoardFault}
use Rattle.qaudit_checks.specs.declared.board_fault.BoardFault.TheVariants.{Board as AtBoard}

-- the board is that of the state which the journal's first entries leave, as many as its version
pub record IsBoardOf (S : State) (journal : List Entry) (b : Board) : Type 0 where
  pub within : b.version ≤ length journal
  pub shows : b ≡ board_of (play S (take b.version journal)) b.version

-- versions never fall, from this one on
unfoldable pub NeverFall : ℕ → List Board → Type 0
NeverFall version [] = Unit {0}
NeverFall version (b ∷ later) = (version ≤ b.version) × NeverFall b.version later

-- lawful boards of a journal: each is one of its boards, and versions never fall
pub record AreLawful (S : State) (journal : List Entry) (boards : List Board) : Type 0 where
  pub each : All (IsBoardOf S journal) boards
  pub rising : NeverFall 0 boards

-- the board after lawful ones fails: with it they are not lawful; and this is its index, from 1
pub record FailsAfter (S : State) (journal : List Entry) (before : List Board) (b : Board) (index : ℕ) : Type 0 where
  pub lawful : AreLawful S journal before
  pub fails : AreLawful S journal (before ++ b ∷ []) → ⊥
  pub index_is : index ≡ length before + 1

-- the first board that fails has this index
pub record BoardFailsAt (S : State) (journal : List Entry) (boards : List Board) (index : ℕ) : Type 0 where
  pub before : List Board
  pub board : Board
  pub after : List Board
  pub parts : boards ≡ before ++ board ∷ after
  pub here : FailsAfter S journal before board index

-- what a check of boards answers: Ok only where they are lawful, and the index of none but the first that fails; of
-- lawful boards there is no index
pub record IsVerdictOn (S : State) (journal : List Entry) (boards : List Board) (answer : Result (Unit {0}) BoardFault)
    : Type 0 where
  pub ok : OnOk answer (AreLawful S journal boards)
  pub board : (index : ℕ) → answer ≡ Err (AtBoard index) → BoardFailsAt S journal boards index
  pub lawful : AreLawful S journal boards → (index : ℕ) → answer ≡ Err (AtBoard index) → ⊥

-- the boards that looks have shown
abbrev pub boards_in : List (Result Board LookFault) → List Board
boards_in [] = []
boards_in (Ok b ∷ looks) = b ∷ boards_in looks
boards_in (Err fault ∷ looks) = boards_in looks
