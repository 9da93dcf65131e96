-- What was seen of a list of boards by a store that goes along the journal. No public clause cites this module.
use Rattle.std.specs.Prelude.{◌≡◌, ℕ, ◌≤◌, Bool, true, false, List, [], ◌∷◌, ◌++◌, length, take}
use Rattle.qplain.specs.declared.board.Board.{Board}
use Rattle.qplain.specs.declared.entry.Entry.{Entry}
use Rattle.qplain.specs.Journal.{play}
use Rattle.qplain.specs.State.{State}
use Rattle.qaudit_checks.specs.declared.checker.Checker.{Checker}
use Rattle.qaudit_checks.specs.LawfulBoards.{AreLawful}

-- the version of the last board, or this one where there is none
unfoldable pub last_version : ℕ → List Board → ℕ
last_version version [] = version
last_version version (b ∷ later) = last_version b.version later

-- the boards that were seen are lawful, and the store stands where the entries lead to that the last of them has
pub record AreSeenBoards (S : State) (journal : List Entry) (seen : List Board) (c : Checker) : Type 0 where
  pub lawful : AreLawful S journal seen
  pub last : c.version ≡ last_version 0 seen
  pub within : c.version ≤ length journal
  pub state : c.store.state ≡ play S (take c.version journal)

-- the board was seen after these, or with it they are not lawful
abbrev pub IsJudged : State → List Entry → List Board → Board → Checker → Bool → Type 0
IsJudged S journal seen b c true = AreSeenBoards S journal (seen ++ b ∷ []) c
IsJudged S journal seen b c false = AreLawful S journal (seen ++ b ∷ []) → ⊥
