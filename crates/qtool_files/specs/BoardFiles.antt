-- What comes of the file in which boards are shown, each with what the service has counted behind it.
use Rattle.std.specs.Prelude.{◌≡◌, ◌⊎◌, ℕ, Bool, true, false, List, [], ◌∷◌, ◌++◌, Option, Some}
use mathlib.Core.List.{IsPrefix}
use Rattle.qplain.specs.declared.board.Board.{Board}
use Rattle.qplain.specs.Setups.{Setting}
use Rattle.qtext_metrics.specs.Metrics.{metrics_text}
use Rattle.qtext_metrics.specs.Services.{service_text}
use Rattle.qtext_metrics.specs.declared.service_counts.ServiceCounts.{ServiceCounts}
use Rattle.qtool_files.specs.Held.{StandsUnder}

-- a file at a moment: whether it has refused, the text of the board shown last, where one was, and what files hold
pub record FileAt : Type 0 where
  pub refused : Bool
  pub shown : Option (List ℕ)
  pub held : Option (List ℕ → Option (List ℕ))

-- the text of the last of these boards, or, where there is none, that of the one shown before them
abbrev pub IsLast : Setting → Option (List ℕ) → List Board → List ℕ → Type 0
IsLast setting shown boards text = ((boards ≡ []) × (shown ≡ Some text))
    ⊎ ((before : List Board) × (b : Board) × (boards ≡ before ++ b ∷ []) × (text ≡ metrics_text setting b))

-- under the name stands this text, with what was counted by some moment behind it, and under any other what stood there
abbrev pub StandsCounted : Option (List ℕ → Option (List ℕ)) → Option (List ℕ → Option (List ℕ)) → List ℕ → List ℕ
    → Type 0
StandsCounted old new name text = (counts : ServiceCounts) × StandsUnder old new name (text ++ service_text counts)

-- after these boards were written that of the last stands under the name, with what was counted; where there was none
-- that of the one shown before them, or all is as it was
abbrev pub HoldsLast : Setting → List ℕ → FileAt → Option (List ℕ → Option (List ℕ)) → List Board → Type 0
HoldsLast setting name old new boards = ((boards ≡ []) × (new ≡ old.held))
    ⊎ ((text : List ℕ) × IsLast setting old.shown boards text × StandsCounted old.held new name text)

-- a file that is shown these boards, and has refused or not: the first of them were written, all of them unless it has
-- refused by then, and the files hold the last of those; one that has refused before writes no more
pub record IsBoardFile (setting : Setting) (name : List ℕ) (old : FileAt) (boards : List Board) (then_refused : Bool)
    (new : Option (List ℕ → Option (List ℕ))) : Type 0 where
  pub written : List Board
  pub first : IsPrefix written boards
  pub all : then_refused ≡ false → written ≡ boards
  pub holds : HoldsLast setting name old new written
  pub no_more : old.refused ≡ true → (written ≡ []) × (new ≡ old.held) × (then_refused ≡ true)

-- what comes of a file after this moment comes of it as it was before: it was shown no board in between
abbrev pub GoesOn : Setting → List ℕ → FileAt → FileAt → Type 0
GoesOn setting name old new = (boards : List Board) (refused : Bool) (left : Option (List ℕ → Option (List ℕ)))
    → IsBoardFile setting name new boards refused left → IsBoardFile setting name old boards refused left
