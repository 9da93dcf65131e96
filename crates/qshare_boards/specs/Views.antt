-- What readers have seen, and the rule over it. No public clause cites this module.
use Rattle.std.specs.Prelude.{◌≡◌, ℕ, List, []}
use mathlib.Core.Option.{some}
use mathlib.Core.List.{IsPrefix}
use lib.ListN.{get_elem?}
use Rattle.logbook.specs.Pages.{Book}
use Rattle.qshare_history.specs.Histories.{Recorded}
use Rattle.qplain.specs.declared.board.Board.{Board}
use Rattle.qplain.specs.State.{State}
use Rattle.qplain.specs.Journal.{IsLegal}
use Rattle.qshare_boards.specs.declared.rule.SeenHistory.{SeenHistory}
use Rattle.qshare_boards.specs.Boards.{shown_of}

-- who has seen nothing
abbrev pub newcomer : SeenHistory
newcomer = record { seen = [] }

-- this is the board of the history, which is legal, and begins with what each reader has seen
abbrev pub Kept : Book → State → Recorded → Board → List SeenHistory → Type 0
Kept book S prefix shown views =
    (prefix.history ≡ book) × (shown ≡ shown_of S prefix.entries) × IsLegal S prefix.entries
    × ((reader : ℕ) (v : SeenHistory) → get_elem? views reader ≡ some v → IsPrefix v.seen prefix.entries)

-- this history is then seen, which begins with all that had been seen
abbrev pub IsThenSeen : Book → State → SeenHistory → Recorded → Board → SeenHistory → Type 0
IsThenSeen book S v prefix shown w =
    (w.seen ≡ prefix.entries) × (prefix.history ≡ book) × IsPrefix v.seen prefix.entries × IsLegal S prefix.entries
    × (shown ≡ shown_of S prefix.entries)
