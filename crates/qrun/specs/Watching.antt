-- What looks at the boards of a run are, beside its workers. Public clauses cite `seats_for` alone.
use Rattle.std.specs.Prelude.{◌≡◌, ℕ, ◌+◌, ◌==◌, List, [], ◌∷◌, length, if◌then◌else◌, Option, Some, None, Result}
use mathlib.Core.List.{IsPrefix}
use Rattle.qplain.specs.declared.board.Board.{Board}
use Rattle.qplain.specs.declared.look_fault.LookFault.{LookFault}
use Rattle.qplain.specs.State.{State}
use Rattle.qaudit_checks.specs.LawfulBoards.{AreLawful, boards_in}
use Rattle.qshare_history.specs.Shares.{HandedIn}
use Rattle.qshare.specs.Seats.{Seated, new_seat}

-- a watcher's share, and what each of its looks was given
pub record Watched : Type 0 where
  pub share : HandedIn
  pub looks : List (Result Board LookFault)

-- who looks N times: its seat
pub record Watching : Type 0 where
  pub seat : Seated
  pub boards : ℕ

-- before a look the seat may have seen more of the history, and no more has come of it
pub record HasWaited (old new : Seated) : Type 0 where
  pub worker : new.worker ≡ old.worker
  pub tally : new.tally ≡ old.tally
  pub begins : IsPrefix old.seen new.seen

-- the share of this watcher, who has made no call, and N looks: the boards are lawful, from this state on, over
-- the history that it has seen
pub record IsWatch (S : State) (worker boards : ℕ) (w : Watched) : Type 0 where
  pub worker_is : w.share.worker ≡ worker
  pub idle : w.share.tally.calls ≡ 0
  pub each : length w.looks ≡ boards
  pub lawful : AreLawful S w.share.seen (boards_in w.looks)

-- how many seats a run has: one for each script, and one more where boards are looked at
abbrev pub seats_for : ℕ → ℕ → ℕ
seats_for scripts boards = if boards == 0 then scripts else scripts + 1

-- the seat after those of the scripts, where boards are looked at
abbrev pub watcher_for : ℕ → ℕ → Option Seated
watcher_for scripts boards = if boards == 0 then None else Some (new_seat (scripts + 1))

-- who has a seat has looked N times, and nobody else
abbrev pub IsWatchOf : State → ℕ → Option Seated → Option Watched → Type 0
IsWatchOf S boards None watch = watch ≡ None
IsWatchOf S boards (Some seat) None = ⊥
IsWatchOf S boards (Some seat) (Some w) = IsWatch S seat.worker boards w

-- the share of who has looked
abbrev pub shares_in : Option Watched → List HandedIn
shares_in None = []
shares_in (Some w) = w.share ∷ []

-- what the looks were given
abbrev pub looks_in : Option Watched → List (Result Board LookFault)
looks_in None = []
looks_in (Some w) = w.looks
