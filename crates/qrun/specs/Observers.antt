-- Who looks at boards beside workers, and what it has done. No public clause cites this module.
use Rattle.std.specs.Prelude.{◌≡◌, ◌<◌, ◌≤◌, ℕ, List, length, Option, None, Some, IfSome, option_map}
use Rattle.qplain.specs.State.{State}
use Rattle.qrun_client.specs.Clients.{Talk}
use Rattle.qrun_worker.specs.Work.{ArePlayed, Prepared, Worked}
use Rattle.qshare.specs.Seats.{Seated}
use Rattle.qrun.specs.declared.observer.Observer.{Observer}
use Rattle.qrun.specs.declared.observer.Observer.TheVariants.{Watcher, Showing}
use Rattle.qrun.specs.declared.run_fault.RunFault.{RunFault}
use Rattle.qrun.specs.Monitors.{IsShownTo, Sight}
use Rattle.qrun.specs.RunFaults.{IsFaultOf}
use Rattle.qrun.specs.Watching.{IsWatch, Watched}

-- an observer's seat
abbrev pub seat_in : {S M L : Type 0} → Observer S M L → Seated
seat_in (Watcher w) = w.seat
seat_in (Showing s) = s.seat

-- for how many looks it keeps what they were given
abbrev pub looks_kept : {S M L : Type 0} → Observer S M L → ℕ
looks_kept (Watcher w) = w.boards
looks_kept (Showing s) = 0

-- its monitor, where it has one
abbrev pub monitor_in : {S M L : Type 0} → Observer S M L → Option M
monitor_in (Watcher w) = None
monitor_in (Showing s) = Some s.monitor

-- what an observer has done, and what is left of its monitor
pub record Observed (Left : Type 0) : Type 0 where
  pub watch : Watched
  pub left : Option Left

-- its seat has made no call and kept what so many looks were given, and its monitor was shown boards of the history
-- that the seat has seen
pub record IsObserved {T M Left : Type 0} (sees : M → Sight Left) (S : State) (o : Observer T M Left)
    (x : Observed Left) : Type 0 where
  pub watch : IsWatch S (seat_in o).worker (looks_kept o) x.watch
  pub shown : IsShownTo sees S x.watch.share.seen (monitor_in o) x.left

-- so it is with who looks, where somebody does
abbrev pub IsObservedBy : {T M Left : Type 0} → (M → Sight Left) → State → Option (Observer T M Left)
    → Option (Observed Left) → Type 0
IsObservedBy sees S None observed = observed ≡ None
IsObservedBy sees S (Some o) None = ⊥
IsObservedBy sees S (Some o) (Some observed) = IsObserved sees S o observed

-- for how many looks is kept what they were given
abbrev pub looks_wanted : {S M L : Type 0} → Option (Observer S M L) → ℕ
looks_wanted None = 0
looks_wanted (Some o) = looks_kept o

-- the monitor that is shown the boards, where there is one
abbrev pub shown_to : {S M L : Type 0} → Option (Observer S M L) → Option M
shown_to None = None
shown_to (Some o) = monitor_in o

-- what is left of it
abbrev pub observer_left : {Left : Type 0} → Option (Observed Left) → Option Left
observer_left None = None
observer_left (Some o) = o.left

-- who has a seat has one of the first N
abbrev pub HasSeatIn : ℕ → Option Seated → Type 0
HasSeatIn n seat = IfSome seat (λ s. (0 < s.worker) × (s.worker ≤ n))

-- all workers have played what their clients hand out, and who looks has looked
abbrev pub HavePlayedAndLooked : {C Left T M W : Type 0} → (C → Talk Left) → (M → Sight W) → State → List (Prepared C)
    → Option (Observer T M W) → List (Worked Left) → Option (Observed W) → Type 0
HavePlayedAndLooked talk sees S workers observer works observed =
    ArePlayed (λ w. talk w.client) workers works × IsObservedBy sees S observer observed

-- the fault is one of them and of who looks, however many there are besides
abbrev pub IsFaultAmong : {C T M W : Type 0} → List (Prepared C) → Option (Observer T M W) → RunFault → Type 0
IsFaultAmong workers observer fault = (n : ℕ) → length workers ≤ n → HasSeatIn n (option_map seat_in observer)
    → IsFaultOf n fault
