-- What contracts see of seats.
use Rattle.std.specs.Prelude.{◌≡◌, ℕ, zero, suc, ◌+◌, List, [], ◌∷◌, ◌++◌, Result, Err}
use mathlib.Core.List.{IsPrefix}
use Rattle.qplain.specs.declared.entry.Entry.{Entry}
use Rattle.qplain.specs.declared.look_fault.LookFault.{LookFault}
use Rattle.qplain.specs.declared.look_fault.LookFault.TheVariants.{NoBoard}
use Rattle.qplain.specs.declared.tallies.Tallies.{Tallies}
use Rattle.qplain.specs.Journal.{IsLegal, no_tally}
use Rattle.qplain.specs.State.{State}

-- a worker's number, the prefix of the history that its seat has seen, and what it has counted
pub record Seated : Type 0 where
  pub worker : ℕ
  pub seen : List Entry
  pub tally : Tallies

-- a seat that has seen nothing and counted nothing
abbrev pub new_seat : ℕ → Seated
new_seat worker = record { worker = worker; seen = []; tally = no_tally }

-- so many new seats, numbered from 1
abbrev pub seats_of : ℕ → List Seated
seats_of zero = []
seats_of (suc n) = seats_of n ++ new_seat (n + 1) ∷ []

-- the worker's seat has seen a history, legal from this beginning, that begins with all that it had seen
pub record HasSeenOn (begun : State) (old new : Seated) : Type 0 where
  pub worker : new.worker ≡ old.worker
  pub begins : IsPrefix old.seen new.seen
  pub legal : IsLegal begun new.seen

-- a look leaves no trace but that: what was counted is as before, and all is where no board was handed out
pub record HasLooked {T : Type 0} (begun : State) (old new : Seated) (shown : Result T LookFault) : Type 0 where
  pub seen : HasSeenOn begun old new
  pub tally : new.tally ≡ old.tally
  pub nothing : shown ≡ Err NoBoard → new ≡ old
