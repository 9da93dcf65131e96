-- What a contract sees of a lock that is held.
use Rattle.std.specs.Prelude.{◌≡◌, ℕ, List}
use mathlib.Core.List.{IsPrefix}
use Rattle.qplain.specs.declared.entry.Entry.{Entry}
use Rattle.qshare.specs.declared.held.TheConstants.{MAX_BATCH}
use Rattle.qshare.specs.Seats.{Seated}

-- the worker that holds it, the journal, how much of it is published, and for how many calls more it may be held
pub record Holding : Type 0 where
  pub by : ℕ
  pub journal : List Entry
  pub published : List Entry
  pub room : ℕ

-- the seat's worker has just taken it, for 64 calls; the journal begins with what is published, and that with what the
-- seat has seen
pub record IsHeldBy (seat : Seated) (held : Holding) : Type 0 where
  pub by : held.by ≡ seat.worker
  pub room : held.room ≡ MAX_BATCH
  pub seen : IsPrefix seat.seen held.published
  pub published : IsPrefix held.published held.journal
