-- What lies under the lock, and what holds of it whenever the lock is free. No public clause cites this module.
use Rattle.std.specs.Prelude.{◌≡◌, Bool, true, ℕ, List, []}
use mathlib.Core.List.{IsPrefix}
use Rattle.qplain.specs.declared.entry.Entry.{Entry}
use Rattle.qplain.specs.declared.tallies.Tallies.{Tallies}
use Rattle.qplain.specs.Journal.{no_tally, tally_of}
use Rattle.qshare_history.specs.Counted.{Counted}
use Rattle.qshare_history.specs.Histories.{Recorded}
use Rattle.qshare_history.specs.Moments.{NeverFalls}
use Rattle.qshare_history.specs.StoreIds.{Identity}
use Rattle.qstore_journaled.specs.Journaled.{IsStoreOf, Journaled}

-- the journal, and how much of it is published
pub record Locked : Type 0 where
  pub journal : List Entry
  pub published : List Entry

-- a new store has no entry
abbrev pub IsNewStore : Locked → Type 0
IsNewStore l = (l.journal ≡ []) × (l.published ≡ [])

-- the journal begins with what is published, which is the history of the store; the tally is the journal's, and nothing
-- is counted but by its seats; where a clock rules the store, the journal's moments never fall
pub record IsLockedOf (id : Identity) (j : Journaled) (published : Recorded) (tally : Tallies) (rest : Counted)
    (seats : ℕ) (clocked : Bool) : Type 0 where
  pub of : IsStoreOf id.setting id.begun j
  pub published_of : published.history ≡ id.history
  pub begins : IsPrefix published.entries j.journal
  pub tally_is : tally ≡ tally_of j.journal
  pub rest_is : rest ≡ record { tally = no_tally; parts = 0 }
  pub seats_are : seats ≡ id.counters.parts
  pub clocked_is : clocked ≡ id.clocked
  pub moments : id.clocked ≡ true → NeverFalls j.journal
