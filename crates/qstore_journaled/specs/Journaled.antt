-- A store beside the setup and the state that it began with and the journal of its calls: what a contract sees of it,
-- and what always holds of it.
use Rattle.std.specs.Prelude.{◌≡◌, ◌≤◌, List, Option, length}
use Rattle.qplain.specs.declared.bounds.TheConstants.{MAX_ENTRIES}
use Rattle.qplain.specs.declared.entry.Entry.{Entry}
use Rattle.qplain.specs.Setups.{Setting}
use Rattle.qplain.specs.State.{State}
use Rattle.qplain.specs.Journal.{IsLegal, play}
use Rattle.qplain_laws.specs.Beginnings.{IsStateOf}
use Rattle.qstore.specs.Stored.{Stored}

-- the setup, the state at the beginning, the store and its journal, and the entry that is ready, if one is
pub record Journaled : Type 0 where
  pub setting : Setting
  pub begun : State
  pub stored : Stored
  pub journal : List Entry
  pub next : Option Entry

-- The headline: the journal is legal from the beginning, and the store is exactly what it leaves when one thread plays
-- it from there on the plain machine; a store of the setup may begin with either state, and the journal is no longer
-- than it may be.
pub record IsPlayed (j : Journaled) : Type 0 where
  pub beginning : IsStateOf j.setting j.begun
  pub legal : IsLegal j.begun j.journal
  pub state : j.stored.state ≡ play j.begun j.journal
  pub stands : IsStateOf j.setting j.stored.state
  pub few : length j.journal ≤ MAX_ENTRIES

-- the two have the same setup, beginning, state and journal, whatever is ready
pub record IsSameJournaled (old new : Journaled) : Type 0 where
  pub setting : new.setting ≡ old.setting
  pub begun : new.begun ≡ old.begun
  pub state : new.stored.state ≡ old.stored.state
  pub journal : new.journal ≡ old.journal

-- a journaled store that began with this setup in this state
pub record IsStoreOf (setting : Setting) (begun : State) (j : Journaled) : Type 0 where
  pub setting_is : j.setting ≡ setting
  pub begun_is : j.begun ≡ begun
  pub played : IsPlayed j
