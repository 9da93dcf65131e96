-- What a journaled store is taken apart into.
use Rattle.std.specs.Prelude.{◌≡◌, ◌≤◌, List, length}
use Rattle.qplain.specs.declared.bounds.TheConstants.{MAX_ENTRIES}
use Rattle.qplain.specs.declared.entry.Entry.{Entry}
use Rattle.qplain.specs.Setups.{Setting}
use Rattle.qplain.specs.State.{State}
use Rattle.qplain.specs.Journal.{IsLegal, play, tally_of}
use Rattle.qplain_laws.specs.Beginnings.{IsStateOf}
use Rattle.qstore_journaled.specs.declared.ended.Ended.{Ended}

-- the setup, this journal, which is legal from this beginning and no longer than it may be, the store that it leaves,
-- with whose state a store of the setup may begin, and its tally
pub record AreItsParts (setting : Setting) (begun : State) (journal : List Entry) (e : Ended) : Type 0 where
  pub setup : e.setup ≡ setting
  pub journal_is : e.journal.items ≡ journal
  pub legal : IsLegal begun journal
  pub few : length journal ≤ MAX_ENTRIES
  pub store : e.store.state ≡ play begun journal
  pub stands : IsStateOf setting e.store.state
  pub tallies : e.tallies ≡ tally_of journal
