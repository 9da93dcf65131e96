-- How a `JournaledStore` keeps its parts. No public clause cites this module.
use Rattle.std.specs.Prelude.{◌≡◌, ◌≤◌, length, slice_get, take}
use Rattle.qplain.specs.Journal.{tally_of}
use Rattle.qstore_journaled.specs.declared.journaled_store.JournaledStore.TheInside.{Inside}
use Rattle.qstore_journaled.specs.Journaled.{IsPlayed, Journaled}

-- what the fields spell out
abbrev pub journaled_of : Inside → Journaled
journaled_of a = record {
  setting = a.setup;
  begun = a.begun;
  stored = a.store;
  journal = take a.len a.entries.items;
  next = slice_get a.entries.items a.len;
}

-- the store is what its journal leaves, whose entries are there, and the kept tally is the journal's
pub record IsKept (a : Inside) : Type 0 where
  pub played : IsPlayed (journaled_of a)
  pub len : a.len ≤ length a.entries.items
  pub tallies : a.tallies ≡ tally_of (journaled_of a).journal
