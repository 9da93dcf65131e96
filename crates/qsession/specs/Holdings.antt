-- What a session holds: nothing, or a store, without or with a journal of its calls.
use Rattle.std.specs.Prelude.{◌≡◌, List, [], Option, Some, None}
use Rattle.std.specs.Option.{option_map}
use Rattle.qplain.specs.declared.entry.Entry.{Entry}
use Rattle.qplain.specs.Setups.{Setting}
use Rattle.qplain.specs.State.{State, start}
use Rattle.qplain.specs.Journal.{IsLegal, play}
use Rattle.qplain_laws.specs.Beginnings.{IsStateOf}
use Rattle.qplain_laws.specs.Laws.{IsLawful}
use Rattle.qsession.specs.declared.kept.Kept.{Kept}
use Rattle.qsession.specs.declared.kept.Kept.TheVariants.{Plain, Journaled}

-- the entries of a journal, and the setup and the state that it begins with
pub record KeptJournal : Type 0 where
  pub setting : Setting
  pub begun : State
  pub entries : List Entry

-- the state of a store, and its journal where it keeps one
pub record Holding : Type 0 where
  pub state : State
  pub journal : Option KeptJournal

-- what is held in what is kept
abbrev pub holding_of : Kept → Holding
holding_of (Plain s) = record { state = s.state; journal = None }
holding_of (Journaled j) = record {
  state = j.stored.state;
  journal = Some (record { setting = j.setting; begun = j.begun; entries = j.journal });
}

-- what a session holds: nothing where it is closed
abbrev pub held_in : Option Kept → Option Holding
held_in kept = option_map holding_of kept

-- what a new store of a setup holds
abbrev pub new_plain : Setting → Holding
new_plain setting = record { state = start setting; journal = None }

-- what a new store of a setup that keeps a journal holds
abbrev pub new_journaled : Setting → Holding
new_journaled setting = record {
  state = start setting;
  journal = Some (record { setting = setting; begun = start setting; entries = [] });
}

-- the journal begins with a state that a store of its setup can be in and is legal from there, and the state is exactly
-- what it leaves when it is played on the plain machine
pub record IsPlayedTo (journal : KeptJournal) (S : State) : Type 0 where
  pub beginning : IsStateOf journal.setting journal.begun
  pub legal : IsLegal journal.begun journal.entries
  pub left : S ≡ play journal.begun journal.entries

-- the headline, for one thread: where a journal is kept, the store is exactly what it leaves, and each journaled reply
-- is the plain machine's
abbrev pub IsLeftByJournal : Option KeptJournal → State → Type 0
IsLeftByJournal None S = Unit {0}
IsLeftByJournal (Some journal) S = IsPlayedTo journal S

-- so it is of what a session holds, if it is open
abbrev pub HoldsTrue : Option Holding → Type 0
HoldsTrue None = Unit {0}
HoldsTrue (Some h) = IsLeftByJournal h.journal h.state

-- what a session holds, if it is open, is a lawful state
abbrev pub HoldsLawful : Option Holding → Type 0
HoldsLawful None = Unit {0}
HoldsLawful (Some h) = IsLawful h.state
