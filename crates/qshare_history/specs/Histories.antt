-- What a contract sees of a history, and of a prefix of one.
use Rattle.std.specs.Prelude.{List, ◌∷◌, [], ◌++◌}
use Rattle.logbook.specs.Pages.{Book}
use Rattle.qplain.specs.declared.entry.Entry.{Entry}

-- which history it is, and its entries
pub record Recorded : Type 0 where
  pub history : Book
  pub entries : List Entry

-- these entries of this history
abbrev pub recorded : Book → List Entry → Recorded
recorded history entries = record { history = history; entries = entries }

-- the history with one entry more
abbrev pub with_entry : Recorded → Entry → Recorded
with_entry r e = record { history = r.history; entries = r.entries ++ e ∷ [] }
