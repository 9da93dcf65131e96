-- What the text of a session's journal says.
use Rattle.std.specs.Prelude.{ℕ, List, Option, Some, None, Result, Ok, Err}
use Rattle.std.specs.Option.{ok_or}
use Rattle.qplain.specs.declared.edition.Edition.TheVariants.{Two}
use Rattle.qplain.specs.declared.entry.Entry.{Entry}
use Rattle.qplain.specs.declared.tallies.Tallies.{Tallies}
use Rattle.qplain.specs.Journal.{tally_of}
use Rattle.qplain.specs.Journals.{Written}
use Rattle.qtext_files.specs.Spelling.{CanBeRead, journal_spelling}
use Rattle.qsession.specs.declared.fault.Fault.{Fault}
use Rattle.qsession.specs.declared.fault.Fault.TheVariants.{Closed, NoJournal}
use Rattle.qsession.specs.Holdings.{Holding, KeptJournal}

-- the journal of these entries, of edition 2 and one worker
abbrev pub journal_written : List Entry → Written
journal_written entries = record { edition = Two; workers = 1; entries = entries }

-- the journal that a session keeps, or why there is none: it is closed, or keeps none
abbrev pub session_journal : Option Holding → Result KeptJournal Fault
session_journal None = Err Closed
session_journal (Some h) = ok_or h.journal NoJournal

-- the text that spells a journal out
abbrev pub text_of : Result KeptJournal Fault → Result (List ℕ) Fault
text_of (Ok journal) = Ok (journal_spelling (journal_written journal.entries))
text_of (Err fault) = Err fault

-- a journal is kept, and its text is read again as it
abbrev pub IsReadAgain : Result KeptJournal Fault → Type 0
IsReadAgain (Ok journal) = CanBeRead (journal_written journal.entries)
IsReadAgain (Err fault) = ⊥

-- a journal's tally
abbrev pub tallied : Result KeptJournal Fault → Result Tallies Fault
tallied (Ok journal) = Ok (tally_of journal.entries)
tallied (Err fault) = Err fault
