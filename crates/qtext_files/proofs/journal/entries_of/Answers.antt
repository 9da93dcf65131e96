use Rattle.qtext.specs.Words.{parts}
use Rattle.qtext_files.specs.RawLines.{in_line, raw_lines_from}
use Rattle.qtext_files.proofs.RawLines.{each_same}
use Rattle.qtext_files.specs.Journals.{at_entry, journal_entry_of}
use Rattle.qtext_files.proofs.Entries.{at_entry_is}
use Rattle.qtext_files.proofs.journal.entries_of.Goals as goal

pub returns-clause-entries : goal.returns-clause-entries
returns-clause-entries c =
    rw (each_same (λ l. in_line l.number (journal_entry_of c.args.head l)) (at_entry c.args.head) (at_entry_is c.args.head)
    (raw_lines_from 2 (parts 10 c.args.text.now))) at c.read_lines.ensures.lines
