use Rattle.qtext_files.proofs.JournalsAgain.{journal_read_again}
use Rattle.qtext_files.proofs.JournalsFound.{journal_read_found}
use Rattle.qtext_files.proofs.journal.JournalFromText.read.Goals as goal

pub returns : goal.returns
returns c =
    let exact = c.journal_in.ensures in
    let found = journal_read_found c.args.text.now _ exact in
    record { exact = exact; spelled = found.0; held = found.1; again = journal_read_again c.args.text.now _ exact }
