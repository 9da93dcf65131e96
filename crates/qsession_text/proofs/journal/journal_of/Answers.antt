use Rattle.qsession_text.proofs.OfSession.{journal_of_session}
use Rattle.qsession_text.proofs.journal.journal_of.Goals as goal

pub new-requires-2 : goal.new-requires-2
new-requires-2 c =
    let kept = c.entries.ensures in
    rw (c.new.ensures, c.in_ok-entries.ensures, kept.entries) (journal_of_session c.args.recorder.now kept.played kept.session)
