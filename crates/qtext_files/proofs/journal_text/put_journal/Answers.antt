use Rattle.std.proofs.lemmas.Result.{IfOk-weaker}
use Rattle.qtext_files.proofs.JournalsWritten.{can_be_read}
use Rattle.qtext_files.proofs.journal_text.put_journal.Goals as goal

pub returns-clause-again : goal.returns-clause-again
returns-clause-again g c = IfOk-weaker c.put_both.result _ _
    (λ _ spelled. can_be_read c.args.journal.now c.put_both.ensures.lawful spelled) c.put_both.ensures.held
