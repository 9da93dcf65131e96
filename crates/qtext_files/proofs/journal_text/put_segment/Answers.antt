use Rattle.std.proofs.lemmas.Result.{IfOk-weaker}
use Rattle.qtext_files.proofs.SegmentsAgain.{can_be_read_from}
use Rattle.qtext_files.proofs.journal_text.put_segment.Goals as goal

pub returns-clause-again : goal.returns-clause-again
returns-clause-again g c low = IfOk-weaker c.put_both.result _ _
    (λ _ spelled. can_be_read_from c.args.from c.args.journal.now low c.put_both.ensures.lawful spelled) c.put_both.ensures.held
