use Rattle.qtext.proofs.Fronts.{refused_first, writes_then}
use Rattle.qtext_outcome.specs.Calls.{answers_text}
use Rattle.qtext_outcome.specs.Outcomes.{worker_text}
use Rattle.qtext_outcome.proofs.transcript_text.put_transcript.Goals as goal

pub returns-in_err-put_counts : goal.returns-in_err-put_counts
returns-in_err-put_counts g c =
    refused_first _ _ _ (worker_text c.args.transcript.now.worker) (answers_text c.args.calls c.args.transcript.now)
    c.from_residual.ensures.0 (rw c.worker.ensures at c.in_err-put_counts.ensures)

pub returns : goal.returns
returns g c = writes_then _ _ _ _ (worker_text c.args.transcript.now.worker)
    (answers_text c.args.calls c.args.transcript.now) (rw c.worker.ensures at c.in_ok-put_counts.ensures) c.put_answers.ensures
