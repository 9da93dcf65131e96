use Rattle.qtext.proofs.Fronts.{rows_end, rows_go_on, rows_refused}
use Rattle.qtext_outcome.specs.Calls.{shown_transcript}
use Rattle.qtext_outcome.proofs.transcript_text.put_transcripts.Goals as goal

pub loop-transcript-preserved : goal.loop-transcript-preserved
loop-transcript-preserved g c =
    rows_go_on _ _ _ (shown_transcript c.args.calls) _ _ c.transcript-item.result _ c.transcript-item.is
    c.loop-transcript.invariant c.in_ok-put_transcript.ensures c.loop-transcript-test.true

pub returns-in_err-put_transcript : goal.returns-in_err-put_transcript
returns-in_err-put_transcript g c =
    rows_refused _ _ _ _ (shown_transcript c.args.calls) _ _ c.transcript-item.result _ c.transcript-item.is
    c.from_residual.ensures.0 c.loop-transcript.invariant c.in_err-put_transcript.ensures
    c.loop-transcript-test.true

pub returns : goal.returns
returns g c = rows_end _ _ (shown_transcript c.args.calls) _ _ c.loop-transcript.invariant c.loop-transcript-test.false
