use Rattle.std.specs.List.{flat_map}
use Rattle.qtext.proofs.Fronts.{refused_first, writes_then}
use Rattle.qtext_outcome.specs.Boards.{boards_text}
use Rattle.qtext_outcome.specs.Calls.{shown_transcript}
use Rattle.qtext_outcome.proofs.shown_text.put_told.Goals as goal

pub returns-in_err-put_transcripts : goal.returns-in_err-put_transcripts
returns-in_err-put_transcripts g c =
    refused_first _ _ _ (flat_map (shown_transcript c.args.view.calls) c.args.outcome.now.transcripts)
    (boards_text c.args.outcome.now.boards) c.from_residual.ensures.0
    (rw c.as_slice.ensures at c.in_err-put_transcripts.ensures)

pub returns : goal.returns
returns g c = writes_then _ _ _ _ (flat_map (shown_transcript c.args.view.calls) c.args.outcome.now.transcripts)
    (boards_text c.args.outcome.now.boards) (rw c.as_slice.ensures at c.in_ok-put_transcripts.ensures)
    (rw c.as_slice-2.ensures at c.put_boards.ensures)
