use Rattle.std.proofs.Common.{drop}
use Rattle.std.specs.List.{flat_map}
use Rattle.qtext.specs.Written.{Partly}
use Rattle.qtext_outcome.specs.Calls.{shown_transcript}
use Rattle.qtext_outcome.proofs.transcript_text.put_transcripts.Given as goal

abbrev pub invariant-loop-transcript : goal.invariant-loop-transcript
invariant-loop-transcript g l =
    Partly (g.W.Write.contents l.fn.out) (g.W.Write.contents l.out) (flat_map (shown_transcript l.calls) l.transcripts)
    (flat_map (shown_transcript l.calls) (drop l.transcript-index l.transcripts))
