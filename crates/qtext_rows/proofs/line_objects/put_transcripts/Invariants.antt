use Rattle.std.proofs.Common.{drop}
use Rattle.qtext_rows.specs.Lines.{transcript_objects}
use Rattle.std.specs.List.{flat_map}
use Rattle.qtext.specs.Written.{Partly}
use Rattle.qtext_rows.proofs.line_objects.put_transcripts.Given as goal

abbrev pub invariant-loop-transcript : goal.invariant-loop-transcript
invariant-loop-transcript g l = Partly (g.W.Write.contents l.fn.out) (g.W.Write.contents l.out)
    (flat_map (transcript_objects l.calls) l.transcripts) (flat_map (transcript_objects l.calls) (drop l.transcript-index l.transcripts))
