use Rattle.std.proofs.Common.{◌+◌, drop}
use Rattle.qtext.specs.Written.{Partly}
use Rattle.qtext_rows.specs.Lines.{line_objects}
use Rattle.qtext_rows.proofs.line_objects.put_transcript.Given as goal

abbrev pub invariant-loop-at : goal.invariant-loop-at
invariant-loop-at g l =
    let t = l.transcript in
    Partly (g.W.Write.contents l.fn.out) (g.W.Write.contents l.out) (line_objects l.calls t.worker 1 t.lines t.answers)
    (line_objects l.calls t.worker (l.at + 1) (drop l.at t.lines) (drop l.at t.answers))
