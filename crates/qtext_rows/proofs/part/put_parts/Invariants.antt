use Rattle.std.proofs.Common.{drop}
use Rattle.qtext.specs.Written.{Partly}
use Rattle.qtext_rows.specs.Values.{parts_text}
use Rattle.qtext_rows.proofs.part.put_parts.Given as goal

abbrev pub invariant-loop-part : goal.invariant-loop-part
invariant-loop-part g l = Partly (g.W.Write.contents l.fn.out) (g.W.Write.contents l.out)
    (parts_text l.parts) (parts_text (drop l.part-index l.parts))
