use Rattle.std.proofs.Common.{drop}
use Rattle.csv.specs.Writing.{default_writer, escaped}
use Rattle.qtext.specs.Written.{Partly}
use Rattle.qtext_rows.proofs.field.put_doubled.Given as goal

abbrev pub invariant-loop-byte : goal.invariant-loop-byte
invariant-loop-byte g l = Partly (g.W.Write.contents l.fn.out) (g.W.Write.contents l.out)
    (escaped default_writer l.field) (escaped default_writer (drop l.byte-index l.field))
