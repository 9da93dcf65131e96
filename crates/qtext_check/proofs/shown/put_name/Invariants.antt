use Rattle.std.proofs.Common.{drop}
use Rattle.std.specs.List.{flat_map}
use Rattle.qtext.specs.Written.{Partly}
use Rattle.qtext_check.specs.Shown.{escaped_byte}
use Rattle.qtext_check.proofs.shown.put_name.Given as goal

abbrev pub invariant-loop-byte : goal.invariant-loop-byte
invariant-loop-byte g l = Partly (g.W.Write.contents l.fn.out) (g.W.Write.contents l.out)
    (flat_map escaped_byte l.name) (flat_map escaped_byte (drop l.byte-index l.name))
