use Rattle.std.proofs.Common.{◌-◌}
use Rattle.std.specs.Prelude.{replicate}
use Rattle.hex.specs.Hex.{encode_lower}
use Rattle.qtext.specs.Written.{Partly}
use Rattle.qtext_rows.proofs.value.put_equal.Given as goal

abbrev pub invariant-loop : goal.invariant-loop
invariant-loop g l = Partly (g.W.Write.contents l.fn.out) (g.W.Write.contents l.out)
    (encode_lower (replicate l.count l.byte)) (encode_lower (replicate (l.count - l.counter) l.byte))
