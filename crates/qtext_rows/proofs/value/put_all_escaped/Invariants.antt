use Rattle.std.proofs.Common.{drop}
use Rattle.std.specs.List.{flat_map}
use Rattle.json.specs.Print.{escape_byte}
use Rattle.qtext.specs.Written.{Partly}
use Rattle.qtext_rows.proofs.value.put_all_escaped.Given as goal

abbrev pub invariant-loop-byte : goal.invariant-loop-byte
invariant-loop-byte g l = Partly (g.W.Write.contents l.fn.out) (g.W.Write.contents l.out)
    (flat_map escape_byte l.text) (flat_map escape_byte (drop l.byte-index l.text))
