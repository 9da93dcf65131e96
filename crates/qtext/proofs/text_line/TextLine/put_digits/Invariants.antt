use Rattle.std.proofs.Common.{◌≤◌, ◌++◌, length}
use Rattle.hex.specs.Hex.{encode_lower}
use Rattle.qtext.specs.Written.{Partly}
use Rattle.qtext.specs.declared.text_line.TheConstants.{HEAD_ROOM}
use Rattle.qtext.proofs.text_line.TextLine.put_digits.Given as goal

abbrev pub invariant-loop-rest : goal.invariant-loop-rest
invariant-loop-rest g l = record {
  room : length l.self ≤ HEAD_ROOM;
  written : Partly (g.W.Write.contents l.fn.out) (g.W.Write.contents l.out)
      (l.fn.self ++ encode_lower l.fn.bytes) (l.self ++ encode_lower l.rest);
}

abbrev pub decreases-loop-rest : goal.decreases-loop-rest
decreases-loop-rest g l = length l.rest
