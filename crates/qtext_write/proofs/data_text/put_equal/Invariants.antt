use Rattle.std.proofs.Common.{◌≤◌, ◌++◌, length, replicate}
use Rattle.hex.specs.Hex.{encode_lower}
use Rattle.qtext.specs.Written.{Partly}
use Rattle.qtext.specs.declared.text_line.TheConstants.{HEAD_ROOM}
use Rattle.qtext_write.proofs.data_text.put_equal.Given as goal

abbrev pub invariant-loop-left : goal.invariant-loop-left
invariant-loop-left g l = record {
  room : length l.line ≤ HEAD_ROOM;
  written : Partly (g.W.Write.contents l.fn.out) (g.W.Write.contents l.out)
      (l.fn.line ++ encode_lower (replicate l.fn.count l.fn.byte)) (l.line ++ encode_lower (replicate l.left l.fn.byte));
}

abbrev pub decreases-loop-left : goal.decreases-loop-left
decreases-loop-left g l = l.left
