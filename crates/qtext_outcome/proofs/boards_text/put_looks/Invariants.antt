use Rattle.std.proofs.Common.{drop}
use Rattle.std.specs.List.{flat_map}
use Rattle.qtext.specs.Written.{Partly}
use Rattle.qtext_outcome.specs.Boards.{look_text}
use Rattle.qtext_outcome.proofs.boards_text.put_looks.Given as goal

abbrev pub invariant-loop-look : goal.invariant-loop-look
invariant-loop-look g l =
    Partly (g.W.Write.contents l.fn.out) (g.W.Write.contents l.out) (flat_map look_text l.looks)
    (flat_map look_text (drop l.look-index l.looks))
