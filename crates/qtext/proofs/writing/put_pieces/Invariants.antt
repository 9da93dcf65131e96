use Rattle.std.proofs.Common.{drop}
use Rattle.qtext.specs.Pieces.{pieces_text}
use Rattle.qtext.specs.Written.{Partly}
use Rattle.qtext.proofs.writing.put_pieces.Given as goal

abbrev pub invariant-loop-piece : goal.invariant-loop-piece
invariant-loop-piece g l = Partly (g.W.Write.contents l.fn.out) (g.W.Write.contents l.out) (pieces_text l.pieces) (pieces_text (drop l.piece-index l.pieces))
