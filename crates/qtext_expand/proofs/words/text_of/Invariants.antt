use Rattle.std.proofs.Common.{◌≡◌, map, take}
use Rattle.qtext.specs.Pieces.{piece_text}
use Rattle.qtext_expand.specs.FriendlyWords.{spaced}
use Rattle.qtext_expand.proofs.words.text_of.Given as goal

abbrev pub invariant-loop-piece : goal.invariant-loop-piece
invariant-loop-piece l = l.text.items ≡ spaced (map piece_text (take l.piece-index l.pieces))
