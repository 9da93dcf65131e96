use Rattle.std.proofs.Common.{◌+◌, ◌≡◌, ◌<◌, ◌≤◌, ℕ, List, [], ◌∷◌, ◌++◌, ap, length, get_or, drop, add-one, drop-cons, ◌∙◌}
use Rattle.std.proofs.lemmas.List.{drop_all}
use Rattle.std.proofs.lemmas.List.Concat.{flat_map-cons}
use Rattle.qtext.specs.declared.piece.Piece.{Piece}
use Rattle.qtext.specs.Pieces.{piece_text, pieces_text}
use Rattle.qtext.proofs.Fronts.{ends_refused, partly_next, partly_done}
use Rattle.qtext.proofs.writing.put_pieces.Goals as goal

one_more : (pieces : List Piece) (i : ℕ) (d : Piece) → i < length pieces
    → pieces_text (drop i pieces) ≡ piece_text (get_or pieces i d) ++ pieces_text (drop (i + 1) pieces)
one_more pieces i d lt =
    let cut : drop i pieces ≡ get_or pieces i d ∷ drop (i + 1) pieces = rw add-one (drop-cons pieces i d lt) in
    ap pieces_text cut ∙ flat_map-cons piece_text (get_or pieces i d) (drop (i + 1) pieces)

pub returns-in_err-put_piece : goal.returns-in_err-put_piece
returns-in_err-put_piece g c =
    ends_refused _ _ _ _ _ _ _ _ c.from_residual.ensures.0 c.loop-piece.invariant c.in_err-put_piece.ensures
    (one_more c.args.pieces.now c.loop-piece.piece-index _ c.loop-piece-test.true)

pub loop-piece-preserved : goal.loop-piece-preserved
loop-piece-preserved g c =
    partly_next _ _ _ _ _ _ _ c.loop-piece.invariant c.in_ok-put_piece.ensures
    (one_more c.args.pieces.now c.loop-piece.piece-index _ c.loop-piece-test.true)

ended : (pieces : List Piece) (i : ℕ) → length pieces ≤ i → pieces_text (drop i pieces) ≡ []
ended pieces i le = ap pieces_text (drop_all i pieces le)

pub returns : goal.returns
returns g c = partly_done _ _ _ (rw (ended c.args.pieces.now c.loop-piece.piece-index c.loop-piece-test.false) at c.loop-piece.invariant)
