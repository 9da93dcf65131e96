use Rattle.std.proofs.Common.{◌≡◌, arith, sym}
use Rattle.std.proofs.lemmas.List.{map-append}
use Rattle.qtext_expand.proofs.Growing.{few_pieces, no_pieces, pieces_more, too_many_pieces}
use Rattle.qtext_expand.proofs.fill.pieces_of.Goals as goal

pub returns-then-pieces : goal.returns-then-pieces
returns-then-pieces c = too_many_pieces _ _ _ _ _ c.pieces_in-pieces.ensures c.if-pieces.true

pub loop-i-init : goal.loop-i-init
loop-i-init c = rw c.new-calls.ensures.items (sym (no_pieces _ _ _ _))

pub loop-i-preserved : goal.loop-i-preserved
loop-i-preserved c =
    rw (c.in_ok-push.ensures.items, map-append _ _ _, c.loop-i.invariant, c.in_ok-piece_call.ensures)
    (sym (pieces_more c.args.filled.path.now c.args.filled.byte.now c.args.filled.off c.args.filled.count c.loop-i.i))

pub returns : goal.returns
returns c =
    let all : c.pieces_in-pieces.result ≡ c.loop-i.i = omega (arith, c.loop-i.auto.i-end, c.loop-i-test.false) in
    rw c.loop-i.invariant (rw all at (few_pieces c.args.filled.path.now c.args.filled.byte.now c.args.filled.off c.args.filled.count
    c.pieces_in-pieces.result c.pieces_in-pieces.ensures c.if-pieces.false))
