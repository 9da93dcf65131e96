use Rattle.std.proofs.Common.{rules}
use Rattle.qtext.proofs.Fronts.{partly_on, partly_then, passes_refused}
use Rattle.qtext.proofs.HexPieces.{first_piece}
use Rattle.qtext.proofs.text_line.TextLine.put_digits.Goals as goal

pub returns-in_err-put_all-clause-passes : goal.returns-in_err-put_all-clause-passes
returns-in_err-put_all-clause-passes g c = passes_refused _ _ _ _ _ _ _ _ _ c.from_residual.ensures.0 c.loop-rest.invariant.written
    (rw (c.digits.ensures.text, c.split_at.ensures.front) at c.in_err-put_all.ensures.passes)
    (first_piece 256 c.loop-rest.self c.loop-rest.rest.now)

pub loop-rest-preserved : goal.loop-rest-preserved
loop-rest-preserved g c = rw c.split_at.ensures.back (record {
  room = search rules;
  written = partly_then _ _ _ _ _ _ (rw (first_piece 256 c.loop-rest.self c.loop-rest.rest.now) at c.loop-rest.invariant.written)
      (partly_on _ _ _ _ _ (rw (c.digits.ensures.text, c.split_at.ensures.front) at c.in_ok-put_all.ensures.passes));
})
