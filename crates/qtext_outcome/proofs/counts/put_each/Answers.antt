use Rattle.std.proofs.Common.{refl}
use Rattle.qtext.proofs.Fronts.{rows_end, rows_go_on, rows_refused}
use Rattle.qtext_outcome.proofs.CountedLines.{one_count}
use Rattle.qtext_outcome.proofs.counts.put_each.Goals as goal

pub loop-words-preserved : goal.loop-words-preserved
loop-words-preserved g c =
    rows_go_on _ _ _ one_count _ _ _ _ refl c.loop-words.invariant c.in_ok-put_pieces.ensures c.loop-words-test.true

pub returns-in_err-put_pieces : goal.returns-in_err-put_pieces
returns-in_err-put_pieces g c =
    rows_refused _ _ _ _ one_count _ _ _ _ refl c.from_residual.ensures.0 c.loop-words.invariant
    c.in_err-put_pieces.ensures c.loop-words-test.true

pub returns : goal.returns
returns g c = rows_end _ _ one_count _ _ c.loop-words.invariant c.loop-words-test.false
