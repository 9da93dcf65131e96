use Rattle.qtext.proofs.Fronts.{partly_on, passes_all, passes_then}
use Rattle.qtext.proofs.text_line.TextLine.put_word.Goals as goal

pub returns-clause-passes : goal.returns-clause-passes
returns-clause-passes g c = rw c.in_ok-put_all.ensures.none
    (passes_then _ _ _ _ _ _ _ (partly_on _ _ _ _ _ (rw c.in_ok-put_all.ensures.none at c.in_ok-put_all.ensures.passes))
    (passes_all _ _ _ _ c.put.ensures))
