use Rattle.std.proofs.Common.{◌∙◌, sym}
use Rattle.qtext.proofs.Loops.{rest_past}
use Rattle.qtext_expand.proofs.Growing.{comment, next_word, no_word, rest_from}
use Rattle.qtext_expand.proofs.words.friendly_words.Goals as goal

pub returns-then-begins : goal.returns-then-begins
returns-then-begins c =
    comment _ _ _ _ _ (sym c.begins.ensures ∙ c.if-begins.true)
    (rest_from (λ w. w.now) c.args.words.now c.loop-word.word-index _ c.loop-word-test.true) c.loop-word.invariant

pub loop-word-preserved : goal.loop-word-preserved
loop-word-preserved c = rw c.in_ok-put_some.ensures
    (next_word _ _ _ _ _ (sym c.begins.ensures ∙ c.if-begins.false)
    (rest_from (λ w. w.now) c.args.words.now c.loop-word.word-index _ c.loop-word-test.true) c.loop-word.invariant)

pub returns : goal.returns
returns c = no_word _ _ _ (rest_past (λ w. w.now) c.args.words.now c.loop-word.word-index c.loop-word-test.false) c.loop-word.invariant
