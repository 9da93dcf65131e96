use Rattle.std.proofs.Common.{◌≡◌, ◌++◌, map, take}
use Rattle.qtext_expand.specs.FriendlyWords.{spaced}
use Rattle.qtext_expand.proofs.words.put_words.Given as goal

abbrev pub invariant-loop-word : goal.invariant-loop-word
invariant-loop-word l = l.text.items ≡ l.fn.text.items ++ spaced (map (λ w. w.now) (take l.word-index l.words))
