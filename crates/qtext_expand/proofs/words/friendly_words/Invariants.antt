use Rattle.std.proofs.Common.{◌≡◌, ◌++◌, map, drop}
use Rattle.qtext_expand.specs.FriendlyWords.{friendly_words}
use Rattle.qtext_expand.proofs.words.friendly_words.Given as goal

-- the words so far, and those that are left
abbrev pub invariant-loop-word : goal.invariant-loop-word
invariant-loop-word l = map (λ w. w.now) l.said.items ++ friendly_words (map (λ w. w.now) (drop l.word-index l.words))
    ≡ friendly_words (map (λ w. w.now) l.words)
