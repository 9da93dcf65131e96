use Rattle.std.proofs.Common.{◌≡◌, ◌++◌, map, take}
use Rattle.qtext_expand.specs.FriendlyWords.{ended}
use Rattle.qtext_expand.proofs.expansion.put_ended.Given as goal

abbrev pub invariant-loop-line : goal.invariant-loop-line
invariant-loop-line l = l.text.items ≡ l.fn.text.items ++ ended (map (λ c. c.items) (take l.line-index l.lines))
