use Rattle.std.proofs.Common.{◌≡◌, map, drop}
use Rattle.qtext.proofs.Loops.{with_front}
use Rattle.qtext_expand.specs.FriendlyLines.{line_text}
use Rattle.qtext_expand.specs.Plain.{each_judged}
use Rattle.qtext_expand.proofs.line.judged_lines.Given as goal

-- the lines so far, and the calls that are left
abbrev pub invariant-loop-call : goal.invariant-loop-call
invariant-loop-call l =
    with_front (map (λ c. c.items) l.lines.items) (each_judged (map (line_text l.head) (map (λ c. c.items) (drop l.call-index l.calls))))
    ≡ each_judged (map (line_text l.head) (map (λ c. c.items) l.calls))
