use Rattle.std.proofs.Common.{ap, map}
use Rattle.std.proofs.lemmas.List.{map-append}
use Rattle.std.proofs.lemmas.Result.{err_from_is_err_and}
use Rattle.qtext.proofs.Loops.{ends_at, goes_on, is_done, rest_at, rest_past}
use Rattle.qtext_expand.specs.FriendlyLines.{line_text}
use Rattle.qtext_expand.specs.Plain.{judged}
use Rattle.qtext_expand.proofs.line.judged_lines.Goals as goal

pub returns-in_err-judged_line : goal.returns-in_err-judged_line
returns-in_err-judged_line c =
    let fault = err_from_is_err_and c.from_residual.result c.from_residual.ensures.1 in
    let rest = ap (map (line_text c.args.head.now))
    (rest_at (λ c. c.items) c.args.calls.now c.loop-call.call-index c.call-item.result c.loop-call-test.true c.call-item.is) in
    rw (fault.1, fault.2) (ends_at judged _ _ _ _ _ _ (rw c.deref.ensures.value at c.in_err-judged_line.ensures) rest c.loop-call.invariant)

pub loop-call-preserved : goal.loop-call-preserved
loop-call-preserved c =
    let rest = ap (map (line_text c.args.head.now))
    (rest_at (λ c. c.items) c.args.calls.now c.loop-call.call-index c.call-item.result c.loop-call-test.true c.call-item.is) in
    rw (c.in_ok-push.ensures.items, map-append _ _ _)
    (goes_on judged _ _ _ _ _ _ (rw c.deref.ensures.value at c.in_ok-judged_line.ensures) rest c.loop-call.invariant)

pub returns : goal.returns
returns c = is_done judged _ _ _
    (ap (map (line_text c.args.head.now)) (rest_past (λ c. c.items) c.args.calls.now c.loop-call.call-index c.loop-call-test.false))
    c.loop-call.invariant
