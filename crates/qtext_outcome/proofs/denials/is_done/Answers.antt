use Rattle.std.proofs.Common.{◌≡◌, ◌∙◌, All, ap, arith, refl, subst, sym}
use Rattle.std.proofs.lemmas.List.{take_all}
use Rattle.std.proofs.lemmas.List.Elements.{All-more}
use Rattle.qtext_outcome.specs.Denials.{denial_number}
use Rattle.qtext_outcome.proofs.denials.is_done.Goals as goal

pub loop-at-preserved : goal.loop-at-preserved
loop-at-preserved c =
    All-more (λ answer. denial_number answer ≡ 0) c.args.transcript.now.answers c.loop-at.at c.answer.result
    (omega (arith, c.len-at-end.ensures.answers, c.loop-at-test.true)) c.loop-at.invariant
    (ap denial_number (sym (c.answer.ensures c.answer.result)) ∙ sym c.denial_number.ensures ∙ c.if-denial_number-ne0.false)

pub returns : goal.returns
returns c =
    let told = c.args.transcript.now.answers in
    let done = subst (All (λ answer. denial_number answer ≡ 0))
    (take_all c.loop-at.at told (omega (arith, c.len-at-end.ensures.answers, c.loop-at-test.false))) c.loop-at.invariant in
    (λ _. done, λ _. refl)
