use Rattle.std.proofs.Common.{◌+◌, ◌==◌, ◌∙◌, add-zero, ap, arith, eq-eqb, ne_eqb, sym}
use Rattle.std.proofs.lemmas.List.Filters.{length-filter_more}
use Rattle.qtext_outcome.specs.Denials.{denial_number}
use Rattle.qtext_outcome.proofs.denials.denied_in.Goals.{then-denial_number-number, else-denial_number-number}
use Rattle.qtext_outcome.proofs.denials.denied_in.Goals as goal

pub loop-at-preserved : goal.loop-at-preserved
loop-at-preserved c =
    let at = c.loop-at.at in
    let told = c.args.transcript.now.answers in
    let more = length-filter_more (λ answer. denial_number answer == c.args.number) told at c.answer.result
    (omega (arith, c.len-at-end.ensures.answers, c.loop-at-test.true)) in
    let counted = rw (← c.answer.ensures c.answer.result, ← c.denial_number.ensures) at more in
    elim c.if-denial_number-number.branch [
      | then-denial_number-number w ↦
          let same = eq-eqb c.denial_number.result c.args.number w.if-denial_number-number.true in
          record {
            counted = w.count-is ∙ ap (λ n. n + 1) c.loop-at.invariant.counted ∙ sym (rw (same) at counted);
            small = omega (arith, w.count-is, c.loop-at.invariant.small);
          }
      | else-denial_number-number w ↦
          let other = ne_eqb c.denial_number.result c.args.number w.if-denial_number-number.false in
          record {
            counted = w.count-is ∙ c.loop-at.invariant.counted ∙ sym (rw (other, add-zero) at counted);
            small = omega (arith, w.count-is, c.loop-at.invariant.small);
          }
    ]
