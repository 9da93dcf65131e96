use Rattle.std.proofs.Common.{eqb, sym, arith, eq-eqb}
use Rattle.std.proofs.lemmas.List.Sums.{position_or_len_is}
use Rattle.qlanes.proofs.places.first_of_few.Goals as goal

pub returns-else-bytes-at : goal.returns-else-bytes-at
returns-else-bytes-at c =
    let l = c.loop-at in
    sym (position_or_len_is (λ b. eqb b c.args.byte) c.args.bytes.now l.at 0 l.invariant.within l.invariant.passed
    (λ _. eq-eqb _ _ c.if-bytes-at.false))

pub returns-after-loop-at : goal.returns-after-loop-at
returns-after-loop-at c =
    let l = c.loop-at in
    sym (position_or_len_is (λ b. eqb b c.args.byte) c.args.bytes.now l.at 0 l.invariant.within l.invariant.passed
    (λ inside. absurd (omega (arith, inside))))
