use Rattle.std.proofs.Common.{◌≡◌, true, refl, inr, arith}
use Rattle.qtool.proofs.finish.tell_denials.Goals as goal

pub returns : goal.returns
returns g c =
    let strict : c.args.telling.strict ≡ true = grind (arith, c.if-not-telling.false) in
    inr (refl, strict, λ done. absurd (cc (c.are_all_done.ensures.1 done, c.if-are_all_done.false)))
