use Rattle.std.proofs.Common.{◌≡◌, ◌+◌, ◌%◌, ◌^◌, eqb, sym, ap, subst, ◌∙◌, arith, w8, eq-eqb, true-eqb}
use Rattle.std.proofs.lemmas.Simd.{tops_compared, length-chunk, length-zip2, mask_l-mod}
use lib.Lanes.{chunk, mask_l, zip2}
use Rattle.qlanes.proofs.SameBytes.{full_is_same, same_is_full}
use Rattle.qlanes.proofs.same_bytes.are_8_same.Goals as goal

pub returns : goal.returns
returns c =
    let v = chunk c.args.at 8 c.args.one.now in
    let w = chunk c.args.at 8 c.args.other.now in
    let long = length-chunk c.args.at 8 c.args.one.now c.requires.one in
    let as_long = length-chunk c.args.at 8 c.args.other.now c.requires.other in
    let mask = ap (λ ms. mask_l ms % 2 ^ 64) (tops_compared w8 eqb v w)
    ∙ mask_l-mod (zip2 eqb v w) 64 (omega (arith, length-zip2 eqb v w (long ∙ sym as_long), long)) in (
      λ is. full_is_same v w (long ∙ sym as_long) (omega (arith, ap (λ n. 2 ^ n) long, mask, true-eqb _ _ (sym is))),
      λ same. eq-eqb _ _ (mask ∙ omega (arith, subst (λ u. mask_l (zip2 eqb v u) + 1 ≡ 2 ^ 8) same (same_is_full v ∙ ap (λ n. 2 ^ n) long))),
    )
