use Rattle.std.proofs.Common.{◌≡◌, ◌+◌, ◌*◌, ap, arith, take, ◌∙◌}
use Rattle.qtext.proofs.HexPieces.{digits_on}
use Rattle.qtext.proofs.hex_digits.encode.Goals as goal

pub loop-at-preserved : goal.loop-at-preserved
loop-at-preserved c =
    let inv = c.loop-at.invariant in
    let out = c.encode_some.new.out in
    let next : take (2 * (c.loop-at.at + 16)) out ≡ _ = ap (λ n. take n out) (omega arith) ∙ c.encode_some.ensures.digits in (
      omega arith,
      c.encode_some.ensures.len ∙ inv.1,
      digits_on c.args.bytes.now c.loop-at.out out c.loop-at.at 16 inv.2 next,
    )
