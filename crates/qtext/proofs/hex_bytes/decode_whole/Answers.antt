use Rattle.std.proofs.Common.{◌+◌, ap, refl, subst, sym, take, arith, ◌∙◌}
use Rattle.qtext.specs.Digits.{Decodes}
use Rattle.qtext.proofs.Decoding.{more_read, none_read}
use Rattle.qtext.proofs.hex_bytes.decode_whole.Goals as goal

pub loop-at-init : goal.loop-at-init
loop-at-init c = (omega arith, c.requires, refl, none_read c.args.word.now c.args.out.now)

pub returns-then-not-decode_some-clause-bytes : goal.returns-then-not-decode_some-clause-bytes
returns-then-not-decode_some-clause-bytes c =
    let inv = c.loop-at.invariant in
    let same = c.decode_some.ensures.kept c.if-not-decode_some.true in
    subst (λ xs. Decodes c.args.word.now (take c.loop-at.at xs) c.loop-at.at) (sym same) inv.3

pub loop-at-preserved : goal.loop-at-preserved
loop-at-preserved c =
    let inv = c.loop-at.invariant in
    let granted = c.if-not-decode_some.false in (
      omega (arith, c.decode_some.ensures.len, inv.1, inv.0),
      omega (arith, c.decode_some.ensures.len, inv.1),
      c.decode_some.ensures.len ∙ inv.2,
      more_read c.args.word.now c.loop-at.out c.decode_some.new.out c.loop-at.at (omega arith) inv.3 (c.decode_some.ensures.digits granted)
          (c.decode_some.ensures.bytes granted),
    )
