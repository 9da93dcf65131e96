use Rattle.std.proofs.Common.{◌≡◌, ◌*◌, ◌∙◌, ap, arith, length, subst, sym}
use Rattle.qtext.specs.Digits.{Decodes}
use Rattle.qtext.proofs.Decoding.{all_read}
use Rattle.qtext.proofs.hex_bytes.decode_into.Goals as goal

pub returns-clause-bytes : goal.returns-clause-bytes
returns-clause-bytes c ok =
    let word = c.args.word.now in
    let parts = c.split_at_mut-room.ensures in
    let at = c.decode_whole-at.result in
    let whole = c.decode_whole-at.ensures in
    (all_read word c.split_at_mut-room.result.0.now c.split_at.result.1.now c.decode_to_slice.new.out at (length c.split_at_mut-room.result.1.now)
    (omega (arith, c.requires)) c.split_at.ensures.back (omega (arith, c.split_at.ensures.back_len, parts.back_len, c.requires, whole.len, whole.within))
    (subst (λ xs. Decodes word xs at) (sym parts.front) whole.bytes) c.decode_to_slice.result c.decode_to_slice.ensures.value).0
    (sym c.is_ok.ensures.value ∙ ok)

pub returns-clause-fault : goal.returns-clause-fault
returns-clause-fault c bad =
    let word = c.args.word.now in
    let parts = c.split_at_mut-room.ensures in
    let at = c.decode_whole-at.result in
    let whole = c.decode_whole-at.ensures in
    (all_read word c.split_at_mut-room.result.0.now c.split_at.result.1.now c.decode_to_slice.new.out at (length c.split_at_mut-room.result.1.now)
    (omega (arith, c.requires)) c.split_at.ensures.back (omega (arith, c.split_at.ensures.back_len, parts.back_len, c.requires, whole.len, whole.within))
    (subst (λ xs. Decodes word xs at) (sym parts.front) whole.bytes) c.decode_to_slice.result c.decode_to_slice.ensures.value).1
    (sym c.is_ok.ensures.value ∙ bad)
