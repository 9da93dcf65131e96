use Rattle.std.proofs.Common.{◌*◌, refl, arith}
use Rattle.qtext.proofs.ByteLanes.{are_digits, bytes_stand}
use Rattle.qtext.proofs.hex_bytes.decode_some.Goals as goal

pub returns-clause-digits : goal.returns-clause-digits
returns-clause-digits c granted =
    are_digits c.args.word.now (2 * c.args.at) (omega arith) c.values_of-uppers.result c.values_of-lowers.result c.values_of-uppers.ensures
    c.values_of-lowers.ensures (c.if-not-are_values.ensures refl) (c.if-not-are_values-2.ensures refl)

pub returns-clause-bytes : goal.returns-clause-bytes
returns-clause-bytes c granted =
    bytes_stand c.args.word.now (2 * c.args.at) (omega arith) c.values_of-uppers.result c.values_of-lowers.result c.values_of-uppers.ensures
    c.values_of-lowers.ensures c.args.out.now c.joined.result c.args.at c.joined.ensures.bytes c.joined.ensures.len (omega arith)
