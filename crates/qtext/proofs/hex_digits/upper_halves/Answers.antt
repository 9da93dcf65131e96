use Rattle.std.proofs.Common.{◌≡◌, ◌/◌, ◌%◌, ◌^◌, slice_index, ap, ◌∙◌}
use Rattle.std.proofs.lemmas.Simd.{zip2_splat}
use Rattle.qtext.proofs.DigitLanes.{upper_lanes}
use Rattle.qtext.proofs.hex_digits.upper_halves.Goals as goal

pub returns : goal.returns
returns c =
    let v = c.args.bytes in
    let ps = c.pairs_of.result in
    let shifted = zip2_splat _ ps 8 4 c.pairs_of.ensures.len in
    c.lower_halves.ensures
    ∙ upper_lanes v ps c.bytes_of.result c.fits-bytes.0 c.fits-bytes.1 c.pairs_of.ensures.len c.pairs_of.ensures.pairs
    (λ j i low within. c.bytes_of.ensures.parts j i low within ∙ ap (λ xs. slice_index xs j / 256 ^ i % 256) shifted) c.bytes_of.ensures.len
