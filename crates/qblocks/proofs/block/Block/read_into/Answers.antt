use Rattle.std.proofs.Common.{ℕ, ◌-◌, length, drop, take, ◌++◌, slice_index, map, ap, ◌∙◌, arith, length-append, length-drop, length-take, length-take-le, ◌≡◌}
use Rattle.std.specs.List.{range_with_len}
use Rattle.qblocks.proofs.Reading.{fills-past}
use Rattle.qblocks.proofs.block.Block.read_into.Goals as goal

pub returns : goal.returns
returns c =
    let out = c.args.out.now in
    let bytes = c.deref.result.now in
    let from = c.min-from.result in
    let to = c.min-to.result in
    let k = to - from in
    let part = c.copy_from_slice.new.self in
    let mid = part ++ drop k out in
    let long = ap {B = ℕ} length c.deref.ensures.value in
    let piece : length part ≡ k = ap {B = ℕ} length c.copy_from_slice.ensures.after ∙ length-take-le k (drop from bytes)
    (omega (arith, length-drop from bytes, long, c.self.inside.bytes.ok.0, c.min-to.ensures, c.len-2.ensures)) in
    let known = c.self.inside.bytes.ok.0 in
    let behind = length-take (length mid - k) (drop k mid) in
    let whole = length-append part (drop k out) in
    let rest = length-drop k out in
    fills-past bytes out part c.fill.new.self c.args.at from to (length (take (length mid - k) (drop k mid)))
    (length mid - k)
    (omega (arith, long, known, c.min-from.ensures, c.len.ensures))
    (omega (arith, long, known, c.min-to.ensures, c.len-2.ensures))
    c.copy_from_slice.ensures.after (c.fill.ensures.after (λ y e. e))
    (omega (arith, behind, length-drop k mid, whole, rest, piece, c.min-from.ensures, c.min-to.ensures, c.len-2.ensures))
    (omega (arith, whole, rest, piece, c.min-from.ensures, c.min-to.ensures))
    ∙ ap (λ xs. map (slice_index xs) (range_with_len c.args.at (length out))) (c.deref.ensures.value ∙ c.self.view_is)
