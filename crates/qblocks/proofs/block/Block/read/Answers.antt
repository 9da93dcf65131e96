use Rattle.std.proofs.Common.{ℕ, ◌+◌, ◌++◌, length, slice_index, map, ap, ◌∙◌, arith}
use Rattle.std.specs.List.{range_with_len}
use Rattle.qblocks.proofs.Reading.{reads-padded}
use Rattle.qblocks.proofs.block.Block.read.Goals as goal

pub returns : goal.returns
returns c =
    let old = c.args.out.now in
    let mid = c.extend_from_slice.new.self in
    let bytes = c.deref.result.now in
    let long = ap {B = ℕ} length c.deref.ensures.value in
    let known = c.self.inside.bytes.ok.0 in
    reads-padded bytes old.items mid.items c.resize.new.self.items c.args.at c.args.len c.min-from.result
    c.min-to.result (c.len.result + c.args.len) mid.len
    (omega (arith, long, known, c.min-from.ensures, c.len-2.ensures))
    (omega (arith, long, known, c.min-to.ensures, c.len-3.ensures))
    c.in_ok-extend_from_slice.ensures.items c.in_ok-resize.ensures.items mid.ok.0
    (omega (arith, c.len.ensures, old.ok.0))
    ∙ ap (λ xs. old.items ++ map (slice_index xs) (range_with_len c.args.at c.args.len)) (c.deref.ensures.value ∙ c.self.view_is)
