use Rattle.std.proofs.Common.{ℕ, ◌-◌, ◌++◌, take, replicate, length, ap, ◌∙◌}
use Rattle.qblocks.specs.File.{resized}
use Rattle.qblocks.proofs.block.Block.resize.Goals as goal

pub returns : goal.returns
unfolding resized
returns c =
    let bytes = c.self.inside.bytes in
    let at = c.args.at in
    c.in-Ok.ensures.items ∙ ap (λ (x : ℕ). take at bytes.items ++ replicate (at - x) 0) bytes.ok.0
    ∙ ap (λ xs. take at xs ++ replicate (at - length xs) 0) c.self.view_is
