use Rattle.std.proofs.Common.{ℕ, List, ◌++◌, length, slice_index, sym, ap, ◌∙◌, subst, arith}
use Rattle.qblocks.specs.Input.{input_bytes}
use Rattle.qblocks.specs.Row.{Overwrites}
use Rattle.qblocks.proofs.Bytes.{Overwrites-end, length-resized}
use Rattle.qblocks.proofs.block.Block.extend.Goals as goal

pub append-requires : goal.append-requires
append-requires c = omega (arith, ap {B = ℕ} length c.resize.ensures, length-resized c.args.self.now c.args.at, c.requires.fits)

pub returns : goal.returns
returns c =
    let old = c.args.self.now in
    let input = input_bytes c.args.input in
    let Written : List ℕ → Type 0 = λ new. Overwrites (slice_index old) (slice_index new) c.args.at input in
    subst Written (sym (c.append.ensures ∙ ap (λ xs. xs ++ input) c.resize.ensures))
    (Overwrites-end old c.args.at input c.requires.behind)
