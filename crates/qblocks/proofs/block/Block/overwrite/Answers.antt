use Rattle.std.proofs.Common.{ℕ, length, ap, arith}
use Rattle.qblocks.proofs.block.Block.overwrite.Goals as goal

pub extend-requires-clause-behind : goal.extend-requires-clause-behind
extend-requires-clause-behind c =
    omega (
      arith,
      ap {B = ℕ} length c.self.view_is,
      c.self.inside.bytes.ok.0,
      c.if-end-len.false,
      c.len.ensures,
      c.len-2.ensures,
    )
