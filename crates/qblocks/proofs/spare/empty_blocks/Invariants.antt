use Rattle.std.proofs.Common.{◌≡◌, [], vec_len, All}
use Rattle.qblocks.proofs.spare.empty_blocks.Given as goal

abbrev pub invariant-loop-made : goal.invariant-loop-made
invariant-loop-made l = record {
  len : vec_len l.blocks ≡ l._made;
  empty : All (λ block. block ≡ []) l.blocks.items;
}
