use Rattle.std.proofs.Common.{filter, length, nat_le, All}
use Rattle.std.specs.List.{flat_map}
use Rattle.qplain.specs.Ranges.{AreBytes}
use Rattle.qtext.specs.Written.{Partly}
use Rattle.qplain_image.specs.Blocks.{block_in}
use Rattle.qtext_image_write.specs.Lines.{block_text, blocks_text}
use Rattle.qtext_image_write.specs.Typed.{HasTypedBlocks}
use Rattle.qtext_image_write.proofs.block_text.put_blocks.Given as goal

-- what was written and what is still to come: the blocks from the next index on
abbrev pub invariant-loop-index : goal.invariant-loop-index
invariant-loop-index g l = record {
  written : Partly (g.W.Write.contents l.fn.out) (g.W.Write.contents l.out) (blocks_text l.file.file)
      (flat_map (block_text l.file.file) (filter (nat_le l.from) l.file.file.allocated));
  held : All (λ k. AreBytes (block_in l.file.file k)) (filter (nat_le l.from) l.file.file.allocated)
      → HasTypedBlocks l.file.file;
}

abbrev pub decreases-loop-index : goal.decreases-loop-index
decreases-loop-index g l = length (filter (nat_le l.from) l.file.file.allocated)
