-- What is known of the bytes of a file once they were written. No public clause cites this module.
use Rattle.std.specs.Prelude.{All}
use Rattle.qblocks.specs.File.{File}
use Rattle.qplain.specs.Ranges.{AreBytes}
use Rattle.qplain_image.specs.Blocks.{block_in}

-- the bytes of each allocated block have 8 bits
abbrev pub HasTypedBlocks : File → Type 0
HasTypedBlocks file = All (λ k. AreBytes (block_in file k)) file.allocated
