use Rattle.std.proofs.Common.{drop}
use Rattle.std.specs.List.{AllByRecursion, flat_map}
use Rattle.qtext.specs.Written.{Partly}
use Rattle.qstore_tree.specs.Listed.{node_entry}
use Rattle.qtext_image_write.specs.Lines.{inode_text}
use Rattle.qtext_image_write.specs.Typed.{HasTypedBlocks}
use Rattle.qtext_image_write.proofs.inode_text.put_rows.Given as goal

-- what was written and what is still to come
abbrev pub invariant-loop-numbered : goal.invariant-loop-numbered
invariant-loop-numbered g l = record {
  written : Partly (g.W.Write.contents l.fn.out) (g.W.Write.contents l.out)
      (flat_map (λ e. inode_text (node_entry e)) l.nodes)
      (flat_map (λ e. inode_text (node_entry e)) (drop l.numbered-index l.nodes));
  held : AllByRecursion (λ e. HasTypedBlocks (node_entry e).1.file) (drop l.numbered-index l.nodes)
      → AllByRecursion (λ e. HasTypedBlocks (node_entry e).1.file) l.nodes;
}
