use Rattle.qtext.proofs.Fronts.{rows_go_on, rows_refused}
use Rattle.qstore_tree.specs.Listed.{node_entry}
use Rattle.qtext_image_write.specs.Lines.{inode_text}
use Rattle.qtext_image_write.specs.Typed.{HasTypedBlocks}
use Rattle.qtext_image_write.proofs.Typing.{one_more}
use Rattle.qtext_image_write.proofs.inode_text.put_rows.Goals as goal

pub loop-numbered-preserved : goal.loop-numbered-preserved
loop-numbered-preserved g c = record {
  written = rows_go_on _ _ _ (λ e. inode_text (node_entry e)) _ _ c.numbered-item.result _ c.numbered-item.is
      c.loop-numbered.invariant.written c.in_ok-put_node.ensures.writes c.loop-numbered-test.true;
  held = one_more (λ e. HasTypedBlocks (node_entry e).1.file) _ _ c.numbered-item.result _ c.numbered-item.is
      c.loop-numbered-test.true c.in_ok-put_node.ensures.held c.loop-numbered.invariant.held;
}

pub returns-in_err-put_node-clause-writes : goal.returns-in_err-put_node-clause-writes
returns-in_err-put_node-clause-writes g c =
    rows_refused _ _ _ _ (λ e. inode_text (node_entry e)) _ _ c.numbered-item.result _ c.numbered-item.is
    c.from_residual.ensures.0 c.loop-numbered.invariant.written c.in_err-put_node.ensures.writes
    c.loop-numbered-test.true
