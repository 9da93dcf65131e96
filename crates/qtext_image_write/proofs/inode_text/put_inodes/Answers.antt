use Rattle.std.proofs.Common.{sym}
use Rattle.std.proofs.lemmas.Result.{IfOk-weaker}
use Rattle.std.proofs.lemmas.List.Folds.{flat_map-map}
use Rattle.qstore_tree.specs.Listed.{node_entry}
use Rattle.qtext_image_write.specs.Lines.{inode_text}
use Rattle.qtext_image_write.specs.Typed.{HasTypedBlocks}
use Rattle.qtext_image_write.proofs.Typing.{known_of_all}
use Rattle.qtext_image_write.proofs.inode_text.put_inodes.Goals as goal

pub returns-in-Ok-clause-writes : goal.returns-in-Ok-clause-writes
returns-in-Ok-clause-writes g c =
    rw (c.deref.ensures.value, sym (flat_map-map inode_text node_entry c.in-Ok.nodes.items), c.in-Ok.ensures.nodes)
    at c.put_rows.ensures.writes

pub returns-in-Ok-clause-held : goal.returns-in-Ok-clause-held
returns-in-Ok-clause-held g c = IfOk-weaker c.put_rows.result _ _
    (λ _ all. known_of_all node_entry (λ e. HasTypedBlocks e.1.file) c.in-Ok.nodes.items _ c.in-Ok.ensures.nodes
    (rw c.deref.ensures.value at all)) c.put_rows.ensures.held
