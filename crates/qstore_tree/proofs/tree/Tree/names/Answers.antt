use Rattle.std.proofs.Common.{◌++◌, ap, flat_map, map, ◌∙◌}
use Rattle.qstore_tree.specs.Listed.{name_entry}
use Rattle.qstore_tree.proofs.Pushed.{placed_end, placed_step}
use Rattle.qstore_tree.proofs.Listed.{entries_under, entries_under-each}
use Rattle.qstore_tree.proofs.tree.Tree.names.Goals as goal

pub loop-dir-init : goal.loop-dir-init
loop-dir-init c =
    (λ i. map name_entry (c.new-all.ensures.items i) ++ flat_map entries_under (c.deref-dir-items.ensures.value i))
    ∙ entries_under-each c.in_ok-directories.directories.items ∙ c.in_ok-directories.ensures.names

pub loop-dir-preserved : goal.loop-dir-preserved
loop-dir-preserved c =
    placed_step entries_under (map name_entry c.loop-dir.all.items) (map name_entry c.push_names.new.all.items) _ c.deref-dir-items.result.now
    c.loop-dir.dir-index c.loop-dir-item.result c.loop-dir-test.true
    (c.in_ok-push_names.ensures ∙ ap (λ d. map name_entry c.loop-dir.all.items ++ entries_under d) c.loop-dir-item.is) c.loop-dir.invariant

pub returns-clause-names : goal.returns-clause-names
returns-clause-names c =
    placed_end entries_under (map name_entry c.loop-dir.all.items) _ c.deref-dir-items.result.now c.loop-dir.dir-index c.loop-dir-test.false
    c.loop-dir.invariant
