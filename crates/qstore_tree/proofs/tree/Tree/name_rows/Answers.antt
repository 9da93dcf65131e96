use Rattle.std.proofs.Common.{◌++◌, ap, flat_map, map, ◌∙◌}
use Rattle.qstore_tree.specs.Tree.{name_row_of}
use Rattle.qstore_tree.proofs.Pushed.{placed_end, placed_step}
use Rattle.qstore_tree.proofs.Rows.{rows_under, rows_under-each}
use Rattle.qstore_tree.proofs.tree.Tree.name_rows.Goals as goal

pub loop-dir-init : goal.loop-dir-init
loop-dir-init c =
    (λ i. c.new-rows.ensures.items i ++ flat_map rows_under (c.deref-dir-items.ensures.value i))
    ∙ rows_under-each c.in_ok-directories.directories.items ∙ ap (map name_row_of) c.in_ok-directories.ensures.names

pub loop-dir-preserved : goal.loop-dir-preserved
loop-dir-preserved c =
    placed_step rows_under c.loop-dir.rows.items c.push_rows.new.rows.items _ c.deref-dir-items.result.now c.loop-dir.dir-index
    c.loop-dir-item.result c.loop-dir-test.true
    (c.in_ok-push_rows.ensures ∙ ap (λ d. c.loop-dir.rows.items ++ rows_under d) c.loop-dir-item.is) c.loop-dir.invariant

pub returns-clause-rows : goal.returns-clause-rows
returns-clause-rows c =
    placed_end rows_under c.loop-dir.rows.items _ c.deref-dir-items.result.now c.loop-dir.dir-index c.loop-dir-test.false c.loop-dir.invariant
