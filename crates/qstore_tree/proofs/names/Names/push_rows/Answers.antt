use Rattle.std.proofs.Common.{◌++◌, ap, flat_map, map, ◌∙◌}
use Rattle.qstore_tree.specs.Names.{name_row}
use Rattle.qstore_tree.proofs.Pushed.{placed_end, placed_step}
use Rattle.qstore_tree.proofs.Rows.{row_of_borrowed, rows_borrowed}
use Rattle.qstore_tree.proofs.names.Names.push_rows.Goals as goal

pub loop-name-init : goal.loop-name-init
loop-name-init c =
    ap (λ l. c.args.rows.now.items ++ l) (ap (flat_map (row_of_borrowed c.args.dir)) c.deref-name-items.ensures.value
    ∙ rows_borrowed c.args.dir c.in_ok-names.names.items ∙ ap (map (name_row c.args.dir)) c.in_ok-names.ensures)

pub loop-name-preserved : goal.loop-name-preserved
loop-name-preserved c =
    placed_step (row_of_borrowed c.args.dir) c.loop-name.rows.items c.push.new.self.items _ c.deref-name-items.result.now c.loop-name.name-index
    c.name-item.result c.loop-name-test.true
    (c.in_ok-push.ensures.items ∙ ap (λ n. c.loop-name.rows.items ++ row_of_borrowed c.args.dir n) c.name-item.is) c.loop-name.invariant

pub returns : goal.returns
returns c =
    placed_end (row_of_borrowed c.args.dir) c.loop-name.rows.items _ c.deref-name-items.result.now c.loop-name.name-index
    c.loop-name-test.false c.loop-name.invariant
