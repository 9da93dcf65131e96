use Rattle.std.proofs.Common.{◌++◌, ◌∷◌, [], ap, flat_map, map, ◌∙◌}
use Rattle.std.proofs.lemmas.List.{map-append}
use Rattle.qstore_tree.specs.Listed.{name_entry}
use Rattle.qstore_tree.specs.Tree.{keyed}
use Rattle.qstore_tree.proofs.Pushed.{placed_end, placed_step}
use Rattle.qstore_tree.proofs.Listed.{entries_borrowed, entry_of_borrowed}
use Rattle.qstore_tree.proofs.names.Names.push_names.Goals as goal

pub loop-name-init : goal.loop-name-init
loop-name-init c =
    ap (λ l. map name_entry c.args.all.now.items ++ l) (ap (flat_map (entry_of_borrowed c.args.dir)) c.deref-name-items.ensures.value
    ∙ entries_borrowed c.args.dir c.in_ok-names.names.items ∙ ap (keyed c.args.dir) c.in_ok-names.ensures)

pub loop-name-preserved : goal.loop-name-preserved
loop-name-preserved c =
    placed_step (entry_of_borrowed c.args.dir) (map name_entry c.loop-name.all.items) (map name_entry c.push.new.self.items) _
    c.deref-name-items.result.now c.loop-name.name-index c.name-item.result c.loop-name-test.true
    (ap (map name_entry) c.in_ok-push.ensures.items ∙ map-append name_entry c.loop-name.all.items _
    ∙ ap (λ b. map name_entry c.loop-name.all.items ++ ((c.args.dir, b), c.name-item.result.1) ∷ []) c.as_str.ensures.value
    ∙ ap (λ n. map name_entry c.loop-name.all.items ++ entry_of_borrowed c.args.dir n) c.name-item.is) c.loop-name.invariant

pub returns : goal.returns
returns c =
    placed_end (entry_of_borrowed c.args.dir) (map name_entry c.loop-name.all.items) _ c.deref-name-items.result.now c.loop-name.name-index
    c.loop-name-test.false c.loop-name.invariant
