use Rattle.std.proofs.Common.{◌≡◌, ◌++◌, flat_map, map, subst, sym, ◌∙◌, IsPermutation}
use Rattle.std.specs.List.Sorted.{IsStrictlySortedBy}
use Rattle.std.specs.Map.{keys_of}
use Rattle.qplain.specs.State.{name_key_cmp}
use Rattle.qstore_tree.specs.Tree.{RoomyTree, name_row_of}
use Rattle.qstore_tree.proofs.AllNames.{named-by_key}
use Rattle.qstore_tree.proofs.Rows.{names_end, names_step, nodes_rows, rows_in}
use Rattle.qstore_tree.proofs.tree.Tree.name_rows_unordered.Goals as goal

pub loop-number-init : goal.loop-number-init
loop-number-init c =
    let nodes = c.self.inside.nodes.entries in
    let start : c.into_iter-number-iterator.result ≡ nodes = c.into_iter-number-iterator.ensures.into_iter_gives ∙ c.iter-number-items.ensures.rest in
    subst (IsPermutation (map name_row_of c.args.self.now.names)) (λ i. sym c.new-rows.ensures.items i ++ flat_map rows_in (sym start i))
    (subst (λ (t : RoomyTree). IsPermutation (map name_row_of t.names) (flat_map rows_in nodes)) c.self.view_is
    (nodes_rows nodes c.iter-number-items.ensures.unique))

pub loop-number-preserved : goal.loop-number-preserved
loop-number-preserved c =
    names_step c.loop-number.rows.items c.push_names_unordered.new.rows.items _ c.loop-number.number-iterator _
    (c.in-Some.number.now, c.in-Some.node.now) c.in-Some.ensures.steps c.in_ok-push_names_unordered.ensures c.loop-number.invariant

pub returns-clause-rows : goal.returns-clause-rows
returns-clause-rows c = names_end c.loop-number.rows.items _ c.loop-number.number-iterator c.in-None.ensures.steps.0 c.loop-number.invariant

pub returns-clause-each_once : goal.returns-clause-each_once
returns-clause-each_once c =
    subst (λ (t : RoomyTree). IsStrictlySortedBy name_key_cmp (keys_of t.names)) c.self.view_is (named-by_key c.self.inside.nodes.entries)
