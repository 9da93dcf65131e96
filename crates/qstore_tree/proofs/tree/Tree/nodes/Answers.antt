use Rattle.std.proofs.Common.{◌≡◌, ℕ, Bor, ◌++◌, ◌∷◌, [], ap, map, rules, subst, sym, ◌∙◌, IsPermutation}
use Rattle.std.specs.List.Sorted.{IsStrictlySortedBy}
use Rattle.std.specs.Map.{keys_of}
use Rattle.std.specs.Ordering.{nat_cmp}
use Rattle.std.proofs.lemmas.List.{map-append}
use Rattle.std.proofs.lemmas.List.Sorted.{IsNonDecreasingBy-from_sort_by_key}
use Rattle.qstore_tree.specs.declared.node.Node.{Node}
use Rattle.qstore_tree.specs.Listed.{node_entry}
use Rattle.qstore_tree.specs.Nodes.{inode_of}
use Rattle.qstore_tree.specs.Tree.{RoomyTree}
use Rattle.qstore_tree.proofs.Listed.{nodes-in_order}
use Rattle.qstore_tree.proofs.Numbered.{seen-by_number}
use Rattle.qstore_tree.proofs.Pushed.{shuffled_end, shuffled_step}
use Rattle.qstore_tree.proofs.Rows.{nodes_seen, seen}
use Rattle.qstore_tree.proofs.tree.Tree.nodes.Goals as goal

pub loop-number-init : goal.loop-number-init
loop-number-init c =
    let nodes = c.self.inside.nodes.entries in
    let start : c.into_iter-number-iterator.result ≡ nodes =
    c.into_iter-number-iterator.ensures.into_iter_gives ∙ c.iter-number-items.ensures.rest in
    subst (IsPermutation c.args.self.now.inodes)
    (λ i. map node_entry (sym c.in_ok-nodes.ensures.items i) ++ map seen (sym start i))
    (subst (λ (t : RoomyTree). IsPermutation t.inodes (map seen nodes)) c.self.view_is
    (nodes_seen nodes c.iter-number-items.ensures.unique))

pub loop-number-preserved : goal.loop-number-preserved
loop-number-preserved c =
    let pushed = ap (map node_entry) c.in_ok-push.ensures.items
    ∙ map-append node_entry c.loop-number.nodes.items ((c.in-Some.number.now, c.in-Some.node) ∷ []) in
    shuffled_step seen (map node_entry c.loop-number.nodes.items) (map node_entry c.push.new.self.items) _
    c.loop-number.number-iterator _ _ c.in-Some.ensures.steps pushed c.loop-number.invariant

pub returns-clause-by_number : goal.returns-clause-by_number
returns-clause-by_number c =
    subst (λ (t : RoomyTree). IsStrictlySortedBy nat_cmp (keys_of t.inodes)) c.self.view_is
    (seen-by_number inode_of c.self.inside.nodes.entries)

pub returns-clause-nodes : goal.returns-clause-nodes
returns-clause-nodes c =
    let sorted = c.sort_unstable_by_key.new.self.items in
    nodes-in_order c.args.self.now.inodes c.loop-number.nodes.items sorted
    (shuffled_end seen (map node_entry c.loop-number.nodes.items) c.args.self.now.inodes c.loop-number.number-iterator
    c.in-None.ensures.steps.0 c.loop-number.invariant)
    c.sort_unstable_by_key.ensures.permutation (returns-clause-by_number c)
    (IsNonDecreasingBy-from_sort_by_key (λ (e : ℕ × Bor Node). e.0) sorted
    c.sort_unstable_by_key.ensures.sorted (λ a r q k. search rules))
