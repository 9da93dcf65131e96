use Rattle.std.proofs.Common.{◌≡◌, ℕ, [], ◌++◌, ◌∷◌, List, ap, map, rules, subst, sym, ◌∙◌, IsPermutation}
use Rattle.std.specs.List.{All}
use Rattle.std.specs.List.Sorted.{IsStrictlySortedBy}
use Rattle.std.specs.Map.{keys_of}
use Rattle.std.specs.Ordering.{nat_cmp}
use Rattle.std.proofs.lemmas.List.Elements.{All-head, All-tail}
use Rattle.std.proofs.lemmas.List.Sorted.{IsNonDecreasingBy-from_sort_by_key, IsPermutation-trans}
use Rattle.qrules.specs.declared.inode_row.InodeRow.{InodeRow}
use Rattle.qplain.specs.State.{Inode}
use Rattle.qstore_tree.specs.Nodes.{inode_of}
use Rattle.qstore_tree.specs.Tree.{RoomyTree, kept_row}
use Rattle.qstore_tree.proofs.Numbered.{seen-by_number}
use Rattle.qstore_tree.proofs.Pushed.{shuffled_end, shuffled_step}
use Rattle.qstore_tree.proofs.Rows.{HasFewBlocks, nodes_few, nodes_kept, numbers_kept, row_of, seen}
use Rattle.qstore_tree.proofs.Shuffled.{rows-in_order}
use Rattle.qstore_tree.proofs.tree.Tree.inode_rows.Goals as goal

pub loop-number-init : goal.loop-number-init
loop-number-init c =
    let nodes = c.self.inside.nodes.entries in
    let apart = c.iter-number-items.ensures.unique in
    let start : c.into_iter-number-iterator.result ≡ nodes = c.into_iter-number-iterator.ensures.into_iter_gives ∙ c.iter-number-items.ensures.rest in
    record {
      rows =
          subst (IsPermutation (map (kept_row c.args.self.now.links) c.args.self.now.inodes))
          (λ i. sym c.in_ok-rows.ensures.items i ++ map row_of (sym start i))
          (subst (λ (t : RoomyTree). IsPermutation (map (kept_row t.links) t.inodes) (map row_of nodes)) c.self.view_is (nodes_kept nodes apart));
      few =
          subst (λ es. All HasFewBlocks (map seen es)) (sym start)
          (nodes_few nodes apart (subst (λ (t : RoomyTree). All HasFewBlocks t.inodes) (sym c.self.view_is) c.requires));
    }

-- what is left at a step, by its inodes
left : (c : goal.After-row_known-1) → All HasFewBlocks ((c.in-Some.number.now, inode_of c.in-Some.node.now) ∷ map seen c.next.new.self)
left c = subst (λ (es : List (ℕ × Inode)). All HasFewBlocks es) (ap (map seen) c.in-Some.ensures.steps) c.loop-number.invariant.few

pub row-requires : goal.row-requires
row-requires c = All-head HasFewBlocks _ _ (left c)

pub loop-number-preserved : goal.loop-number-preserved
loop-number-preserved c = record {
  rows =
      shuffled_step row_of c.loop-number.rows.items c.push.new.self.items _ c.loop-number.number-iterator _
      (c.in-Some.number.now, c.in-Some.node.now) c.in-Some.ensures.steps
      (c.in_ok-push.ensures.items ∙ ap (λ row. c.loop-number.rows.items ++ row ∷ []) c.row.ensures) c.loop-number.invariant.rows;
  few =
      All-tail HasFewBlocks (c.in-Some.number.now, inode_of c.in-Some.node.now) _
      (subst (λ (es : List (ℕ × Inode)). All HasFewBlocks es) (ap (map seen) c.in-Some.ensures.steps) c.loop-number.invariant.few);
}

pub returns-clause-by_number : goal.returns-clause-by_number
returns-clause-by_number c =
    subst (λ (t : RoomyTree). IsStrictlySortedBy nat_cmp (keys_of t.inodes)) c.self.view_is (seen-by_number inode_of c.self.inside.nodes.entries)

pub returns-clause-rows : goal.returns-clause-rows
returns-clause-rows c =
    let tree = c.args.self.now in
    let wanted = map (kept_row tree.links) tree.inodes in
    rows-in_order wanted c.sort_unstable_by_key.new.self.items
    (IsPermutation-trans wanted c.loop-number.rows.items c.sort_unstable_by_key.new.self.items
    (shuffled_end row_of c.loop-number.rows.items wanted c.loop-number.number-iterator c.in-None.ensures.steps.0 c.loop-number.invariant.rows)
    c.sort_unstable_by_key.ensures.permutation)
    (subst (IsStrictlySortedBy nat_cmp) (sym (numbers_kept tree.links tree.inodes)) (returns-clause-by_number c))
    (IsNonDecreasingBy-from_sort_by_key (λ (row : InodeRow). row.ino) c.sort_unstable_by_key.new.self.items
    c.sort_unstable_by_key.ensures.sorted (λ a r q k. search rules))
