use Rattle.std.proofs.Common.{map, subst, sym, ◌∙◌, IsPermutation}
use Rattle.std.specs.Ordering.{nat_cmp}
use Rattle.std.specs.Cmp.Lexicographic.{slice_cmp}
use Rattle.std.specs.List.Sorted.{IsStrictlySortedBy}
use Rattle.std.specs.Map.{keys_of}
use Rattle.std.proofs.lemmas.List.Sorted.{IsPermutation-append_right}
use Rattle.qstore_tree.specs.Names.{RoomyNames, names_of, name_row}
use Rattle.qstore_tree.proofs.Bytes.{names_of-order}
use Rattle.qstore_tree.proofs.Pushed.{shuffled_end, shuffled_step}
use Rattle.qstore_tree.proofs.Rows.{row_to, table_rows}
use Rattle.qstore_tree.proofs.names.Names.push_rows_unordered.Goals as goal

pub loop-ino-init : goal.loop-ino-init
loop-ino-init c =
    let es = c.self.inside.table.entries in
    IsPermutation-append_right c.args.rows.now.items (map (name_row c.args.dir) c.args.self.now.entries) _
    (subst (λ (n : RoomyNames). IsPermutation (map (name_row c.args.dir) n.entries) (map (row_to c.args.dir) c.into_iter-ino-iterator.result)) c.self.view_is
    (subst (λ l. IsPermutation (map (name_row c.args.dir) (names_of es)) (map (row_to c.args.dir) l))
    (sym (c.into_iter-ino-iterator.ensures.into_iter_gives ∙ c.values-ino-items.ensures.rest))
    (table_rows c.args.dir es c.values-ino-items.ensures.unique)))

pub loop-ino-preserved : goal.loop-ino-preserved
loop-ino-preserved c =
    shuffled_step (row_to c.args.dir) c.loop-ino.rows.items c.push.new.self.items _ c.loop-ino.ino-iterator _ c.in-Some.ino.now
    c.in-Some.ensures.steps c.in_ok-push.ensures.items c.loop-ino.invariant

pub returns-clause-rows : goal.returns-clause-rows
returns-clause-rows c =
    shuffled_end (row_to c.args.dir) c.loop-ino.rows.items _ c.loop-ino.ino-iterator c.in-None.ensures.steps.0 c.loop-ino.invariant

pub returns-clause-in_order : goal.returns-clause-in_order
returns-clause-in_order c =
    let InOrder : RoomyNames → Type 0 = λ n. IsStrictlySortedBy (slice_cmp nat_cmp) (keys_of n.entries) in
    subst InOrder c.self.view_is (names_of-order c.self.inside.table.entries)
