use Rattle.std.proofs.Common.{◌≡◌, [], ◌++◌, ◌∷◌, ap, map, subst, sym, ◌∙◌, IsPermutation}
use Rattle.std.specs.Ordering.{nat_cmp}
use Rattle.std.specs.Cmp.Lexicographic.{nat_list_cmp_total, slice_cmp}
use Rattle.std.specs.List.Sorted.{IsStrictlySortedBy}
use Rattle.std.specs.Map.{keys_of}
use Rattle.std.proofs.lemmas.List.{map-append}
use Rattle.std.proofs.lemmas.List.Sorted.{IsPermutation-map, IsPermutation-trans}
use Rattle.std.proofs.lemmas.Map.Lookups.{exact_bytes}
use Rattle.qstore_tree.specs.Names.{RoomyNames, borrowed_entry, names_of}
use Rattle.qstore_tree.proofs.Bytes.{names_of-order}
use Rattle.qstore_tree.proofs.InOrder.{in_order-sorted, sorted_from}
use Rattle.qstore_tree.proofs.Pushed.{shuffled_end, shuffled_step}
use Rattle.qstore_tree.proofs.Shuffled.{one_order}
use Rattle.qstore_tree.proofs.Sorted.{sorted-borrowed, table_names, text_entry}
use Rattle.qstore_tree.proofs.names.Names.by_bytes.Goals as goal

pub loop-name-init : goal.loop-name-init
loop-name-init c =
    let es = c.self.inside.table.entries in
    let start : c.into_iter-name-iterator.result ≡ es = c.into_iter-name-iterator.ensures.into_iter_gives ∙ c.iter-name-items.ensures.rest in
    let pushed = c.in_ok-names.names.items in
    let left = c.into_iter-name-iterator.result in
    subst (λ (n : RoomyNames). IsPermutation n.entries (map borrowed_entry pushed ++ map text_entry left)) c.self.view_is
    (subst (IsPermutation (names_of es)) (λ i. map borrowed_entry (sym c.in_ok-names.ensures.items i) ++ map text_entry (sym start i))
    (table_names es c.iter-name-items.ensures.unique))

pub loop-name-preserved : goal.loop-name-preserved
loop-name-preserved c =
    let names = c.loop-name.names.items in
    shuffled_step text_entry (map borrowed_entry names) (map borrowed_entry c.push.new.self.items) _ c.loop-name.name-iterator _
    (c.in-Some.name.now, c.in-Some.number.now) c.in-Some.ensures.steps
    (ap (map borrowed_entry) c.in_ok-push.ensures.items ∙ map-append borrowed_entry names ((c.in-Some.name, c.in-Some.number.now) ∷ [])) c.loop-name.invariant

pub returns : goal.returns
returns c =
    let names = c.args.self.now.entries in
    let pushed = c.loop-name.names.items in
    let sorted = c.sort_unstable.new.self.items in
    let InOrder : RoomyNames → Type 0 = λ n. IsStrictlySortedBy (slice_cmp nat_cmp) (keys_of n.entries) in
    let order : InOrder c.args.self.now = subst InOrder c.self.view_is (names_of-order c.self.inside.table.entries) in
    one_order nat_list_cmp_total exact_bytes names (map borrowed_entry sorted)
    (IsPermutation-trans names (map borrowed_entry pushed) (map borrowed_entry sorted)
    (shuffled_end text_entry (map borrowed_entry pushed) names c.loop-name.name-iterator c.in-None.ensures.steps.0 c.loop-name.invariant)
    (IsPermutation-map borrowed_entry pushed sorted c.sort_unstable.ensures.permutation)) order
    (sorted-borrowed sorted c.sort_unstable.ensures.sorted)
    ∙ sym (in_order-sorted nat_list_cmp_total exact_bytes names (sorted_from (slice_cmp nat_cmp) names order))
