use Rattle.std.proofs.Common.{◌≡◌, ℕ, Bor, List, [], rules, subst, sym, ◌∙◌}
use Rattle.std.specs.Ordering.{nat_cmp}
use Rattle.std.specs.List.Sorted.{IsSorted, IsStrictlySortedBy}
use Rattle.std.specs.Map.{keys_of}
use Rattle.std.proofs.lemmas.List.Sorted.{IsNonDecreasingBy-from_sort_by_key}
use Rattle.qplain.specs.State.{name_key_cmp}
use Rattle.qstore_tree.specs.Names.{RoomyNames}
use Rattle.qstore_tree.specs.Tree.{RoomyTree}
use Rattle.qstore_tree.proofs.AllNames.{named-by_key}
use Rattle.qstore_tree.proofs.Gathered.{Gathers, gathers_all, gathers_none, numbers_seen}
use Rattle.qstore_tree.proofs.Shuffled.{numbers-sorted}
use Rattle.qstore_tree.proofs.tree.Tree.directories.Goals as goal

pub loop-number-init : goal.loop-number-init
loop-number-init c =
    let nodes = c.self.inside.nodes.entries in
    let start : c.into_iter-number-iterator.result ≡ nodes = c.into_iter-number-iterator.ensures.into_iter_gives ∙ c.iter-number-items.ensures.rest in
    subst (Gathers c.args.self.now.names c.new-directories.result.items) (sym start)
    (subst (λ (ds : List (ℕ × Bor RoomyNames)). Gathers c.args.self.now.names ds nodes) (sym c.new-directories.ensures.items)
    (subst (λ (t : RoomyTree). Gathers t.names [] nodes) c.self.view_is (gathers_none nodes c.iter-number-items.ensures.unique)))

pub returns-clause-names : goal.returns-clause-names
returns-clause-names c =
    let sorted = c.sort_unstable_by_key.new.self.items in
    gathers_all c.args.self.now.names c.loop-number.directories.items sorted c.loop-number.number-iterator c.in-None.ensures.steps.0
    c.loop-number.invariant c.sort_unstable_by_key.ensures.permutation
    (subst (IsSorted nat_cmp) (numbers_seen sorted) (numbers-sorted (λ (d : ℕ × Bor RoomyNames). d.0) sorted
    (IsNonDecreasingBy-from_sort_by_key (λ (d : ℕ × Bor RoomyNames). d.0) sorted
    c.sort_unstable_by_key.ensures.sorted (λ a r q k. search rules))))

pub returns-clause-by_key : goal.returns-clause-by_key
returns-clause-by_key c =
    subst (λ (t : RoomyTree). IsStrictlySortedBy name_key_cmp (keys_of t.names)) c.self.view_is (named-by_key c.self.inside.nodes.entries)
