use Rattle.std.proofs.Common.{◌≡◌, [], ◌++◌, Result, Ok, Err, ap, append-nil, map, subst, sym, ◌∙◌, IsPermutation}
use Rattle.std.specs.Ordering.{nat_cmp}
use Rattle.std.specs.Cmp.Lexicographic.{slice_cmp, nat_list_cmp_total}
use Rattle.std.proofs.lemmas.List.Sorted.{IsPermutation-refl}
use Rattle.std.proofs.lemmas.Map.Lookups.{exact_bytes}
use Rattle.std.specs.List.Sorted.{IsStrictlySortedBy}
use Rattle.std.specs.Map.{keys_of}
use Rattle.std.specs.Result.{OnOk}
use Rattle.qstore_tree.specs.InOrder.{in_order}
use Rattle.qstore_tree.specs.Names.{name_row}
use Rattle.qstore_tree.specs.Nodes.{names_in}
use Rattle.qstore_tree.proofs.InOrder.{in_order-sorted, sorted_from}
use Rattle.qstore_tree.proofs.node.Node.push_names_unordered.Goals as goal

pub returns-in-File : goal.returns-in-File
returns-in-File c =
    let rows = c.args.rows.now.items in
    let none : rows ++ map (name_row c.args.number) (in_order (slice_cmp nat_cmp) (names_in c.args.self.now.content)) ≡ rows =
    ap (λ x. rows ++ map (name_row c.args.number) (in_order (slice_cmp nat_cmp) (names_in x))) c.in-File.is
    ∙ ap (λ names. rows ++ map (name_row c.args.number) names) (in_order-sorted nat_list_cmp_total exact_bytes [] tt) ∙ append-nil rows in
    subst (λ l. IsPermutation l rows) (sym none) (IsPermutation-refl rows)

-- two facts of a call that succeeds
both : {A E P Q Z : Type 0} (r : Result A E) → (P → Q → Z) → OnOk r P → OnOk r Q → OnOk r Z
both (Ok x) f p q = f p q
both (Err e) f p q = p

pub returns-in-Directory : goal.returns-in-Directory
returns-in-Directory c =
    let names = c.in-Directory.names.entries in
    let rows = c.args.rows.now.items in
    let InOrder : Type 0 = IsStrictlySortedBy (slice_cmp nat_cmp) (keys_of names) in
    let same : InOrder → names ≡ in_order (slice_cmp nat_cmp) (names_in c.args.self.now.content) =
    λ order. sym (in_order-sorted nat_list_cmp_total exact_bytes names (sorted_from (slice_cmp nat_cmp) names order))
    ∙ ap (λ x. in_order (slice_cmp nat_cmp) (names_in x)) (sym c.in-Directory.is) in
    let more = c.push_rows_unordered.new.rows.items in
    both c.push_rows_unordered.result (λ (pushed : IsPermutation (rows ++ map (name_row c.args.number) names) more) (order : InOrder).
    subst (λ es. IsPermutation (rows ++ map (name_row c.args.number) es) more) (same order) pushed)
    c.push_rows_unordered.ensures.rows c.push_rows_unordered.ensures.in_order
