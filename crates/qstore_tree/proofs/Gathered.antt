-- The directories of a tree, gathered from a table in any order and sorted by number: their names are the tree's.
use Rattle.std.proofs.Common.{◌≡◌, ℕ, Bool, true, false, cond, Bor, List, [], ◌∷◌, ◌++◌, flat_map, map, T, append-nil, nat_eq, refl, subst, sym, ap, ◌∙◌, IsPermutation}
use Rattle.std.specs.Ordering.{nat_cmp}
use Rattle.std.specs.Cmp.{nat_cmp_total, unsigned_ties}
use Rattle.std.specs.Cmp.Lexicographic.{nat_list_cmp_total, slice_cmp}
use Rattle.std.specs.FinMap.{nat_cmp-IsAntisymmetric}
use Rattle.std.specs.FinMap.Entries.{below_all, is_sorted}
use Rattle.std.specs.List.{IsDistinct}
use Rattle.std.specs.List.Sorted.{IsSorted, IsStrictlySortedBy}
use Rattle.std.specs.Map.{keys_of}
use Rattle.std.proofs.lemmas.Grind.{flat_map-append}
use Rattle.std.proofs.lemmas.List.Sorted.{IsPermutation-map, IsPermutation-sym, IsPermutation-trans}
use Rattle.std.proofs.lemmas.Map.Lookups.{exact_bytes}
use Rattle.qplain.specs.State.{NameKey}
use Rattle.qstore_tree.specs.declared.node.Node.{Node}
use Rattle.qstore_tree.specs.InOrder.{in_order}
use Rattle.qstore_tree.specs.Names.{RoomyNames}
use Rattle.qstore_tree.specs.Nodes.{is_dir_content, names_in}
use Rattle.qstore_tree.specs.Tree.{all_names, keyed, names_in_all}
use Rattle.qstore_tree.proofs.InOrder.{both_of, first_of, in_order-sorted, second_of, strictly}
use Rattle.qstore_tree.proofs.Numbered.{numbered-sorted}
use Rattle.qstore_tree.proofs.Shuffled.{in_order-shuffled, one_order}
use Rattle.qstore_tree.proofs.TreeChanges.{no_names}

-- a directory by its number, with its names
abbrev pub Directory : Type 0
Directory = ℕ × List (List ℕ × ℕ)

-- the directory that a node is, if it is one
abbrev pub directory_in : ℕ × Node → List Directory
directory_in e = cond (is_dir_content e.1.content) ((e.0, names_in e.1.content) ∷ []) []

-- a directory that is borrowed
abbrev pub seen_directory : ℕ × Bor RoomyNames → Directory
seen_directory d = (d.0, d.1.now.entries)

-- the names in a directory, by their bytes
abbrev pub names_under : Directory → List (NameKey × ℕ)
names_under d = keyed d.0 (in_order (slice_cmp nat_cmp) d.1)

-- the names in directories that are borrowed
names_seen : (ds : List (ℕ × Bor RoomyNames)) → names_in_all ds ≡ flat_map names_under (map seen_directory ds)
names_seen [] = refl
names_seen (d ∷ ds) = ap (λ l. names_under (seen_directory d) ++ l) (names_seen ds)

-- the numbers of directories that are borrowed
pub numbers_seen : (ds : List (ℕ × Bor RoomyNames)) → map (λ d. d.0) ds ≡ keys_of (map seen_directory ds)
numbers_seen [] = refl
numbers_seen (d ∷ ds) = ap (λ l. d.0 ∷ l) (numbers_seen ds)

-- a node's names are those of the directory that it is
names_of_node : (e : ℕ × Node) (b : Bool) → is_dir_content e.1.content ≡ b
    → names_under (e.0, names_in e.1.content) ≡ flat_map names_under (cond b ((e.0, names_in e.1.content) ∷ []) [])
names_of_node e true is = sym (append-nil (names_under (e.0, names_in e.1.content)))
names_of_node e false is =
    ap (λ names. names_under (e.0, names)) (no_names e.1.content is)
    ∙ ap (keyed e.0) (in_order-sorted nat_list_cmp_total exact_bytes [] tt)

-- all names are those in all directories
names_of_nodes : (es : List (ℕ × Node)) → all_names es ≡ flat_map names_under (flat_map directory_in es)
names_of_nodes [] = refl
names_of_nodes (e ∷ es) =
    (λ i. names_of_node e (is_dir_content e.1.content) refl i ++ names_of_nodes es i)
    ∙ sym (flat_map-append names_under (directory_in e) (flat_map directory_in es))

below-directories : (k : ℕ) (es : List (ℕ × Node)) → T (below_all nat_cmp k es) → T (below_all nat_cmp k (flat_map directory_in es))
below-directories k [] h = tt
below-directories k (e ∷ es) h =
    elim (is_dir_content e.1.content) as (λ b. T (below_all nat_cmp k (cond b ((e.0, names_in e.1.content) ∷ []) [] ++ flat_map directory_in es))) [
      | true ↦ both_of _ _ (first_of _ _ h) (below-directories k es (second_of _ _ h))
      | false ↦ below-directories k es (second_of _ _ h)
    ]

sorted-directories : (es : List (ℕ × Node)) → T (is_sorted nat_cmp es) → T (is_sorted nat_cmp (flat_map directory_in es))
sorted-directories [] h = tt
sorted-directories (e ∷ es) h =
    elim (is_dir_content e.1.content) as (λ b. T (is_sorted nat_cmp (cond b ((e.0, names_in e.1.content) ∷ []) [] ++ flat_map directory_in es))) [
      | true ↦ both_of _ _ (below-directories e.0 es (first_of _ _ h)) (sorted-directories es (second_of _ _ h))
      | false ↦ sorted-directories es (second_of _ _ h)
    ]

-- these directories, and those among the nodes that are left, are all that these names stand in, in some order
pub record Gathers (names : List (NameKey × ℕ)) (ds : List (ℕ × Bor RoomyNames)) (rest : List (ℕ × Node)) : Type 0 where
  pub all : List Directory
  pub by_number : IsStrictlySortedBy nat_cmp (keys_of all)
  pub names_are : flat_map names_under all ≡ names
  pub in_some_order : IsPermutation all (map seen_directory ds ++ flat_map directory_in rest)

-- before the first node
pub gathers_none : (nodes : List (ℕ × Node)) → IsDistinct nat_eq (keys_of nodes) → Gathers (all_names (in_order nat_cmp nodes)) [] nodes
gathers_none nodes d = record {
  all = flat_map directory_in (in_order nat_cmp nodes);
  by_number = strictly nat_cmp _ (sorted-directories (in_order nat_cmp nodes) (numbered-sorted nodes));
  names_are = sym (names_of_nodes (in_order nat_cmp nodes));
  in_some_order = IsPermutation-sym _ _ (in_order-shuffled nat_cmp_total nat_cmp-IsAntisymmetric directory_in unsigned_ties nodes d);
}

-- after the last node, sorted by number
pub gathers_all : (names : List (NameKey × ℕ)) (ds sorted : List (ℕ × Bor RoomyNames)) (rest : List (ℕ × Node)) → rest ≡ []
    → Gathers names ds rest → IsPermutation ds sorted → IsSorted nat_cmp (keys_of (map seen_directory sorted)) → names_in_all sorted ≡ names
gathers_all names ds sorted rest none so_far p up =
    let gathered = map seen_directory ds in
    let done : IsPermutation so_far.all gathered =
    subst (IsPermutation so_far.all) (ap (λ l. gathered ++ flat_map directory_in l) none ∙ append-nil gathered) so_far.in_some_order in
    names_seen sorted
    ∙ ap (flat_map names_under) (one_order nat_cmp_total nat_cmp-IsAntisymmetric so_far.all (map seen_directory sorted)
    (IsPermutation-trans so_far.all gathered (map seen_directory sorted) done (IsPermutation-map seen_directory ds sorted p))
    so_far.by_number up)
    ∙ so_far.names_are
