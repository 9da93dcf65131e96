-- The rows of an audit: a loop over the nodes pushes what contracts say of the whole tree, in another order.
use Rattle.std.proofs.Common.{◌≡◌, ℕ, Bor, ◌<◌, ◌^◌, cond, List, [], ◌∷◌, ◌++◌, length, flat_map, map, Some, String, T, append-nil, append_assoc, nat_eq, refl, string_bytes, subst, sym, ap, ◌∙◌}
use Rattle.std.specs.Ordering.{is_eq, nat_cmp, ordering_reverse}
use Rattle.std.specs.Cmp.{nat_cmp_total, tied_itself, unsigned_ties}
use Rattle.std.specs.Cmp.Lexicographic.{nat_list_cmp_total, pointwise, slice_cmp}
use Rattle.std.specs.FinMap.{nat_cmp-IsAntisymmetric}
use Rattle.std.specs.FinMap.Entries.{below_all, is_sorted}
use Rattle.std.specs.BTreeMap.{is_at}
use Rattle.std.specs.List.{All, AllByRecursion, IsDistinct}
use Rattle.std.specs.List.Sorted.{IsPermutation}
use Rattle.std.specs.Map.{keys_of, lookup, values_of}
use Rattle.std.specs.Option.{unwrap_or}
use Rattle.std.proofs.lemmas.List.{map-append}
use Rattle.std.proofs.lemmas.List.Sorted.{All-permutation, IsPermutation-append_left, IsPermutation-sym, IsPermutation-trans}
use Rattle.std.proofs.lemmas.Map.Lookups.{exact_bytes}
use Rattle.qrules.specs.declared.inode_row.InodeRow.{InodeRow}
use Rattle.qrules.specs.declared.name_row.NameRow.{NameRow}
use Rattle.qplain.specs.State.{Inode}
use Rattle.qstore_tree.specs.declared.node.Node.{Node}
use Rattle.qstore_tree.specs.InOrder.{in_order, keyed_by, read_by}
use Rattle.qstore_tree.specs.Names.{RoomyNames, borrowed_entry, name_row, names_of}
use Rattle.qstore_tree.specs.Nodes.{inode_of, names_in, node_row}
use Rattle.qstore_tree.specs.Tree.{all_names, kept_row, keyed, name_row_of, names_in_all}
use Rattle.qstore_tree.proofs.Bytes.{bytes_ties, distinct-keyed_by, text_eq}
use Rattle.qstore_tree.proofs.InOrder.{first_of, less_from, second_of}
use Rattle.qstore_tree.proofs.Numbered.{numbered-sorted, sorted-read_by}
use Rattle.qstore_tree.proofs.Shuffled.{in_order-shuffled, map-shuffled}

-- each entry is what a look-up for its number finds
abbrev pub AreFoundIn : {X : Type 0} → List (ℕ × X) → List (ℕ × X) → Type 0
AreFoundIn all es = AllByRecursion (λ e. lookup (is_at (nat_cmp e.0)) all ≡ Some e.1) es

found_behind : {X : Type 0} (e : ℕ × X) (all es : List (ℕ × X)) → T (below_all nat_cmp e.0 es) → AreFoundIn all es → AreFoundIn (e ∷ all) es
found_behind e all [] h found = tt
found_behind e all (x ∷ es) h found = (
  ap (λ r. cond (is_eq r) (Some e.1) (lookup (is_at (nat_cmp x.0)) all)) (nat_cmp_total.antisymm x.0 e.0
      ∙ ap ordering_reverse (less_from _ (first_of _ _ h))) ∙ found.0,
  found_behind e all es (second_of _ _ h) found.1,
)

found_sorted : {X : Type 0} (es : List (ℕ × X)) → T (is_sorted nat_cmp es) → AreFoundIn es es
found_sorted [] h = tt
found_sorted (e ∷ es) h = (
  ap (λ r. cond (is_eq r) (Some e.1) (lookup (is_at (nat_cmp e.0)) es)) (tied_itself nat_cmp_total e.0),
  found_behind e es es (first_of _ _ h) (found_sorted es (second_of _ _ h)),
)

-- the row of a node under its number
abbrev pub row_of : ℕ × Node → InodeRow
row_of e = node_row e.0 e.1

rows_found : (links : List (ℕ × ℕ)) (es : List (ℕ × Node)) → AreFoundIn links (read_by (λ n. n.links) es)
    → map row_of es ≡ map (kept_row links) (read_by inode_of es)
rows_found links [] found = refl
rows_found links (e ∷ es) found = λ i.
    ap (λ (n : ℕ). record (row_of e) { links = n }) (ap (λ o. unwrap_or o 0) (sym found.0)) i ∷ rows_found links es found.1 i

-- the nodes' own rows in order are the rows with the kept link counts
kept_rows : (nodes : List (ℕ × Node))
    → map row_of (in_order nat_cmp nodes) ≡ map (kept_row (read_by (λ n. n.links) (in_order nat_cmp nodes)))
    (read_by inode_of (in_order nat_cmp nodes))
kept_rows nodes = rows_found (read_by (λ n. n.links) (in_order nat_cmp nodes)) (in_order nat_cmp nodes)
    (found_sorted (read_by (λ n. n.links) (in_order nat_cmp nodes))
    (sorted-read_by (λ n. n.links) (in_order nat_cmp nodes) (numbered-sorted nodes)))

-- the inode's blocks fit the row
abbrev pub HasFewBlocks : ℕ × Inode → Type 0
HasFewBlocks e = length e.1.file.allocated < 2 ^ 32

-- what contracts see of a node, beside its number
abbrev pub seen : ℕ × Node → ℕ × Inode
seen e = (e.0, inode_of e.1)

-- the nodes' inodes are read one by one
pub seen-each : (es : List (ℕ × Node)) → read_by inode_of es ≡ map seen es
seen-each [] = refl
seen-each (e ∷ es) = ap (λ l. seen e ∷ l) (seen-each es)

-- what is seen of the nodes by number is what is seen of each, in another order
pub nodes_seen : (nodes : List (ℕ × Node)) → IsDistinct nat_eq (keys_of nodes)
    → IsPermutation (read_by inode_of (in_order nat_cmp nodes)) (map seen nodes)
nodes_seen nodes d =
    subst (λ (l : List (ℕ × Inode)). IsPermutation l (map seen nodes)) (sym (seen-each (in_order nat_cmp nodes)))
    (IsPermutation-sym _ _ (map-shuffled nat_cmp_total nat_cmp-IsAntisymmetric seen unsigned_ties nodes d))

-- the nodes' own rows are the rows with the kept link counts, in another order
pub nodes_kept : (nodes : List (ℕ × Node)) → IsDistinct nat_eq (keys_of nodes)
    → IsPermutation (map (kept_row (read_by (λ n. n.links) (in_order nat_cmp nodes))) (read_by inode_of (in_order nat_cmp nodes)))
    (map row_of nodes)
nodes_kept nodes d =
    subst (λ l. IsPermutation l (map row_of nodes)) (kept_rows nodes)
    (IsPermutation-sym _ _ (map-shuffled nat_cmp_total nat_cmp-IsAntisymmetric row_of unsigned_ties nodes d))

-- what holds of the inodes by number holds of the nodes' inodes
pub nodes_few : (nodes : List (ℕ × Node)) → IsDistinct nat_eq (keys_of nodes)
    → All HasFewBlocks (read_by inode_of (in_order nat_cmp nodes)) → All HasFewBlocks (map seen nodes)
nodes_few nodes d few =
    All-permutation HasFewBlocks (read_by inode_of (in_order nat_cmp nodes)) (map seen nodes) (nodes_seen nodes d) few

-- the numbers of the rows are those of the inodes
pub numbers_kept : (links : List (ℕ × ℕ)) (es : List (ℕ × Inode)) → map (λ (row : InodeRow). row.ino) (map (kept_row links) es) ≡ keys_of es
numbers_kept links [] = refl
numbers_kept links (e ∷ es) = ap (λ l. e.0 ∷ l) (numbers_kept links es)

-- the row of a name that leads to this number
abbrev pub row_to : ℕ → ℕ → NameRow
row_to dir number = record { dir = dir; ino = number }

rows_keyed : (dir : ℕ) (names : List (List ℕ × ℕ)) → map name_row_of (keyed dir names) ≡ map (name_row dir) names
rows_keyed dir [] = refl
rows_keyed dir (n ∷ names) = ap (λ rows. name_row dir n ∷ rows) (rows_keyed dir names)

rows_to : {K : Type 0} (f : K → List ℕ) (dir : ℕ) (es : List (K × ℕ)) → map (name_row dir) (keyed_by f es) ≡ map (row_to dir) (values_of es)
rows_to f dir [] = refl
rows_to f dir (e ∷ es) = ap (λ rows. row_to dir e.1 ∷ rows) (rows_to f dir es)

-- the rows of a table's names are those of its numbers, in another order
pub table_rows : {A : Type 0} (dir : ℕ) (es : List (String A × ℕ)) → IsDistinct (text_eq {A = A}) (keys_of es)
    → IsPermutation (map (name_row dir) (names_of es)) (map (row_to dir) (values_of es))
table_rows dir es d =
    subst (IsPermutation (map (name_row dir) (names_of es))) (rows_to string_bytes dir es)
    (IsPermutation-sym _ _ (map-shuffled nat_list_cmp_total exact_bytes (name_row dir) bytes_ties (keyed_by string_bytes es)
    (distinct-keyed_by string_bytes (pointwise nat_eq) es d)))

-- the rows of the names in a node
abbrev pub rows_in : ℕ × Node → List NameRow
rows_in e = map (name_row e.0) (in_order (slice_cmp nat_cmp) (names_in e.1.content))

rows_in-each : (es : List (ℕ × Node)) → map name_row_of (all_names es) ≡ flat_map rows_in es
rows_in-each [] = refl
rows_in-each (e ∷ es) =
    let names = in_order (slice_cmp nat_cmp) (names_in e.1.content) in
    map-append name_row_of (keyed e.0 names) (all_names es) ∙ (λ i. rows_keyed e.0 names i ++ rows_in-each es i)

-- the rows of all names are those of the names in each node, in another order
pub nodes_rows : (nodes : List (ℕ × Node)) → IsDistinct nat_eq (keys_of nodes)
    → IsPermutation (map name_row_of (all_names (in_order nat_cmp nodes))) (flat_map rows_in nodes)
nodes_rows nodes d =
    subst (λ l. IsPermutation l (flat_map rows_in nodes)) (sym (rows_in-each (in_order nat_cmp nodes)))
    (IsPermutation-sym _ _ (in_order-shuffled nat_cmp_total nat_cmp-IsAntisymmetric rows_in unsigned_ties nodes d))

-- one step over the nodes: the first one's names give the rows that are pushed
pub names_step : (rows more all : List NameRow) (es rest : List (ℕ × Node)) (e : ℕ × Node) → es ≡ e ∷ rest
    → IsPermutation (rows ++ rows_in e) more → IsPermutation all (rows ++ flat_map rows_in es) → IsPermutation all (more ++ flat_map rows_in rest)
names_step rows more all es rest e first pushed so_far =
    IsPermutation-trans _ _ _ (subst (IsPermutation all)
    (ap (λ xs. rows ++ flat_map rows_in xs) first ∙ sym (append_assoc rows (rows_in e) (flat_map rows_in rest))) so_far)
    (IsPermutation-append_left (flat_map rows_in rest) (rows ++ rows_in e) more pushed)

-- nothing is left
pub names_end : (rows all : List NameRow) (es : List (ℕ × Node)) → es ≡ [] → IsPermutation all (rows ++ flat_map rows_in es) → IsPermutation all rows
names_end rows all es none so_far = subst (IsPermutation all) (ap (λ xs. rows ++ flat_map rows_in xs) none ∙ append-nil rows) so_far

-- the row of a name that is borrowed
abbrev pub row_of_borrowed : {A : Type 0} → ℕ → Bor (String A) × ℕ → List NameRow
row_of_borrowed dir name = name_row dir (borrowed_entry name) ∷ []

-- the rows of names that are borrowed
pub rows_borrowed : {A : Type 0} (dir : ℕ) (names : List (Bor (String A) × ℕ))
    → flat_map (row_of_borrowed dir) names ≡ map (name_row dir) (map borrowed_entry names)
rows_borrowed dir [] = refl
rows_borrowed dir (n ∷ names) = ap (λ rows. name_row dir (borrowed_entry n) ∷ rows) (rows_borrowed dir names)

-- the rows of the names in a directory that is borrowed
abbrev pub rows_under : ℕ × Bor RoomyNames → List NameRow
rows_under d = map (name_row d.0) (in_order (slice_cmp nat_cmp) d.1.now.entries)

-- the rows of the names in directories that are borrowed
pub rows_under-each : (ds : List (ℕ × Bor RoomyNames)) → flat_map rows_under ds ≡ map name_row_of (names_in_all ds)
rows_under-each [] = refl
rows_under-each (d ∷ ds) =
    let names = in_order (slice_cmp nat_cmp) d.1.now.entries in
    sym (map-append name_row_of (keyed d.0 names) (names_in_all ds) ∙ (λ i. rows_keyed d.0 names i ++ sym (rows_under-each ds) i))
