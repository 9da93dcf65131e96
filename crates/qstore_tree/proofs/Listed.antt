-- Names that are borrowed, pushed one after another, under their keys, and inodes that are, under their numbers.
use Rattle.std.proofs.Common.{◌≡◌, ℕ, Bor, List, [], ◌∷◌, ◌++◌, String, ap, flat_map, map, refl, string_bytes}
use Rattle.std.proofs.Common.{subst, sym}
use Rattle.std.specs.Ordering.{nat_cmp}
use Rattle.std.specs.Cmp.Lexicographic.{slice_cmp}
use Rattle.qplain.specs.State.{NameKey}
use Rattle.std.specs.FinMap.{nat_cmp-IsAntisymmetric}
use Rattle.std.specs.Cmp.{nat_cmp_total}
use Rattle.std.specs.List.Sorted.{IsNonDecreasingBy, IsPermutation, IsSorted, IsStrictlySortedBy}
use Rattle.std.specs.Map.{keys_of}
use Rattle.std.proofs.lemmas.List.Sorted.{IsPermutation-map, IsPermutation-trans}
use Rattle.qplain.specs.State.{Inode}
use Rattle.qstore_tree.specs.declared.node.Node.{Node}
use Rattle.qstore_tree.specs.InOrder.{in_order}
use Rattle.qstore_tree.specs.Listed.{node_entry}
use Rattle.qstore_tree.proofs.Shuffled.{numbers-sorted, one_order}
use Rattle.qstore_tree.specs.Names.{RoomyNames, borrowed_entry}
use Rattle.qstore_tree.specs.Tree.{keyed, names_in_all}

-- a name that is borrowed, under its key
abbrev pub entry_of_borrowed : {A : Type 0} → ℕ → Bor (String A) × ℕ → List (NameKey × ℕ)
entry_of_borrowed dir name = ((dir, string_bytes name.0.now), name.1) ∷ []

-- names that are borrowed
pub entries_borrowed : {A : Type 0} (dir : ℕ) (names : List (Bor (String A) × ℕ))
    → flat_map (entry_of_borrowed dir) names ≡ keyed dir (map borrowed_entry names)
entries_borrowed dir [] = refl
entries_borrowed dir (n ∷ names) = ap (λ es. ((dir, string_bytes n.0.now), n.1) ∷ es) (entries_borrowed dir names)

-- the names in a directory that is borrowed
abbrev pub entries_under : ℕ × Bor RoomyNames → List (NameKey × ℕ)
entries_under d = keyed d.0 (in_order (slice_cmp nat_cmp) d.1.now.entries)

-- the names in directories that are borrowed
pub entries_under-each : (ds : List (ℕ × Bor RoomyNames)) → flat_map entries_under ds ≡ names_in_all ds
entries_under-each [] = refl
entries_under-each (d ∷ ds) = ap (λ es. entries_under d ++ es) (entries_under-each ds)

numbers_borrowed : (es : List (ℕ × Bor Node)) → keys_of (map node_entry es) ≡ map (λ e. e.0) es
numbers_borrowed [] = refl
numbers_borrowed (e ∷ es) = ap (λ l. e.0 ∷ l) (numbers_borrowed es)

-- inodes that are borrowed, sorted by number, are the inodes by number that they are in another order
pub nodes-in_order : (inodes : List (ℕ × Inode)) (es sorted : List (ℕ × Bor Node))
    → IsPermutation inodes (map node_entry es) → IsPermutation es sorted → IsStrictlySortedBy nat_cmp (keys_of inodes)
    → IsNonDecreasingBy (λ e. e.0) sorted → map node_entry sorted ≡ inodes
nodes-in_order inodes es sorted p q by_number up =
    let here = IsPermutation-map node_entry es sorted q in
    let all = IsPermutation-trans inodes (map node_entry es) (map node_entry sorted) p here in
    one_order nat_cmp_total nat_cmp-IsAntisymmetric inodes (map node_entry sorted) all by_number
    (subst (IsSorted nat_cmp) (sym (numbers_borrowed sorted)) (numbers-sorted (λ (e : ℕ × Bor Node). e.0) sorted up))
