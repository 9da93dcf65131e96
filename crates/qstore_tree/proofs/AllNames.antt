-- The names in all directories: each is found in its directory, and nowhere else.
use Rattle.std.proofs.Common.{◌≡◌, ℕ, false, cond, List, [], ◌∷◌, ◌++◌, Option, Some, None, ◌&&◌, T, refl, sym, ap, ◌∙◌, subst, nat_eq, Bor}
use Rattle.std.specs.declared.cmp.Ordering.{Ordering}
use Rattle.std.specs.declared.cmp.Ordering.TheVariants.{Less, Equal, Greater}
use Rattle.std.specs.Ordering.{is_eq, is_lt, nat_cmp, eq_by_cmp, ordering_then}
use Rattle.std.specs.Cmp.{IsTotalOrder, nat_cmp_total, on_total, then_total, tied_itself, both_tied, unsigned_ties}
use Rattle.std.specs.Cmp.Lexicographic.{slice_cmp, nat_list_cmp_total}
use Rattle.std.specs.FinMap.{IsAntisymmetric}
use Rattle.std.specs.FinMap.Entries.{below_all, is_sorted}
use Rattle.std.specs.BTreeMap.{insert_entry, is_at}
use Rattle.std.specs.List.Sorted.{IsStrictlySortedBy}
use Rattle.std.specs.Map.{keys_of, lookup, remove_entry}
use Rattle.std.specs.Option.{IfSome, option_copied}
use Rattle.std.proofs.lemmas.Map.Lookups.{exact_pairs, exact_unsigned, exact_bytes}
use Rattle.qplain.specs.State.{NameKey, name_key_cmp}
use Rattle.qstore_tree.specs.declared.node.Node.{Node}
use Rattle.qstore_tree.specs.InOrder.{in_order}
use Rattle.qstore_tree.specs.Nodes.{names_in}
use Rattle.qstore_tree.specs.Tree.{all_names, keyed}
use Rattle.qstore_tree.proofs.Bytes.{bytes_tie}
use Rattle.qstore_tree.proofs.InOrder.{both_of, first_of, less_from, lookup-in_order, lookup-taken, same_sorted, second_of, sorted-in_order, sorted-insert, sorted-taken, strictly}
use Rattle.qstore_tree.proofs.Numbered.{numbered-get, numbered-sorted}
use Rattle.qstore_tree.proofs.Read.{first_or_none, first_some, lookup-append, lookup-keyed_by}

-- names are in a total order
name_key_total : IsTotalOrder name_key_cmp
name_key_total = then_total (on_total (λ t. t.0) nat_cmp_total) (on_total (λ t. t.1) nat_list_cmp_total)

-- only equal keys tie
pub key_exact : IsAntisymmetric name_key_cmp
key_exact = exact_pairs nat_cmp (slice_cmp nat_cmp) exact_unsigned exact_bytes

-- what a name leads to in a node, where there is one
abbrev pub name_at : List ℕ → Option Node → Option ℕ
name_at name None = None
name_at name (Some node) = lookup (is_at (slice_cmp nat_cmp name)) (names_in node.content)

-- ---- look-ups
lookup_nothing : {K X : Type 0} (es : List (K × X)) → lookup (λ _. false) es ≡ None
lookup_nothing [] = refl
lookup_nothing (e ∷ es) = lookup_nothing es

-- a number that stands below a list's is not in it
pub none_above : {X : Type 0} (d k : ℕ) (es : List (ℕ × X)) → nat_cmp d k ≡ Equal → T (below_all nat_cmp k es) → lookup (eq_by_cmp nat_cmp d) es ≡ None
none_above d k [] tie h = refl
none_above d k (e ∷ es) tie h =
    let past : nat_cmp d e.0 ≡ Less = nat_cmp_total.congr d k e.0 tie ∙ less_from _ (first_of _ _ h) in
    ap (λ r. cond (is_eq r) (Some e.1) (lookup (eq_by_cmp nat_cmp d) es)) past ∙ none_above d k es tie (second_of _ _ h)

-- one directory's names, by how its number compares
lookup-keyed : (d k : ℕ) (name : List ℕ) (names : List (List ℕ × ℕ))
    → lookup (eq_by_cmp name_key_cmp (d, name)) (keyed k names)
    ≡ lookup (λ n. is_eq (ordering_then (nat_cmp d k) (slice_cmp nat_cmp name n))) names
lookup-keyed d k name names = lookup-keyed_by (λ n. (k, n)) (eq_by_cmp name_key_cmp (d, name)) names

lookup-all_names : (d : ℕ) (name : List ℕ) (es : List (ℕ × Node)) → T (is_sorted nat_cmp es)
    → lookup (eq_by_cmp name_key_cmp (d, name)) (all_names es)
    ≡ name_at name (lookup (eq_by_cmp nat_cmp d) es)
lookup-all_names d name [] h = refl
lookup-all_names d name (e ∷ es) h =
    let names = in_order (slice_cmp nat_cmp) (names_in e.1.content) in
    let rest = lookup-all_names d name es (second_of _ _ h) in
    let later = lookup (eq_by_cmp name_key_cmp (d, name)) (all_names es) in
    lookup-append (eq_by_cmp name_key_cmp (d, name)) (keyed e.0 names) (all_names es)
    ∙ ap (λ x. first_some x later) (lookup-keyed d e.0 name names)
    ∙ elim (nat_cmp d e.0) as (λ r. nat_cmp d e.0 ≡ r
    → first_some (lookup (λ n. is_eq (ordering_then r (slice_cmp nat_cmp name n))) names) later
    ≡ name_at name (cond (is_eq r) (Some e.1) (lookup (eq_by_cmp nat_cmp d) es))) [
      | Less ↦ λ p. ap (λ x. first_some x later) (lookup_nothing names) ∙ rest
      | Equal ↦ λ p. ap (first_some (lookup (eq_by_cmp (slice_cmp nat_cmp) name) names)) (rest ∙ ap (name_at name) (none_above d e.0 es p (first_of _ _ h)))
          ∙ first_or_none (lookup (eq_by_cmp (slice_cmp nat_cmp) name) names) ∙ lookup-in_order nat_list_cmp_total exact_bytes (names_in e.1.content) name
      | Greater ↦ λ p. ap (λ x. first_some x later) (lookup_nothing names) ∙ rest
    ] refl

-- ---- order
less_then : (d k : ℕ) (x y : List ℕ) → T (is_lt (nat_cmp d k)) → T (is_lt (name_key_cmp (d, x) (k, y)))
less_then d k x y h = subst (λ r. T (is_lt (ordering_then r (slice_cmp nat_cmp x y)))) (sym (less_from _ h)) tt

same_then : (d : ℕ) (x y : List ℕ) → T (is_lt (slice_cmp nat_cmp x y)) → T (is_lt (name_key_cmp (d, x) (d, y)))
same_then d x y h = subst (λ r. T (is_lt (ordering_then r (slice_cmp nat_cmp x y)))) (sym (tied_itself nat_cmp_total d)) h

below-append : {K X : Type 0} (R : K → K → Ordering) (k : K) (es fs : List (K × X)) → T (below_all R k es) → T (below_all R k fs) → T (below_all R k (es ++ fs))
below-append R k [] fs a b = b
below-append R k (e ∷ es) fs a b = both_of _ _ (first_of _ _ a) (below-append R k es fs (second_of _ _ a) b)

below_later : (d k : ℕ) (name : List ℕ) (names : List (List ℕ × ℕ)) → T (is_lt (nat_cmp d k)) → T (below_all name_key_cmp (d, name) (keyed k names))
below_later d k name [] h = tt
below_later d k name (n ∷ names) h = both_of _ _ (less_then d k name n.0 h) (below_later d k name names h)

below_all_names : (d : ℕ) (name : List ℕ) (es : List (ℕ × Node)) → T (below_all nat_cmp d es) → T (below_all name_key_cmp (d, name) (all_names es))
below_all_names d name [] h = tt
below_all_names d name (e ∷ es) h =
    below-append name_key_cmp (d, name) (keyed e.0 (in_order (slice_cmp nat_cmp) (names_in e.1.content)))
    (all_names es) (below_later d e.0 name (in_order (slice_cmp nat_cmp) (names_in e.1.content))
    (first_of _ _ h)) (below_all_names d name es (second_of _ _ h))

below_same : (d : ℕ) (name : List ℕ) (names : List (List ℕ × ℕ))
    → T (below_all (slice_cmp nat_cmp) name names) → T (below_all name_key_cmp (d, name) (keyed d names))
below_same d name [] h = tt
below_same d name (n ∷ names) h = both_of _ _ (same_then d name n.0 (first_of _ _ h)) (below_same d name names (second_of _ _ h))

sorted-keyed : (d : ℕ) (names : List (List ℕ × ℕ)) (later : List (NameKey × ℕ))
    → T (is_sorted (slice_cmp nat_cmp) names) → ((name : List ℕ) → T (below_all name_key_cmp (d, name) later))
    → T (is_sorted name_key_cmp later) → T (is_sorted name_key_cmp (keyed d names ++ later))
sorted-keyed d [] later a below b = b
sorted-keyed d (n ∷ names) later a below b =
    both_of _ _ (below-append name_key_cmp (d, n.0) (keyed d names) later
    (below_same d n.0 names (first_of _ _ a)) (below n.0))
    (sorted-keyed d names later (second_of _ _ a) below b)

-- the names of directories in order are in order
pub sorted-all_names : (es : List (ℕ × Node)) → T (is_sorted nat_cmp es) → T (is_sorted name_key_cmp (all_names es))
sorted-all_names [] h = tt
sorted-all_names (e ∷ es) h =
    sorted-keyed e.0 (in_order (slice_cmp nat_cmp) (names_in e.1.content)) (all_names es)
    (sorted-in_order nat_list_cmp_total exact_bytes (names_in e.1.content))
    (λ name. below_all_names e.0 name es (first_of _ _ h)) (sorted-all_names es (second_of _ _ h))

-- ---- the names of a table of nodes
-- the names of these nodes
abbrev pub named : List (ℕ × Node) → List (NameKey × ℕ)
named nodes = all_names (in_order nat_cmp nodes)

-- the names of a table stand in the order of their keys, each once
pub named-by_key : (nodes : List (ℕ × Node)) → IsStrictlySortedBy name_key_cmp (keys_of (named nodes))
named-by_key nodes = strictly name_key_cmp (named nodes) (sorted-all_names (in_order nat_cmp nodes) (numbered-sorted nodes))

-- a name is found in its directory's node
pub named-get : (nodes : List (ℕ × Node)) (d : ℕ) (name : List ℕ)
    → lookup (is_at (name_key_cmp (d, name))) (named nodes) ≡ name_at name (lookup (nat_eq d) nodes)
named-get nodes d name = lookup-all_names d name (in_order nat_cmp nodes) (numbered-sorted nodes) ∙ ap (name_at name) (numbered-get nodes d)

-- what a look-up for a directory's number gives has its names
pub named-in : (nodes : List (ℕ × Node)) (names : List (NameKey × ℕ)) (d : ℕ) (r : Option (Bor Node))
    → named nodes ≡ names → option_copied r ≡ lookup (nat_eq d) nodes
    → IfSome r (λ n. (name : List ℕ) → lookup (is_at (slice_cmp nat_cmp name)) (names_in n.now.content) ≡ lookup (is_at (name_key_cmp (d, name))) names)
named-in nodes names d None seen is = tt
named-in nodes names d (Some n) seen is = λ name. ap (name_at name) is ∙ sym (named-get nodes d name) ∙ ap (lookup (is_at (name_key_cmp (d, name)))) seen

-- tables in which each name leads to the same
pub named-same : (es fs : List (ℕ × Node))
    → ((d : ℕ) (name : List ℕ) → name_at name (lookup (nat_eq d) fs) ≡ name_at name (lookup (nat_eq d) es))
    → named fs ≡ named es
named-same es fs is = same_sorted name_key_total key_exact (named fs) (named es)
    (sorted-all_names (in_order nat_cmp fs) (numbered-sorted fs))
    (sorted-all_names (in_order nat_cmp es) (numbered-sorted es))
    (λ q. named-get fs q.0 q.1 ∙ is q.0 q.1 ∙ sym (named-get es q.0 q.1))

-- a table with one name more
pub named-insert : (es fs : List (ℕ × Node)) (dir : ℕ) (name : List ℕ) (v : ℕ)
    → ((d : ℕ) (n : List ℕ) → name_at n (lookup (nat_eq d) fs)
    ≡ cond (nat_eq dir d && bytes_tie name n) (Some v) (name_at n (lookup (nat_eq d) es)))
    → named fs ≡ insert_entry name_key_cmp (named es) (dir, name) v
named-insert es fs dir name v is =
    sorted-insert name_key_total key_exact (named es) (named fs) (dir, name) v
    (sorted-all_names (in_order nat_cmp es) (numbered-sorted es))
    (sorted-all_names (in_order nat_cmp fs) (numbered-sorted fs))
    (λ q. named-get fs q.0 q.1 ∙ is q.0 q.1 ∙ ap (cond (nat_eq dir q.0 && bytes_tie name q.1) (Some v)) (sym (named-get es q.0 q.1))
    ∙ ap (λ b. cond b (Some v) (lookup (is_at (name_key_cmp q)) (named es)))
    (both_tied _ _ (nat_cmp dir q.0) (slice_cmp nat_cmp name q.1) (unsigned_ties dir q.0) refl))

-- a table with one name less
pub named-taken : (es fs : List (ℕ × Node)) (dir : ℕ) (name : List ℕ)
    → ((d : ℕ) (n : List ℕ) → name_at n (lookup (nat_eq d) fs)
    ≡ cond (nat_eq dir d && bytes_tie name n) None (name_at n (lookup (nat_eq d) es)))
    → named fs ≡ remove_entry (is_at (name_key_cmp (dir, name))) (named es)
named-taken es fs dir name is =
    sorted-taken name_key_total key_exact (named es) (named fs) (dir, name)
    (sorted-all_names (in_order nat_cmp es) (numbered-sorted es))
    (sorted-all_names (in_order nat_cmp fs) (numbered-sorted fs))
    (λ q. named-get fs q.0 q.1 ∙ is q.0 q.1 ∙ ap (cond (nat_eq dir q.0 && bytes_tie name q.1) None) (sym (named-get es q.0 q.1))
    ∙ ap (λ b. cond b None (lookup (is_at (name_key_cmp q)) (named es)))
    (both_tied _ _ (nat_cmp dir q.0) (slice_cmp nat_cmp name q.1) (unsigned_ties dir q.0) refl))

-- a name that was taken out is not there
pub named-gone : (nodes : List (ℕ × Node)) (key : NameKey)
    → lookup (is_at (name_key_cmp key)) (remove_entry (is_at (name_key_cmp key)) (named nodes)) ≡ None
named-gone nodes key =
    lookup-taken name_key_total key_exact (named nodes) key key (sorted-all_names (in_order nat_cmp nodes) (numbered-sorted nodes))
    ∙ ap (λ r. cond (is_eq r) None (lookup (is_at (name_key_cmp key)) (named nodes))) (tied_itself name_key_total key)
