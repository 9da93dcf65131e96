-- Whether any name stands in an inode, by how many entries the table of its names has.
use Rattle.std.proofs.Common.{◌≡◌, ℕ, Bool, true, false, cond, not, List, [], ◌∷◌, Option, Some, None, ◌&&◌, ◌||◌, ◌==◌, T, refl, sym, ap, ◌∙◌, nat_eq, length, IsTrue, suc, arith, String, string_bytes}
use Rattle.std.specs.declared.cmp.Ordering.{Ordering}
use Rattle.std.specs.declared.cmp.Ordering.TheVariants.{Less, Equal, Greater}
use Rattle.std.specs.Ordering.{is_eq, nat_cmp, eq_by_cmp}
use Rattle.std.specs.Cmp.{IsTotalOrder, eq_by_cmp_equiv, nat_cmp_total, tied_itself, unsigned_ties}
use Rattle.std.specs.Cmp.Lexicographic.{slice_cmp, nat_list_cmp_total}
use Rattle.std.specs.FinMap.{IsAntisymmetric}
use Rattle.std.specs.FinMap.Entries.{is_sorted}
use Rattle.std.specs.List.{list_any}
use Rattle.std.specs.Map.{lookup}
use Rattle.std.proofs.Math.Bool.{not-not, or-false}
use Rattle.std.proofs.lemmas.Bool.{eqb-true}
use Rattle.std.proofs.lemmas.List.Folds.{list_any-append}
use Rattle.std.proofs.lemmas.Map.Lookups.{exact_bytes}
use Rattle.qstore_tree.specs.declared.node.Node.{Node}
use Rattle.qstore_tree.specs.InOrder.{in_order, keyed_by}
use Rattle.qstore_tree.specs.Names.{names_of}
use Rattle.qstore_tree.specs.Nodes.{names_in}
use Rattle.qstore_tree.specs.Tree.{RoomyTree, all_names, keyed, tree_of}
use Rattle.qstore_tree.proofs.AllNames.{none_above}
use Rattle.qstore_tree.proofs.InOrder.{first_of, in_order-sorted, lookup-in_order, second_of}
use Rattle.qstore_tree.proofs.Numbered.{numbered-get, numbered-sorted}

-- the list has no entry
abbrev pub is_bare : {X : Type 0} → List X → Bool
is_bare [] = true
is_bare (e ∷ es) = false

-- a number's test for 0
pub zero_test : (r : Bool) (n : ℕ) → (IsTrue r → n ≡ 0) → (n ≡ 0 → IsTrue r) → r ≡ (n == 0)
zero_test true n none all = sym (ap (λ x. x == 0) (none refl))
zero_test false n none all = elim (n == 0) as (λ b. (n == 0) ≡ b → false ≡ b) [
  | true ↦ λ p. all (eqb-true n 0 p)
  | false ↦ λ p. refl
] refl

-- what is one more is not 0
never : (n : ℕ) → suc n ≡ 0 → IsTrue false
never n is = let none : ⊥ = omega (arith, is) in absurd none

-- a list is bare where its length is 0
pub bare-length : {X : Type 0} (es : List X) → (length es == 0) ≡ is_bare es
bare-length [] = refl
bare-length (e ∷ es) = sym (zero_test false (length (e ∷ es)) (λ is. cc) (never (length es)))

-- where something is found there is an entry
bare-found : {K X : Type 0} (test : K → Bool) (es : List (K × X)) (x : X) → lookup test es ≡ Some x → is_bare es ≡ false
bare-found test [] x is = cc
bare-found test (e ∷ es) x is = refl

-- entries in order are as bare as the entries
bare-in_order : {K X : Type 0} {R : K → K → Ordering} (o : IsTotalOrder R) (same : IsAntisymmetric R) (es : List (K × X)) → is_bare (in_order R es) ≡ is_bare es
bare-in_order o same [] = ap is_bare (in_order-sorted o same [] tt)
bare-in_order {R = R} o same (e ∷ es) =
    bare-found (eq_by_cmp R e.0) (in_order R (e ∷ es)) e.1
    (lookup-in_order o same (e ∷ es) e.0 ∙ ap (λ r. cond (is_eq r) (Some e.1) (lookup (eq_by_cmp R e.0) es)) (tied_itself o e.0))

bare-keyed_by : {K L X : Type 0} (f : K → L) (es : List (K × X)) → is_bare (keyed_by f es) ≡ is_bare es
bare-keyed_by f [] = refl
bare-keyed_by f (e ∷ es) = refl

-- a table's names are as bare as the table
pub bare-names_of : {A : Type 0} (es : List (String A × ℕ)) → is_bare (names_of es) ≡ is_bare es
bare-names_of es = bare-in_order nat_list_cmp_total exact_bytes (keyed_by string_bytes es) ∙ bare-keyed_by string_bytes es

-- no name stands in this node, if one is there
abbrev pub has_none : Option Node → Bool
has_none None = true
has_none (Some node) = is_bare (names_in node.content)

-- some name of these has this directory
abbrev pub any_in : ℕ → List ((ℕ × List ℕ) × ℕ) → Bool
any_in dir names = list_any (λ e. e.0.0 == dir) names

-- in one directory's names, by whether it is the one
any-keyed : (d k : ℕ) (names : List (List ℕ × ℕ)) (b : Bool) → nat_eq k d ≡ b → any_in d (keyed k names) ≡ (b && not (is_bare names))
any-keyed d k [] true is = refl
any-keyed d k [] false is = refl
any-keyed d k (n ∷ names) true is = ap (λ b. b || any_in d (keyed k names)) is
any-keyed d k (n ∷ names) false is = ap (λ b. b || any_in d (keyed k names)) is ∙ any-keyed d k names false is

-- the first directory, or else what a later one has
first_any : (node : Node) (later : Option Node) (r : Ordering) → (r ≡ Equal → later ≡ None)
    → ((is_eq r && not (has_none (Some node))) || not (has_none later)) ≡ not (has_none (cond (is_eq r) (Some node) later))
first_any node later Less none = refl
first_any node later Equal none = ap (λ o. not (has_none (Some node)) || not (has_none o)) (none refl) ∙ or-false (not (has_none (Some node)))
first_any node later Greater none = refl

any-all_names : (d : ℕ) (es : List (ℕ × Node)) → T (is_sorted nat_cmp es) → any_in d (all_names es) ≡ not (has_none (lookup (eq_by_cmp nat_cmp d) es))
any-all_names d [] h = refl
any-all_names d (e ∷ es) h =
    let names = in_order (slice_cmp nat_cmp) (names_in e.1.content) in
    let later = lookup (eq_by_cmp nat_cmp d) es in
    let tie : nat_eq e.0 d ≡ eq_by_cmp nat_cmp d e.0 = unsigned_ties e.0 d ∙ (eq_by_cmp_equiv nat_cmp_total).symm e.0 d in
    list_any-append (λ n. n.0.0 == d) (keyed e.0 names) (all_names es)
    ∙ ap (λ b. b || any_in d (all_names es)) (any-keyed d e.0 names (eq_by_cmp nat_cmp d e.0) tie)
    ∙ ap (λ b. (eq_by_cmp nat_cmp d e.0 && not b) || any_in d (all_names es)) (bare-in_order nat_list_cmp_total exact_bytes (names_in e.1.content))
    ∙ ap (λ b. (eq_by_cmp nat_cmp d e.0 && not (has_none (Some e.1))) || b) (any-all_names d es (second_of _ _ h))
    ∙ first_any e.1 later (nat_cmp d e.0) (λ p. none_above d e.0 es p (first_of _ _ h))

-- what is seen of a tree tells whether a name stands in the inode of a number
pub has_none-seen : (nodes : List (ℕ × Node)) (spare : ℕ) (tree : RoomyTree) → tree_of nodes spare ≡ tree → (d : ℕ)
    → has_none (lookup (nat_eq d) nodes) ≡ not (list_any (λ e. e.0.0 == d) tree.names)
has_none-seen nodes spare tree seen d =
    sym (ap (λ t. not (any_in d t.names)) (sym seen) ∙ ap not (any-all_names d (in_order nat_cmp nodes) (numbered-sorted nodes))
    ∙ not-not (has_none (lookup (eq_by_cmp nat_cmp d) (in_order nat_cmp nodes))) ∙ ap has_none (numbered-get nodes d))
