-- The links that a recount finds in a state's rows are the counted links.
use Rattle.std.proofs.Common.{◌≡◌, ℕ, ◌+◌, ◌==◌, Bool, true, false, ◌||◌, ◌&&◌, not, cond, count_by, List, [], ◌∷◌, Some, refl, sym, ap, ◌∙◌, arith, tests}
use Rattle.std.specs.BTreeMap.{is_at}
use Rattle.std.specs.Cmp.{eq_by_cmp_equiv, nat_cmp_total, unsigned_ties}
use Rattle.std.specs.List.{list_any}
use Rattle.std.specs.List.Sorted.{IsStrictlySortedBy}
use Rattle.std.specs.Map.{keys_of, lookup}
use Rattle.std.specs.Ordering.{nat_cmp}
use Rattle.std.proofs.lemmas.Map.{lookup-none}
use Rattle.std.proofs.lemmas.Map.Entries.{none_past_head}
use Rattle.std.proofs.lemmas.Map.Keys.{IsDistinct-from_sorted, sorted_tail}
use Rattle.qplain.specs.State.{Inode, State, is_dir, is_directory}
use Rattle.qplain.specs.Use.{links_of}
use Rattle.qaudit.specs.Recount as rows
use Rattle.qaudit.specs.Recount.{counted_links}
use Rattle.qstore.specs.Rows.{inode_row_of, name_row_of}
use Rattle.qaudit_checks.specs.OwnRows.{inode_rows, name_rows}
use Rattle.qaudit_checks.proofs.Rows.{list_any-map, sum_by-map}

same-number : (m n : ℕ) → (m == n) ≡ (n == m)
same-number m n = grind (arith, tests)

-- the first row's number is the one that is looked for, so no later one has it; or it is not
first_directory : (here dir later found : Bool) → (here ≡ true → later ≡ false) → later ≡ found
    → ((dir && here) || later) ≡ cond here dir found
first_directory true true later found alone same = refl
first_directory true false later found alone same = alone refl
first_directory false true later found alone same = same
first_directory false false later found alone same = same

is_dir-cond : (here : Bool) (inode : Inode) (es : List (ℕ × Inode)) (n : ℕ)
    → is_dir (cond here (Some inode) (lookup (is_at (nat_cmp n)) es)) ≡ cond here inode.dir (is_dir (lookup (is_at (nat_cmp n)) es))
is_dir-cond true inode es n = refl
is_dir-cond false inode es n = refl

-- a row of a directory has a number where the inode there is a directory
directory-entries : (es : List (ℕ × Inode)) (n : ℕ) → IsStrictlySortedBy nat_cmp (keys_of es)
    → list_any (λ e. e.1.dir && e.0 == n) es ≡ is_dir (lookup (is_at (nat_cmp n)) es)
directory-entries [] n sorted = refl
directory-entries (e ∷ es) n sorted =
    let later : list_any (λ x. x.1.dir && x.0 == n) es ≡ is_dir (lookup (is_at (nat_cmp n)) es) =
    directory-entries es n (sorted_tail nat_cmp e.0 (keys_of es) sorted) in
    let tied : (e.0 == n) ≡ is_at (nat_cmp n) e.0 = same-number e.0 n ∙ unsigned_ties n e.0 in
    let alone : is_at (nat_cmp n) e.0 ≡ true → list_any (λ x. x.1.dir && x.0 == n) es ≡ false =
    λ here. later ∙ ap (λ o. is_dir o) (lookup-none (is_at (nat_cmp n)) es (none_past_head (eq_by_cmp_equiv nat_cmp_total) n e es
    (IsDistinct-from_sorted nat_cmp (keys_of (e ∷ es)) sorted) here)) in
    ap (λ b. (e.1.dir && b) || list_any (λ x. x.1.dir && x.0 == n) es) tied
    ∙ first_directory (is_at (nat_cmp n) e.0) e.1.dir (list_any (λ x. x.1.dir && x.0 == n) es) (is_dir (lookup (is_at (nat_cmp n)) es)) alone later
    ∙ sym (is_dir-cond (is_at (nat_cmp n) e.0) e.1 es n)

directory-rows : (S : State) (n : ℕ) → IsStrictlySortedBy nat_cmp (keys_of S.inodes) → rows.is_directory (inode_rows S) n ≡ is_directory S n
directory-rows S n sorted =
    list_any-map (λ row. row.dir && row.ino == n) (inode_row_of S) S.inodes ∙ directory-entries S.inodes n sorted

-- the counted links of a row
links-counted : (S : State) (n : ℕ) (dir : Bool) → IsStrictlySortedBy nat_cmp (keys_of S.inodes)
    → cond dir (2 + rows.subdirectories (inode_rows S) (name_rows S) n) (rows.names_to (name_rows S) n) ≡ links_of S n dir
links-counted S n false sorted = sum_by-map (λ m. cond (m.ino == n) 1 0) name_row_of S.names
links-counted S n true sorted =
    ap (λ c. 2 + c) (sum_by-map (λ m. cond (m.dir == n && rows.is_directory (inode_rows S) m.ino) 1 0) name_row_of S.names
    ∙ (λ i. count_by (λ e. e.0.0 == n && directory-rows S e.1 sorted i) S.names))

-- no inode of a state shows other links than a recount of its rows
pub links_agree : (S : State) (e : ℕ × Inode) → IsStrictlySortedBy nat_cmp (keys_of S.inodes)
    → not (links_of S e.0 e.1.dir == counted_links (inode_rows S) (name_rows S) (inode_row_of S e)) ≡ false
links_agree S e sorted = rw (links-counted S e.0 e.1.dir sorted) (grind (arith, tests))
