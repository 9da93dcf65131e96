-- What a further name of a file leaves: a state that fits together, its names and its links.
use Rattle.std.proofs.Common.{◌≡◌, ℕ, ◌+◌, ◌≤◌, ◌==◌, Bool, true, false, not, ◌&&◌, ◌||◌, nat_lt, cond, List, All, count_by, slice_index_or, None, Some, is_some, refl, sym, ap, subst, ◌∙◌, tests, arith}
use Rattle.std.specs.BTreeMap.{insert_entry}
use Rattle.std.proofs.lemmas.Bool.{and_from, and_parts, and_right}
use Rattle.qplain.specs.declared.bounds.TheConstants.{ROOT}
use Rattle.qplain.specs.State.{Inode, NameKey, State, inode_at, is_dir, is_directory, name_key_cmp, named}
use Rattle.qplain.specs.Use.{has_name, has_too_many_links, links_of, names_to}
use Rattle.qplain.specs.Names.{swept, with_name}
use Rattle.qplain_laws.specs.Laws.{FitsTogether, has_right_names, leads}
use Rattle.qplain_laws.proofs.Tables.{All-insert_new, name_key_total, sum_by-insert_new}
use Rattle.qplain_laws.proofs.Orders.{sorted-insert}
use Rattle.qplain_laws.proofs.Filtering.{filter-all}
use Rattle.qplain_laws.proofs.Finding.{found-at}
use Rattle.qplain_laws.proofs.Fitting.{not_both, some-is_dir}
use Rattle.qplain_laws.proofs.Sweeping.{few-from_right, has_few, has_name-there, named-from_right, swept_fits}

-- more names are a name still
named-more : (is_root : Bool) (n m : ℕ) → n ≤ m → (is_root || nat_lt 0 n) ≡ true → (is_root || nat_lt 0 m) ≡ true
named-more true n m l h = refl
named-more false n m l h = grind (arith, tests, l, h)

module _ (S : State) (number : ℕ) (inode : Inode) (dir : ℕ) (name : List ℕ) (fits : FitsTogether S) (there : inode_at S number ≡ Some inode)
    (is_file : inode.dir ≡ false) (stands : is_directory S dir ≡ true) (absent : named S dir name ≡ None) where
  -- the state with the name
  abbrev N1 : State
  N1 = with_name S dir name number

  -- how many names lead to a number then
  pub names_to-with : (q : ℕ) → names_to (with_name S dir name number) q ≡ names_to S q + cond (number == q) 1 0
  names_to-with q = sum_by-insert_new (λ (e : NameKey × ℕ). cond (e.1 == q) 1 0) name_key_cmp S.names (dir, name) number absent

  -- what had a name has one
  pub has_name-with : (q : ℕ) → has_name S q ≡ true → has_name (with_name S dir name number) q ≡ true
  has_name-with q h =
      let sum = names_to-with q in
      let l : names_to S q ≤ names_to N1 q = omega (arith, sum) in
      named-more (q == ROOT) (names_to S q) (names_to N1 q) l h

  few-with : (e : ℕ × Inode) → inode_at S e.0 ≡ Some e.1 → has_right_names S e ≡ true → has_few (e.0 == ROOT) e.1.dir (names_to N1 e.0) ≡ true
  few-with e found counted = by (number == e.0) refl
    where
      by : (b : Bool) → (number == e.0) ≡ b → has_few (e.0 == ROOT) e.1.dir (names_to N1 e.0) ≡ true
      by true same =
          let equal : e.0 ≡ number = grind (arith, tests, same) in
          let one : Some e.1 ≡ Some inode = sym found ∙ ap (λ n. inode_at S n) equal ∙ there in
          let no_dir : e.1.dir ≡ false = ap is_dir one ∙ is_file in
          let no_root : (e.0 == ROOT) ≡ false = not_both (e.0 == ROOT) (λ at_root.
          let root : e.0 ≡ ROOT = grind (arith, tests, at_root) in
          let directory : is_directory S e.0 ≡ true = ap (λ n. is_directory S n) root ∙ fits.inodes.root_stands in
          let file : is_directory S e.0 ≡ false = ap is_dir found ∙ no_dir in
          cc) in
          rw (no_root, no_dir) refl
      by false other =
          let sum = names_to-with e.0 in
          let none : ◌≡◌ {A = ℕ} (cond (number == e.0) 1 0) 0 = rw other refl in
          let l : names_to N1 e.0 ≤ names_to S e.0 = omega (arith, sum, none) in
          few-from_right (e.0 == ROOT) e.1.dir (names_to S e.0) (names_to N1 e.0) l counted

  -- the sweep takes nothing
  all-stay : swept N1 ≡ N1
  all-stay =
      let all : All (λ e. has_name N1 e.0 ≡ true) S.inodes = λ k d below.
      let e : ℕ × Inode = slice_index_or S.inodes k d in
      has_name-with e.0 (named-from_right (e.0 == ROOT) e.1.dir (names_to S e.0) (fits.names.counted k d below)) in
      λ i. record S {
        inodes = filter-all (λ (e : ℕ × Inode). has_name N1 e.0) S.inodes all i;
        names = insert_entry name_key_cmp S.names (dir, name) number;
      }

  -- a further name of a file leaves parts that fit together
  pub linked_fits : has_too_many_links (with_name S dir name number) ≡ false → FitsTogether (with_name S dir name number)
  linked_fits few = subst FitsTogether all-stay
      (swept_fits S (insert_entry name_key_cmp S.names (dir, name) number) fits
      (sorted-insert name_key_total S.names (dir, name) number fits.names.in_order)
      (All-insert_new (λ e. leads S e ≡ true) name_key_cmp S.names (dir, name) number absent fits.names.lead
      (and_from (is_directory S dir) (is_some (inode_at S number)) stands (ap is_some there)))
      (λ k d below. few-with (slice_index_or S.inodes k d) (found-at S fits.inodes.in_order k d below) (fits.names.counted k d below))
      (All-insert_new (λ e. has_name N1 e.0.0 ≡ true) name_key_cmp S.names (dir, name) number absent
      (λ k d below.
      let e : NameKey × ℕ = slice_index_or S.names k d in
      let at : is_directory S e.0.0 ≡ true = (and_parts (is_directory S e.0.0) (is_some (inode_at S e.1)) (fits.names.lead k d below)).0 in
      has_name-with e.0.0 (has_name-there S fits e.0.0 (some-is_dir (inode_at S e.0.0) at)))
      (has_name-with dir (has_name-there S fits dir (some-is_dir (inode_at S dir) stands))))
      (ap has_too_many_links all-stay ∙ few))

  -- ---- links

  -- the file has one link more
  pub links_of-linked : links_of (with_name S dir name number) number false ≡ links_of S number false + 1
  links_of-linked =
      let sum = names_to-with number in
      let itself : (number == number) ≡ true = grind (arith, tests) in
      let one : ◌≡◌ {A = ℕ} (cond (number == number) 1 0) 1 = rw itself refl in
      omega (arith, sum, one)

  -- other inodes have as many as before
  pub links_of-linked-others : (q : ℕ) (b : Bool) → (b || not (number == q)) ≡ true → links_of (with_name S dir name number) q b ≡ links_of S q b
  links_of-linked-others q true other =
      let sum = sum_by-insert_new (λ (e : NameKey × ℕ). cond (e.0.0 == q && is_directory S e.1) 1 0) name_key_cmp S.names (dir, name) number absent in
      let none : ◌≡◌ {A = ℕ} (cond (dir == q && is_directory S number) 1 0) 0 =
      ap (λ c. cond c 1 0) (and_right (dir == q) (is_directory S number) (ap is_dir there ∙ is_file)) in
      let same : count_by (λ e. e.0.0 == q && is_directory S e.1) (insert_entry name_key_cmp S.names (dir, name) number)
      ≡ count_by (λ e. e.0.0 == q && is_directory S e.1) S.names = omega (arith, sum, none) in
      ap (λ n. 2 + n) same
  links_of-linked-others q false other =
      let sum = names_to-with q in
      let none : ◌≡◌ {A = ℕ} (cond (number == q) 1 0) 0 = ap (λ c. cond c 1 0) (false-from_not (number == q) other) in
      omega (arith, sum, none)
    where
      false-from_not : (b : Bool) → not b ≡ true → b ≡ false
      false-from_not true h = cc
      false-from_not false h = refl
