-- An opening with one name more, behind all others.
use Rattle.std.proofs.Common.{◌≡◌, ℕ, ◌+◌, ◌==◌, Bool, true, false, ◌&&◌, ◌||◌, cond, nat_lt, List, [], ◌∷◌, ◌++◌, count_by, Option, Some, None, option_map, refl, sym, ap, subst, ◌∙◌, arith, tests}
use Rattle.std.specs.BTreeMap.{is_at}
use Rattle.std.specs.Cmp.{unsigned_ties}
use Rattle.std.specs.Map.{lookup, set_value}
use Rattle.std.specs.Ordering.{nat_cmp}
use Rattle.std.proofs.lemmas.Bool.{eq-eqb, eqb-true}
use Rattle.std.proofs.lemmas.List.Sums.{sum_by-append}
use Rattle.qplain.specs.State.{Inode, NameKey, State, inode_at, is_dir, is_directory}
use Rattle.qplain.specs.Use.{links_of, names_to}
use Rattle.qplain_laws.proofs.Tables.{same-number}
use Rattle.qstore_tree.specs.TreeOf.{AreLinks}
use Rattle.qstore_tree.proofs.Directories.{directory-there}
use Rattle.qstore_change.proofs.ParentLinks.{lookup-recounted}
use Rattle.qstore_open.specs.Named.{is_among}

count-end : {X : Type 0} (p : X → Bool) (xs : List X) (x : X) → count_by p (xs ++ x ∷ []) ≡ count_by p xs + cond (p x) 1 0
count-end {X} p xs x = sum_by-append (λ (y : X). cond (p y) 1 0) xs (x ∷ []) ∙ ap (λ n. count_by p xs + n) (last (cond (p x) 1 0))
  where
    last : (n : ℕ) → 0 + n ≡ n
    last n = omega arith

none-more : (n : ℕ) → n + 0 ≡ n
none-more n = omega arith

-- links of a state with the same inodes are kept where one of them is counted once more
module _ (S T : State) (links : List (ℕ × ℕ)) (kept : AreLinks S links) (same : T.inodes ≡ S.inodes) (at old : ℕ) where
  abbrev links_in : State → ℕ → Option Inode → Option ℕ
  links_in U q o = option_map (λ inode. links_of U q inode.dir) o

  links-counted : lookup (is_at (nat_cmp at)) links ≡ Some old
      → ((inode : Inode) → inode_at S at ≡ Some inode → links_of T at inode.dir ≡ old + 1)
      → ((q : ℕ) (inode : Inode) → inode_at S q ≡ Some inode → (at == q) ≡ false → links_of T q inode.dir ≡ links_of S q inode.dir)
      → AreLinks T (set_value (is_at (nat_cmp at)) links (old + 1))
  links-counted there here others q =
      lookup-recounted links at old (old + 1) q there ∙ by (is_at (nat_cmp at) q) refl
      ∙ ap (λ es. links_in T q (lookup (is_at (nat_cmp q)) es)) (sym same)
    where
      found : (o : Option Inode) → inode_at S at ≡ o → Some (old + 1) ≡ links_in T at o
      found None is = absurd (cc (sym there ∙ kept at ∙ ap (links_in S at) is))
      found (Some inode) is = ap Some (sym (here inode is))

      other : (at == q) ≡ false → (o : Option Inode) → inode_at S q ≡ o → links_in S q o ≡ links_in T q o
      other apart-is None is = refl
      other apart-is (Some inode) is = ap Some (sym (others q inode is apart-is))

      by : (b : Bool) → is_at (nat_cmp at) q ≡ b
          → cond b (Some (old + 1)) (lookup (is_at (nat_cmp q)) links) ≡ links_in T q (inode_at S q)
      by true is = subst (λ n. Some (old + 1) ≡ links_in T n (inode_at S n)) (same-number at q is) (found (inode_at S at) refl)
      by false is = kept q ∙ other (unsigned_ties at q ∙ is) (inode_at S q) refl

eqb-refl : (n : ℕ) → (n == n) ≡ true
eqb-refl n = eq-eqb n n refl

module _ (S : State) (dir number : ℕ) (name : List ℕ) where
  -- the state with the name
  abbrev pub named_too : State
  named_too = record S { names = S.names ++ ((dir, name), number) ∷ [] }

  pub names_to-more : (n : ℕ) → names_to named_too n ≡ names_to S n + cond (number == n) 1 0
  names_to-more n = count-end (λ (e : NameKey × ℕ). e.1 == n) S.names ((dir, name), number)

  links-directory-more : (n : ℕ) → links_of named_too n true ≡ links_of S n true + cond (dir == n && is_directory S number) 1 0
  links-directory-more n =
      ap (λ m. 2 + m) (count-end (λ (e : NameKey × ℕ). e.0.0 == n && is_directory S e.1) S.names ((dir, name), number))
      ∙ sums (count_by (λ e. e.0.0 == n && is_directory S e.1) S.names) (cond (dir == n && is_directory S number) 1 0)
    where
      sums : (a b : ℕ) → 2 + (a + b) ≡ (2 + a) + b
      sums a b = omega arith

  links-file-more : (n : ℕ) → links_of named_too n false ≡ links_of S n false + cond (number == n) 1 0
  links-file-more n = names_to-more n

  -- ---- where it leads to a directory

  module _ (directory : is_directory S number ≡ true) where
    -- another inode keeps its links
    of-directory : (q : ℕ) (inode : Inode) → inode_at S q ≡ Some inode → (dir == q) ≡ false → links_of named_too q inode.dir ≡ links_of S q inode.dir
    of-directory q inode there other = by inode.dir refl
      where
        apart : (b : Bool) → (number == q) ≡ b → inode.dir ≡ false → names_to S q + cond b 1 0 ≡ names_to S q
        apart false apart-is is = none-more (names_to S q)
        apart true same is = absurd (cc (sym directory ∙ ap (λ n. is_directory S n) (eqb-true number q same) ∙ ap is_dir there ∙ is))

        by : (d : Bool) → inode.dir ≡ d → links_of named_too q d ≡ links_of S q d
        by true is =
            links-directory-more q ∙ ap (λ b. links_of S q true + cond (b && is_directory S number) 1 0) other ∙ none-more (links_of S q true)
        by false is = links-file-more q ∙ apart (number == q) refl is

    in-directory : (inode : Inode) → is_directory S dir ≡ true → inode_at S dir ≡ Some inode → links_of named_too dir inode.dir ≡ links_of S dir true + 1
    in-directory inode stands there =
        ap (λ b. links_of named_too dir b) (sym (ap is_dir there) ∙ stands)
        ∙ links-directory-more dir ∙ (λ i. links_of S dir true + cond (eqb-refl dir i && directory i) 1 0)

    pub links-in-directory : (links : List (ℕ × ℕ)) → AreLinks S links → is_directory S dir ≡ true
        → AreLinks named_too (set_value (is_at (nat_cmp dir)) links (links_of S dir true + 1))
    links-in-directory links kept stands =
        let parent = directory-there (inode_at S dir) stands in
        links-counted S named_too links kept refl dir (links_of S dir true)
        (kept dir ∙ ap (option_map (λ i. links_of S dir i.dir)) parent.there ∙ ap (λ b. Some (links_of S dir b)) parent.directory)
        (λ inode there. in-directory inode stands there) of-directory

  -- ---- where it leads to a file

  module _ (file : is_directory S number ≡ false) where
    of-file : (q : ℕ) (inode : Inode) → inode_at S q ≡ Some inode → (number == q) ≡ false → links_of named_too q inode.dir ≡ links_of S q inode.dir
    of-file q inode there other = by inode.dir
      where
        no-and : (b : Bool) → (b && is_directory S number) ≡ false
        no-and true = file
        no-and false = refl

        by : (d : Bool) → links_of named_too q d ≡ links_of S q d
        by true = links-directory-more q ∙ ap (λ b. links_of S q true + cond b 1 0) (no-and (dir == q)) ∙ none-more (links_of S q true)
        by false = links-file-more q ∙ ap (λ b. names_to S q + cond b 1 0) other ∙ none-more (names_to S q)

    pub links-in-file : (links : List (ℕ × ℕ)) (inode : Inode) → AreLinks S links → inode_at S number ≡ Some inode
        → AreLinks named_too (set_value (is_at (nat_cmp number)) links (names_to S number + 1))
    links-in-file links inode kept there =
        links-counted S named_too links kept refl number (names_to S number)
        (kept number ∙ ap (option_map (λ i. links_of S number i.dir)) there ∙ ap (λ b. Some (links_of S number b)) (sym (ap is_dir there) ∙ file))
        (λ i is. ap (λ b. links_of named_too number b) (sym (ap is_dir is) ∙ file) ∙ links-file-more number
        ∙ ap (λ b. names_to S number + cond b 1 0) (eqb-refl number))
        of-file

  -- ---- which directories have a name

  pub named-directory : (old new : List ℕ) → is_directory S number ≡ true
      → ((n : ℕ) → is_among n old ≡ (is_directory S n && nat_lt 0 (names_to S n)))
      → ((n : ℕ) → is_among n new ≡ (number == n || is_among n old))
      → (n : ℕ) → is_among n new ≡ (is_directory S n && nat_lt 0 (names_to named_too n))
  named-directory old new directory kept added n =
      added n ∙ ap (λ b. number == n || b) (kept n) ∙ by (number == n) refl
      ∙ ap (λ m. is_directory S n && nat_lt 0 m) (sym (names_to-more n))
    where
      by : (b : Bool) → (number == n) ≡ b
          → (b || (is_directory S n && nat_lt 0 (names_to S n))) ≡ (is_directory S n && nat_lt 0 (names_to S n + cond b 1 0))
      by true is = sym (λ i. (ap (λ m. is_directory S m) (sym (eqb-true number n is)) ∙ directory) i && some (names_to S n) i)
        where
          some : (m : ℕ) → nat_lt 0 (m + 1) ≡ true
          some m = grind (arith, tests)
      by false is = ap (λ m. is_directory S n && nat_lt 0 m) (sym (none-more (names_to S n)))

  pub named-file : (keys : List ℕ) → is_directory S number ≡ false
      → ((n : ℕ) → is_among n keys ≡ (is_directory S n && nat_lt 0 (names_to S n)))
      → (n : ℕ) → is_among n keys ≡ (is_directory S n && nat_lt 0 (names_to named_too n))
  named-file keys file kept n =
      kept n ∙ by (number == n) refl ∙ ap (λ m. is_directory S n && nat_lt 0 m) (sym (names_to-more n))
    where
      by : (b : Bool) → (number == n) ≡ b
          → (is_directory S n && nat_lt 0 (names_to S n)) ≡ (is_directory S n && nat_lt 0 (names_to S n + cond b 1 0))
      by true is =
          let no : is_directory S n ≡ false = ap (λ m. is_directory S m) (sym (eqb-true number n is)) ∙ file in
          ap (λ b. b && nat_lt 0 (names_to S n)) no ∙ ap (λ b. b && nat_lt 0 (names_to S n + 1)) (sym no)
      by false is = ap (λ m. is_directory S n && nat_lt 0 m) (sym (none-more (names_to S n)))
