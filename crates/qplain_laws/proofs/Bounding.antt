-- When a plain result has too many links: the one inode of which that has to be asked, for the proofs of stores that
-- count no table.
use Rattle.std.proofs.Common.{◌≡◌, ℕ, ◌+◌, ◌==◌, Bool, true, false, ◌&&◌, ◌||◌, ◌≤◌, not, nat_lt, cond, List, All, slice_index_or, Some, None, is_some, refl, sym, ap, ◌∙◌, tests, arith}
use Rattle.std.specs.List.Sorted.{IsStrictlySortedBy}
use Rattle.std.specs.Map.{keys_of}
use Rattle.std.specs.Ordering.{nat_cmp}
use Rattle.std.specs.Cmp.{nat_cmp_total}
use Rattle.std.proofs.lemmas.Bool.{and_left}
use Rattle.std.proofs.lemmas.List.Elements.{All-filter}
use Rattle.qplain.specs.declared.bounds.TheConstants.{MAX_LINKS}
use Rattle.qplain.specs.State.{Inode, State, inode_at, is_dir, is_directory, named}
use Rattle.qplain.specs.Use.{has_name, has_too_many_links, is_empty, links_of}
use Rattle.qplain.specs.Names.{created, with_name, without_name}
use Rattle.qplain.specs.Renames.{passes, renamed}
use Rattle.qplain_laws.specs.Laws.{FitsTogether, IsLawful}
use Rattle.qplain_laws.proofs.Tables.{All-insert_new, absent-fresh}
use Rattle.qplain_laws.proofs.Orders.{sorted-insert}
use Rattle.qplain_laws.proofs.Fitting.{or_right}
use Rattle.qplain_laws.proofs.FewLinks.{few-links, none-too_many}
use Rattle.qplain_laws.proofs.Finding.{found-at}
use Rattle.qplain_laws.proofs.Sweeping.{has_name-there, stays-swept}
use Rattle.qplain_laws.proofs.Filtering.{All-lookup, sorted-filter}
use Rattle.qplain_laws.proofs.Renaming.{has_name-renamed, outside}
use Rattle.qplain_laws.proofs.Relinking.{links_of-renamed-directory, links_of-renamed-file}
use Rattle.qplain_laws.proofs.Naming.{links_of-linked, links_of-linked-others}
use Rattle.qplain_laws.proofs.Linking.{inode_at-created-there, links_of-created-elsewhere, links_of-created-files, links_of-created-parent, links_of-new_directory}

-- in a lawful state an inode has no more links than an inode may have
pub links-bounded : (S : State) (number : ℕ) (inode : Inode) → IsLawful S → inode_at S number ≡ Some inode → links_of S number inode.dir ≤ MAX_LINKS
links-bounded S number inode lawful there =
    let few = All-lookup (λ e. nat_lt MAX_LINKS (links_of S e.0 e.1.dir) ≡ false) S.inodes number inode (few-links S lawful.parts.links) there in
    grind (arith, tests, few)

-- the inode has no more links than it may have, or is that of this number
abbrev pub is_few : State → ℕ → ℕ × Inode → Bool
is_few S number e = number == e.0 || not (nat_lt MAX_LINKS (links_of S e.0 e.1.dir))

-- where all inodes but that of one number have few links, its links alone decide
pub too_many-one : (S : State) (number : ℕ) (inode : Inode) → IsStrictlySortedBy nat_cmp (keys_of S.inodes) → inode_at S number ≡ Some inode
    → All (λ e. is_few S number e ≡ true) S.inodes → has_too_many_links S ≡ nat_lt MAX_LINKS (links_of S number inode.dir)
too_many-one S number inode sorted there few = by (nat_lt MAX_LINKS (links_of S number inode.dir)) refl
  where
    some : (b : Bool) → has_too_many_links S ≡ b → nat_lt MAX_LINKS (links_of S number inode.dir) ≡ true → b ≡ true
    some true h many = refl
    some false h many =
        let fewer : nat_lt MAX_LINKS (links_of S number inode.dir) ≡ false =
        All-lookup (λ e. nat_lt MAX_LINKS (links_of S e.0 e.1.dir) ≡ false) S.inodes number inode (few-links S h) there in
        cc

    each : (e : ℕ × Inode) (b : Bool) → (number == e.0) ≡ b → (b || not (nat_lt MAX_LINKS (links_of S e.0 e.1.dir))) ≡ true
        → inode_at S e.0 ≡ Some e.1 → nat_lt MAX_LINKS (links_of S number inode.dir) ≡ false → nat_lt MAX_LINKS (links_of S e.0 e.1.dir) ≡ false
    each e true same one found own =
        let equal : number ≡ e.0 = grind (arith, tests, same) in
        let it : Some inode ≡ Some e.1 = sym there ∙ ap (inode_at S) equal ∙ found in
        let is : inode ≡ e.1 = cc in
        (λ i. nat_lt MAX_LINKS (links_of S (sym equal i) (sym is i).dir)) ∙ own
    each e false other one found own = false-from (nat_lt MAX_LINKS (links_of S e.0 e.1.dir)) one
      where
        false-from : (b : Bool) → not b ≡ true → b ≡ false
        false-from true h = cc
        false-from false h = refl

    by : (b : Bool) → nat_lt MAX_LINKS (links_of S number inode.dir) ≡ b → has_too_many_links S ≡ b
    by true many = some (has_too_many_links S) refl many
    by false own =
        none-too_many S (λ k d below.
        let e : ℕ × Inode = slice_index_or S.inodes k d in
        each e (number == e.0) refl (few k d below) (found-at S sorted k d below) own)

-- an inode that keeps its links has few
pub few-kept : (S S1 : State) (number : ℕ) (e : ℕ × Inode) → ((number == e.0) ≡ false → links_of S1 e.0 e.1.dir ≡ links_of S e.0 e.1.dir)
    → nat_lt MAX_LINKS (links_of S e.0 e.1.dir) ≡ false → is_few S1 number e ≡ true
few-kept S S1 number e keeps few = by (number == e.0) keeps
  where
    by : (b : Bool) → (b ≡ false → links_of S1 e.0 e.1.dir ≡ links_of S e.0 e.1.dir) → (b || not (nat_lt MAX_LINKS (links_of S1 e.0 e.1.dir))) ≡ true
    by true same = refl
    by false same = ap (λ n. not (nat_lt MAX_LINKS n)) (same refl) ∙ ap not few

-- with a new directory it is the directory that it stands in
pub too_many-directory : (S : State) (inode parent : Inode) (dir : ℕ) (name : List ℕ) → FitsTogether S → named S dir name ≡ None → inode.dir ≡ true
    → inode_at S dir ≡ Some parent → parent.dir ≡ true
    → has_too_many_links (created S inode dir name) ≡ nat_lt MAX_LINKS (links_of S dir true + 1)
too_many-directory S inode parent dir name fits absent directory there stands =
    too_many-one S1 dir parent (sorted-insert nat_cmp_total S.inodes S.next inode fits.inodes.in_order)
    (inode_at-created-there S inode dir name dir none (ap (λ o. is_some o) there) ∙ there)
    (All-insert_new (λ e. is_few S1 dir e ≡ true) nat_cmp S.inodes S.next inode none
    (λ k d below.
    let e : ℕ × Inode = slice_index_or S.inodes k d in
    few-kept S S1 dir e (keeps e e.1.dir (found-at S fits.inodes.in_order k d below)) (few-links S fits.links k d below))
    (or_right (dir == S.next) (not (nat_lt MAX_LINKS (links_of S1 S.next inode.dir))) new))
    ∙ (λ i. nat_lt MAX_LINKS (links_of S1 dir (stands i)))
    ∙ ap (nat_lt MAX_LINKS) (links_of-created-parent S inode dir name fits absent directory)
  where
    S1 : State
    S1 = created S inode dir name

    none : inode_at S S.next ≡ None
    none = absent-fresh S.inodes S.next fits.inodes.fresh

    keeps : (e : ℕ × Inode) (b : Bool) → inode_at S e.0 ≡ Some e.1 → (dir == e.0) ≡ false → links_of S1 e.0 b ≡ links_of S e.0 b
    keeps e true found other = links_of-created-elsewhere S inode dir name fits absent e.0 other
    keeps e false found other = links_of-created-files S inode dir name fits absent e.0 e.1 found

    new : not (nat_lt MAX_LINKS (links_of S1 S.next inode.dir)) ≡ true
    new =
        (λ i. not (nat_lt MAX_LINKS (links_of S1 S.next (directory i))))
        ∙ ap (λ n. not (nat_lt MAX_LINKS n)) (links_of-new_directory S inode dir name fits absent (ap is_dir there ∙ stands))

-- with a further name it is the file that has it
pub too_many-linked : (S : State) (number : ℕ) (inode : Inode) (dir : ℕ) (name : List ℕ) → FitsTogether S → inode_at S number ≡ Some inode
    → inode.dir ≡ false → is_directory S dir ≡ true → named S dir name ≡ None
    → has_too_many_links (with_name S dir name number) ≡ nat_lt MAX_LINKS (links_of S number false + 1)
too_many-linked S number inode dir name fits there is_file stands absent =
    too_many-one (with_name S dir name number) number inode fits.inodes.in_order there
    (λ k d below.
    let e : ℕ × Inode = slice_index_or S.inodes k d in
    few-kept S (with_name S dir name number) number e
    (λ other. links_of-linked-others S number inode dir name fits there is_file stands absent e.0 e.1.dir
    (or_right e.1.dir (not (number == e.0)) (ap not other)))
    (few-links S fits.links k d below))
    ∙ (λ i. nat_lt MAX_LINKS (links_of (with_name S dir name number) number (is_file i)))
    ∙ ap (nat_lt MAX_LINKS) (links_of-linked S number inode dir name fits there is_file stands absent)

-- an inode that has no more links than before has few
few-fewer : (S S1 : State) (number : ℕ) (e : ℕ × Inode) → ((number == e.0) ≡ false → links_of S1 e.0 e.1.dir ≤ links_of S e.0 e.1.dir)
    → nat_lt MAX_LINKS (links_of S e.0 e.1.dir) ≡ false → is_few S1 number e ≡ true
few-fewer S S1 number e fewer few = by (number == e.0) fewer
  where
    by : (b : Bool) → (b ≡ false → links_of S1 e.0 e.1.dir ≤ links_of S e.0 e.1.dir) → (b || not (nat_lt MAX_LINKS (links_of S1 e.0 e.1.dir))) ≡ true
    by true l = refl
    by false l = below (links_of S e.0 e.1.dir) (links_of S1 e.0 e.1.dir) (l refl) few
      where
        below : (n m : ℕ) → m ≤ n → nat_lt MAX_LINKS n ≡ false → not (nat_lt MAX_LINKS m) ≡ true
        below n m l h = let few_too : nat_lt MAX_LINKS m ≡ false = grind (arith, tests, l, h) in ap not few_too

-- with a name in place of another it is the directory that the name comes to
pub too_many-renamed : (S : State) (dir : ℕ) (name : List ℕ) (number : ℕ) (inode parent : Inode) (to_dir : ℕ) (to_name : List ℕ) → FitsTogether S
    → named S dir name ≡ Some number → inode_at S number ≡ Some inode → inode_at S to_dir ≡ Some parent → parent.dir ≡ true
    → passes (λ n. n == number) (named S to_dir to_name) ≡ false → passes (λ n. not (is_empty S n)) (named S to_dir to_name) ≡ false
    → has_too_many_links (renamed S dir name to_dir to_name number) ≡ nat_lt MAX_LINKS (links_of (renamed S dir name to_dir to_name number) to_dir true)
too_many-renamed S dir name number inode parent to_dir to_name fits led there there_too directory other empty =
    too_many-one M1 to_dir parent (sorted-filter (λ (e : ℕ × Inode). has_name W e.0) nat_cmp S.inodes fits.inodes.in_order)
    (stays-swept S W.names to_dir
    (has_name-renamed S dir name number inode to_dir to_name fits led there stands other empty to_dir
    (outside S dir name number inode to_dir to_name fits led there stands other empty (named S to_dir to_name) refl empty)
    ∙ has_name-there S fits to_dir (ap (λ o. is_some o) there_too)) ∙ there_too)
    (All-filter (λ (e : ℕ × Inode). has_name W e.0) (λ e. is_few M1 to_dir e ≡ true) S.inodes (λ k d below.
    let e : ℕ × Inode = slice_index_or S.inodes k d in
    few-fewer S M1 to_dir e (fewer e.0 e.1.dir) (few-links S fits.links k d below)))
    ∙ (λ i. nat_lt MAX_LINKS (links_of M1 to_dir (directory i)))
  where
    W : State
    W = with_name (without_name (without_name S dir name) to_dir to_name) to_dir to_name number

    M1 : State
    M1 = renamed S dir name to_dir to_name number

    stands : is_directory S to_dir ≡ true
    stands = ap is_dir there_too ∙ directory

    fewer : (q : ℕ) (b : Bool) → (to_dir == q) ≡ false → links_of M1 q b ≤ links_of S q b
    fewer q false apart = let sum = links_of-renamed-file S dir name number inode to_dir to_name fits led there stands other empty q in omega (arith, sum)
    fewer q true apart =
        let sum = links_of-renamed-directory S dir name number inode to_dir to_name fits led there stands other empty q in
        let none : ◌≡◌ {A = ℕ} (cond (to_dir == q && is_directory S number) 1 0) 0 =
        ap (λ c. cond c 1 0) (and_left (to_dir == q) (is_directory S number) apart) in
        omega (arith, sum, none)
