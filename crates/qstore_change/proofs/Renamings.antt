-- The kept counts after a name took the place of another, before what it replaces loses a link.
use Rattle.std.proofs.Common.{◌≡◌, ℕ, ◌+◌, ◌-◌, ◌==◌, Bool, true, false, not, ◌&&◌, cond, is_some, List, Option, Some, None, refl, sym, ap, subst, ◌∙◌, arith, tests}
use Rattle.std.specs.Ordering.{nat_cmp}
use Rattle.std.specs.Cmp.{unsigned_ties}
use Rattle.std.specs.BTreeMap.{insert_entry, is_at}
use Rattle.std.specs.Map.{lookup, remove_entry, set_value}
use Rattle.std.proofs.lemmas.Bool.{and_parts}
use Rattle.qplain.specs.Renames.{passes, renamed}
use Rattle.qplain.specs.State.{Inode, State, inode_at, is_dir, is_directory, name_key_cmp, named}
use Rattle.qplain.specs.Use.{links_of}
use Rattle.qplain_laws.specs.Laws.{IsLawful, leads}
use Rattle.qplain_laws.proofs.Finding.{found-key}
use Rattle.qplain_laws.proofs.Relinking.{links_of-moved-file, links_of-renamed-directory}
use Rattle.qplain_laws.proofs.Sweeping.{key-dir}
use Rattle.qplain_laws.proofs.Tables.{same-number}
use Rattle.qstore_tree.specs.Room.{Room}
use Rattle.qstore_tree.specs.Tree.{RoomyTree}
use Rattle.qstore_tree.specs.TreeOf.{AreLinks, IsTreeOf}
use Rattle.qstore_tree.proofs.Directories.{directory-there}
use Rattle.qstore_change.specs.Moves.{moved_links}
use Rattle.qstore_change.specs.Changes.{CanRename}
use Rattle.qstore_change.proofs.Making.{InOrder}
use Rattle.qstore_change.proofs.ParentLinks.{order-recounted, parent-links}
use Rattle.qstore_change.proofs.Recounts.{AreCounts, counts-agree, counts-recounted, recount}

module _ (S : State) (room : Room) (lawful : IsLawful S) (dir : ℕ) (name : List ℕ) (number to_dir : ℕ) (to_name : List ℕ)
    (can : CanRename S room dir name to_dir to_name number) where
  abbrev M1 : State
  M1 = renamed S dir name to_dir to_name number

  -- the links of directories then, and of files before
  abbrev pub moved : ℕ → Bool → ℕ
  moved q is_dir = cond is_dir (links_of M1 q true) (links_of S q false)

  -- the first name stands in a directory
  pub leaves : is_directory S dir ≡ true
  leaves =
      let key = found-key (λ e. leads S e ≡ true) (is_at (name_key_cmp (dir, name))) S.names number lawful.parts.names.lead can.led in
      ap (λ d. is_directory S d) (key-dir dir name key.0 key.1) ∙ (and_parts (is_directory S key.0.0) (is_some (inode_at S number)) key.2).0

  -- what stands where a directory does is one
  standing : (d q : ℕ) (inode : Inode) → is_directory S d ≡ true → is_at (nat_cmp d) q ≡ true → inode_at S q ≡ Some inode → inode.dir ≡ true
  standing d q inode stands at there = sym (ap is_dir there) ∙ ap (λ n. is_directory S n) (sym (same-number d q at)) ∙ stands

  -- ---- a file moves

  -- no directory has other links
  counts-file : (links : List (ℕ × ℕ)) → AreLinks S links → can.inode.dir ≡ false → AreCounts S moved links
  counts-file links are file = counts-agree S (links_of S) moved links are (λ q inode there. by q inode.dir)
    where
      by : (q : ℕ) (b : Bool) → links_of S q b ≡ moved q b
      by q true =
          sym (links_of-moved-file S dir name number can.inode to_dir to_name lawful.parts can.led can.there can.directory can.other can.empty q file
          (ap (λ b. not b && passes (λ n. is_directory S n) (named S to_dir to_name)) (sym file) ∙ can.onto_file))
      by q false = refl

  -- ---- a directory moves

  and-true : (b : Bool) → (b && true) ≡ b
  and-true true = refl
  and-true false = refl

  -- what it replaces is one
  onto-directory : can.inode.dir ≡ true → (o : Option ℕ) → named S to_dir to_name ≡ o → passes (λ n. is_directory S n) (named S to_dir to_name) ≡ is_some o
  onto-directory directory None none = ap (passes (λ n. is_directory S n)) none
  onto-directory directory (Some t) led_to =
      let onto : not (is_directory S t) ≡ false =
      (λ i. sym directory i && passes (λ n. not (is_directory S n)) (sym led_to i)) ∙ can.onto_directory in
      ap (passes (λ n. is_directory S n)) led_to ∙ true-from (is_directory S t) onto
    where
      true-from : (b : Bool) → not b ≡ false → b ≡ true
      true-from true h = refl
      true-from false h = cc

  -- the links of a directory before and then
  equation : can.inode.dir ≡ true → (o : Option ℕ) → named S to_dir to_name ≡ o → (q : ℕ) (a b : Bool) → is_at (nat_cmp dir) q ≡ a
      → is_at (nat_cmp to_dir) q ≡ b
      → links_of M1 q true + cond a 1 0 + cond (b && is_some o) 1 0 ≡ links_of S q true + cond b 1 0
  equation directory o led_to q a b at at_to =
      let is : is_directory S number ≡ true = ap is_dir can.there ∙ directory in
      let from : (dir == q) ≡ a = unsigned_ties dir q ∙ at in
      let to : (to_dir == q) ≡ b = unsigned_ties to_dir q ∙ at_to in
      let onto = onto-directory directory o led_to in
      let left : (dir == q && is_directory S number) ≡ a = (λ i. from i && is i) ∙ and-true a in
      let come : (to_dir == q && is_directory S number) ≡ b = (λ i. to i && is i) ∙ and-true b in
      (λ i. links_of M1 q true + cond (sym left i) 1 0 + cond (sym to i && sym onto i) 1 0)
      ∙ links_of-renamed-directory S dir name number can.inode to_dir to_name lawful.parts can.led can.there can.directory can.other can.empty q
      ∙ (λ i. links_of S q true + cond (come i) 1 0)

  abbrev from_links : ℕ
  from_links = links_of S dir true

  abbrev to_links : ℕ
  to_links = links_of S to_dir true

  -- onto another the directory that it leaves has one less
  onto-agrees : can.inode.dir ≡ true → (t : ℕ) → named S to_dir to_name ≡ Some t → (q : ℕ) (inode : Inode) → inode_at S q ≡ Some inode
      → recount (links_of S) dir (from_links - 1) q inode.dir ≡ moved q inode.dir
  onto-agrees directory t led_to q inode there = by inode.dir refl (is_at (nat_cmp dir) q) refl (is_at (nat_cmp to_dir) q) refl
    where
      by : (is : Bool) → inode.dir ≡ is → (a : Bool) → is_at (nat_cmp dir) q ≡ a → (b : Bool) → is_at (nat_cmp to_dir) q ≡ b
          → cond a (from_links - 1) (links_of S q is) ≡ moved q is
      by true d true at true at_to =
          let e : links_of M1 q true + 1 + 1 ≡ links_of S q true + 1 = equation directory (Some t) led_to q true true at at_to in
          let same : from_links ≡ links_of S q true = ap (λ n. links_of S n true) (same-number dir q at) in
          omega (arith, e, same)
      by true d true at false other =
          let e : links_of M1 q true + 1 + 0 ≡ links_of S q true + 0 = equation directory (Some t) led_to q true false at other in
          let same : from_links ≡ links_of S q true = ap (λ n. links_of S n true) (same-number dir q at) in
          omega (arith, e, same)
      by true d false apart true at_to =
          let e : links_of M1 q true + 0 + 1 ≡ links_of S q true + 1 = equation directory (Some t) led_to q false true apart at_to in
          omega (arith, e)
      by true d false apart false other =
          let e : links_of M1 q true + 0 + 0 ≡ links_of S q true + 0 = equation directory (Some t) led_to q false false apart other in
          omega (arith, e)
      by false f true at b at_to = let is = standing dir q inode leaves at there in cc
      by false f false apart b at_to = refl

  -- onto nothing within its directory none has other links
  within-agrees : can.inode.dir ≡ true → named S to_dir to_name ≡ None → (dir == to_dir) ≡ true → (q : ℕ) (inode : Inode) → inode_at S q ≡ Some inode
      → links_of S q inode.dir ≡ moved q inode.dir
  within-agrees directory none same q inode there = by inode.dir (is_at (nat_cmp dir) q) refl
    where
      here : dir ≡ to_dir
      here = grind (arith, tests, same)

      by : (is : Bool) (a : Bool) → is_at (nat_cmp dir) q ≡ a → links_of S q is ≡ moved q is
      by true true at =
          let e : links_of M1 q true + 1 + 0 ≡ links_of S q true + 1 =
          equation directory None none q true true at (ap (λ d. is_at (nat_cmp d) q) (sym here) ∙ at) in
          omega (arith, e)
      by true false apart =
          let e : links_of M1 q true + 0 + 0 ≡ links_of S q true + 0 =
          equation directory None none q false false apart (ap (λ d. is_at (nat_cmp d) q) (sym here) ∙ apart) in
          omega (arith, e)
      by false a at = refl

  -- onto nothing in another the one has one less, and the other one more
  apart-agrees : can.inode.dir ≡ true → named S to_dir to_name ≡ None → (dir == to_dir) ≡ false → (q : ℕ) (inode : Inode) → inode_at S q ≡ Some inode
      → recount (recount (links_of S) dir (from_links - 1)) to_dir (to_links + 1) q inode.dir ≡ moved q inode.dir
  apart-agrees directory none other q inode there = by inode.dir refl (is_at (nat_cmp dir) q) refl (is_at (nat_cmp to_dir) q) refl
    where
      by : (is : Bool) → inode.dir ≡ is → (a : Bool) → is_at (nat_cmp dir) q ≡ a → (b : Bool) → is_at (nat_cmp to_dir) q ≡ b
          → cond b (to_links + 1) (cond a (from_links - 1) (links_of S q is)) ≡ moved q is
      by true d true at true at_to =
          let here : dir ≡ to_dir = same-number dir q at ∙ sym (same-number to_dir q at_to) in
          let same : (dir == to_dir) ≡ true = grind (arith, tests, here) in
          cc
      by true d true at false away =
          let e : links_of M1 q true + 1 + 0 ≡ links_of S q true + 0 = equation directory None none q true false at away in
          let same : from_links ≡ links_of S q true = ap (λ n. links_of S n true) (same-number dir q at) in
          omega (arith, e, same)
      by true d false apart true at_to =
          let e : links_of M1 q true + 0 + 0 ≡ links_of S q true + 1 = equation directory None none q false true apart at_to in
          let same : to_links ≡ links_of S q true = ap (λ n. links_of S n true) (same-number to_dir q at_to) in
          omega (arith, e, same)
      by true d false apart false away =
          let e : links_of M1 q true + 0 + 0 ≡ links_of S q true + 0 = equation directory None none q false false apart away in
          omega (arith, e)
      by false f a at true at_to = let is = standing to_dir q inode can.directory at_to there in cc
      by false f true at false away = let is = standing dir q inode leaves at there in cc
      by false f false apart false away = refl

  -- the counts of a directory that moves
  counts-directory : (links : List (ℕ × ℕ)) → AreLinks S links → InOrder links → can.inode.dir ≡ true
      → AreCounts S moved (moved_links links dir to_dir (is_some (named S to_dir to_name)) from_links to_links)
      × InOrder (moved_links links dir to_dir (is_some (named S to_dir to_name)) from_links to_links)
  counts-directory links are in_order directory = by (named S to_dir to_name) refl (dir == to_dir) refl
    where
      less : List (ℕ × ℕ)
      less = set_value (is_at (nat_cmp dir)) links (from_links - 1)

      less-counts : AreCounts S (recount (links_of S) dir (from_links - 1)) less
      less-counts =
          let parent = directory-there (inode_at S dir) leaves in
          counts-recounted S (links_of S) links dir parent.inode (from_links - 1) are parent.there

      by : (o : Option ℕ) → named S to_dir to_name ≡ o → (h : Bool) → (dir == to_dir) ≡ h
          → AreCounts S moved (cond (is_some o) less (cond h links (set_value (is_at (nat_cmp to_dir)) less (to_links + 1))))
          × InOrder (cond (is_some o) less (cond h links (set_value (is_at (nat_cmp to_dir)) less (to_links + 1))))
      by (Some t) led_to h same = (
        counts-agree S (recount (links_of S) dir (from_links - 1)) moved less less-counts (onto-agrees directory t led_to),
        order-recounted links dir (from_links - 1) in_order,
      )
      by None none true same = (counts-agree S (links_of S) moved links are (within-agrees directory none same), in_order)
      by None none false other =
          let target = directory-there (inode_at S to_dir) can.directory in (
            counts-agree S (recount (recount (links_of S) dir (from_links - 1)) to_dir (to_links + 1)) moved
                (set_value (is_at (nat_cmp to_dir)) less (to_links + 1))
                (counts-recounted S (recount (links_of S) dir (from_links - 1)) less to_dir target.inode (to_links + 1) less-counts target.there)
                (apart-agrees directory none other),
            order-recounted less to_dir (to_links + 1) (order-recounted links dir (from_links - 1) in_order),
          )

  -- the counts after an inode moved, before what it replaces loses a link
  pub counts-moved : (tree between : RoomyTree) → IsTreeOf S tree
      → (is_dir (lookup (is_at (nat_cmp number)) tree.inodes) ≡ false → between.links ≡ tree.links)
      → ((from to : ℕ) → is_dir (lookup (is_at (nat_cmp number)) tree.inodes) ≡ true → lookup (is_at (nat_cmp dir)) tree.links ≡ Some from
      → lookup (is_at (nat_cmp to_dir)) tree.links ≡ Some to
      → between.links ≡ moved_links tree.links dir to_dir (is_some (named S to_dir to_name)) from to)
      → AreCounts S moved between.links × InOrder between.links
  counts-moved tree between is file directory = by can.inode.dir refl
    where
      sort : is_dir (lookup (is_at (nat_cmp number)) tree.inodes) ≡ can.inode.dir
      sort = ap (λ es. is_dir (lookup (is_at (nat_cmp number)) es)) is.inodes ∙ ap is_dir can.there

      Counted : List (ℕ × ℕ) → Type 0
      Counted links = AreCounts S moved links × InOrder links

      by : (b : Bool) → can.inode.dir ≡ b → Counted between.links
      by false plain = subst Counted (sym (file (sort ∙ plain))) (counts-file tree.links is.links plain, is.in_order)
      by true deep =
          let same = directory from_links to_links (sort ∙ deep) (parent-links S tree.links dir is.links lawful leaves).0
          (parent-links S tree.links to_dir is.links lawful can.directory).0 in
          subst Counted (sym same) (counts-directory tree.links is.links is.in_order deep)

  -- ---- the tree before what is replaced loses a link

  -- it has the inodes of before, the names of then, and counts the directories' links of then
  pub record IsMoved (between : RoomyTree) : Type 0 where
    pub inodes : between.inodes ≡ S.inodes
    pub names : between.names ≡ M1.names
    pub counts : AreCounts S moved between.links
    pub in_order : InOrder between.links

  -- so it is after the directories' links are counted, and the name has moved
  pub moved-tree : (tree counted between : RoomyTree) (target : Option ℕ) (onto : Bool) (last : List ℕ) → IsTreeOf S tree → target ≡ named S to_dir to_name
      → onto ≡ is_some target → last ≡ name → counted.inodes ≡ tree.inodes → counted.names ≡ tree.names
      → (is_dir (lookup (is_at (nat_cmp number)) tree.inodes) ≡ false → counted.links ≡ tree.links)
      → ((from to : ℕ) → is_dir (lookup (is_at (nat_cmp number)) tree.inodes) ≡ true → lookup (is_at (nat_cmp dir)) tree.links ≡ Some from
      → lookup (is_at (nat_cmp to_dir)) tree.links ≡ Some to → counted.links ≡ moved_links tree.links dir to_dir onto from to)
      → between.inodes ≡ counted.inodes → between.links ≡ counted.links
      → between.names ≡ insert_entry name_key_cmp (remove_entry (is_at (name_key_cmp (to_dir, to_name)))
      (remove_entry (is_at (name_key_cmp (dir, last))) counted.names)) (to_dir, to_name) number
      → IsMoved between
  moved-tree tree counted between target onto last is found some named_last inodes names file directory kept same moved_names =
      let counts = counts-moved tree counted is file (λ from to deep a b. directory from to deep a b
      ∙ ap (λ o. moved_links tree.links dir to_dir o from to) (some ∙ ap is_some found)) in
      record {
        inodes = kept ∙ inodes ∙ is.inodes;
        names =
            moved_names
            ∙ (λ i. insert_entry name_key_cmp (remove_entry (is_at (name_key_cmp (to_dir, to_name)))
            (remove_entry (is_at (name_key_cmp (dir, named_last i))) ((names ∙ is.names) i))) (to_dir, to_name) number);
        counts = subst (AreCounts S moved) (sym same) counts.0;
        in_order = subst InOrder (sym same) counts.1;
      }
