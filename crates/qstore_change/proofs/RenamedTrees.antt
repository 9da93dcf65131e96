-- The tree after a name took the place of another: it is that of the state then.
use Rattle.std.proofs.Common.{◌≡◌, ℕ, ◌-◌, ◌<◌, ◌≤◌, ◌==◌, ⊎_elim, Bool, true, false, cond, All, List, Option, Some, None, refl, sym, ap, subst, ◌∙◌, arith, tests}
use Rattle.std.specs.Option.{option_map}
use Rattle.std.specs.Ordering.{nat_cmp}
use Rattle.std.specs.Cmp.{eq_by_cmp_equiv, nat_cmp_total, unsigned_ties}
use Rattle.std.specs.BTreeMap.{is_at}
use Rattle.std.specs.Map.{keys_of, lookup, remove_entry, set_value}
use Rattle.std.proofs.lemmas.Bool.{cases_lt}
use Rattle.std.proofs.lemmas.Map.{lookup-remove_entry}
use Rattle.std.proofs.lemmas.Map.Keys.{IsDistinct-from_sorted}
use Rattle.qplain.specs.Renames.{passes, renamed}
use Rattle.qplain.specs.State.{Inode, NameKey, State, inode_at, is_dir, name_key_cmp, named}
use Rattle.qplain.specs.Use.{links_of, names_to}
use Rattle.qplain_laws.specs.Laws.{IsLawful}
use Rattle.qplain_laws.proofs.Finding.{found-key}
use Rattle.qplain_laws.proofs.Orders.{sorted-remove}
use Rattle.qplain_laws.proofs.Relinking.{links_of-renamed-files}
use Rattle.qplain_laws.proofs.Renaming.{All-renamed, inode_at-replaced, inodes-held_on, inodes-moved, inodes-replaced, names_to-target, one_name-replaced, outside, unfilled-target}
use Rattle.qplain_laws.proofs.Sweeping.{key-dir}
use Rattle.qplain_laws.proofs.Tables.{same-number}
use Rattle.qstore_tree.specs.Room.{Room}
use Rattle.qstore_tree.specs.Tree.{RoomyTree}
use Rattle.qstore_tree.specs.TreeOf.{AreLinks, IsTreeOf}
use Rattle.qstore_change.specs.Changes.{CanRename}
use Rattle.qstore_change.proofs.Links.{links_at}
use Rattle.qstore_change.proofs.Making.{InOrder}
use Rattle.qstore_change.proofs.ParentLinks.{lookup-recounted, order-recounted}
use Rattle.qstore_change.proofs.Recounts.{AreCounts}
use Rattle.qstore_change.proofs.Renamings.{IsMoved as IsMovedTree, moved as moved_counts}

module _ (S : State) (room : Room) (lawful : IsLawful S) (dir : ℕ) (name : List ℕ) (number to_dir : ℕ) (to_name : List ℕ)
    (can : CanRename S room dir name to_dir to_name number) where
  abbrev M1 : State
  M1 = renamed S dir name to_dir to_name number

  abbrev moved : ℕ → Bool → ℕ
  moved = moved_counts S room lawful dir name number to_dir to_name can

  abbrev IsMoved : RoomyTree → Type 0
  IsMoved = IsMovedTree S room lawful dir name number to_dir to_name can

  -- ---- what is replaced

  -- all inodes but what is replaced have their links then
  kept-then : (q : ℕ) (b : Bool) → passes (λ n. n == q) (named S to_dir to_name) ≡ false → moved q b ≡ links_of M1 q b
  kept-then q true apart = refl
  kept-then q false apart =
      sym (links_of-renamed-files S dir name number can.inode to_dir to_name lawful.parts can.led can.there can.directory can.other can.empty q apart)

  counted-then : (q : ℕ) (o : Option Inode) → passes (λ n. n == q) (named S to_dir to_name) ≡ false
      → option_map (λ inode. moved q inode.dir) o ≡ links_at M1 q o
  counted-then q None apart = refl
  counted-then q (Some inode) apart = ap Some (kept-then q inode.dir apart)

  -- where nothing is replaced, the counts are the links
  pub tree-onto-none : (after : RoomyTree) → named S to_dir to_name ≡ None → IsMoved after → IsTreeOf M1 after
  tree-onto-none after none is = record {
    inodes = is.inodes ∙ sym stay;
    names = is.names;
    links = λ q.
        is.counts q ∙ counted-then q (inode_at S q) (ap (passes (λ n. n == q)) none) ∙ ap (λ es. links_at M1 q (lookup (is_at (nat_cmp q)) es)) (sym stay);
    in_order = is.in_order;
  }
    where
      stay : M1.inodes ≡ S.inodes
      stay = inodes-moved S dir name number can.inode to_dir to_name lawful.parts can.led can.there can.directory can.other can.empty none

  module _ (t : ℕ) (replaced : Inode) (led_to : named S to_dir to_name ≡ Some t) (there_too : inode_at S t ≡ Some replaced) where
    aside : (q : ℕ) → is_at (nat_cmp t) q ≡ false → passes (λ n. n == q) (named S to_dir to_name) ≡ false
    aside q other = ap (passes (λ n. n == q)) led_to ∙ (unsigned_ties t q ∙ other)

    -- no name stands in what is replaced
    pub no-names : (other : List ℕ) → lookup (is_at (name_key_cmp (t, other))) M1.names ≡ None
    no-names other = by (lookup (is_at (name_key_cmp (t, other))) M1.names) refl
      where
        Away : NameKey × ℕ → Type 0
        Away e = passes (λ n. n == e.0.0) (named S to_dir to_name) ≡ false

        away : All Away M1.names
        away =
            All-renamed S dir name number can.inode to_dir to_name lawful.parts can.led can.there can.directory can.other can.empty Away
            (unfilled-target S dir name number can.inode to_dir to_name lawful.parts can.led can.there can.directory can.other can.empty
            (named S to_dir to_name) can.empty)
            (outside S dir name number can.inode to_dir to_name lawful.parts can.led can.there can.directory can.other can.empty
            (named S to_dir to_name) refl can.empty)

        by : (o : Option ℕ) → lookup (is_at (name_key_cmp (t, other))) M1.names ≡ o → o ≡ None
        by None at = refl
        by (Some v) at =
            let key = found-key Away (is_at (name_key_cmp (t, other))) M1.names v away at in
            let same : t ≡ key.0.0 = key-dir t other key.0 key.1 in
            let no : (t == key.0.0) ≡ false = ap (passes (λ n. n == key.0.0)) (sym led_to) ∙ key.2 in
            let yes : (t == key.0.0) ≡ true = grind (arith, tests, same) in
            cc

    -- with its last name its links go
    links-last : (links : List (ℕ × ℕ)) → names_to S t ≡ 1 → AreCounts S moved links → InOrder links
        → AreLinks M1 (remove_entry (is_at (nat_cmp t)) links)
    links-last links last are in_order q =
        let laws = eq_by_cmp_equiv nat_cmp_total in
        lookup-remove_entry laws (is_at (nat_cmp t)) (λ x y e. laws.congr t x y e) q links (IsDistinct-from_sorted nat_cmp (keys_of links) in_order)
        ∙ by (is_at (nat_cmp t) q) refl
        ∙ ap (links_at M1 q) (sym (inode_at-replaced S dir name number can.inode to_dir to_name lawful.parts can.led can.there can.directory
        can.other can.empty t replaced led_to there_too last q))
      where
        by : (b : Bool) → is_at (nat_cmp t) q ≡ b → cond b None (lookup (is_at (nat_cmp q)) links) ≡ links_at M1 q (cond b None (inode_at S q))
        by true at = refl
        by false other = are q ∙ counted-then q (inode_at S q) (aside q other)

    -- a file with more names has one link less
    links-more : (links : List (ℕ × ℕ)) → replaced.dir ≡ false → 1 < names_to S t → AreCounts S moved links
        → AreLinks M1 (set_value (is_at (nat_cmp t)) links (names_to S t - 1))
    links-more links file more are q =
        lookup-recounted links t (moved t replaced.dir) (names_to S t - 1) q (are t ∙ ap (λ (o : Option Inode). option_map (λ i. moved t i.dir) o) there_too)
        ∙ by (is_at (nat_cmp t) q) refl
        ∙ ap (λ es. links_at M1 q (lookup (is_at (nat_cmp q)) es)) (sym (inodes-held_on S dir name number can.inode to_dir to_name lawful.parts
        can.led can.there can.directory can.other can.empty t replaced led_to there_too more))
      where
        less : names_to S t - 1 ≡ links_of M1 t false
        less =
            let sum = names_to-target S dir name number can.inode to_dir to_name lawful.parts can.led can.there can.directory can.other can.empty
            t replaced led_to there_too in
            let same : links_of M1 t false ≡ names_to M1 t = refl in
            omega (arith, sum, same)

        by : (b : Bool) → is_at (nat_cmp t) q ≡ b → cond b (Some (names_to S t - 1)) (lookup (is_at (nat_cmp q)) links) ≡ links_at M1 q (inode_at S q)
        by true at =
            ap Some (less ∙ ap (λ b. links_of M1 t b) (sym file)) ∙ ap (links_at M1 t) (sym there_too)
            ∙ ap (λ n. links_at M1 n (inode_at S n)) (same-number t q at)
        by false other = are q ∙ counted-then q (inode_at S q) (aside q other)

    -- the tree after what is replaced lost a link, and went with its last one
    pub tree-onto : (between after : RoomyTree) → IsMoved between → after.names ≡ between.names
        → (is_dir (lookup (is_at (nat_cmp t)) between.inodes) ≡ true
        → (after.inodes ≡ remove_entry (is_at (nat_cmp t)) between.inodes) × (after.links ≡ remove_entry (is_at (nat_cmp t)) between.links))
        → (is_dir (lookup (is_at (nat_cmp t)) between.inodes) ≡ false → lookup (is_at (nat_cmp t)) between.links ≡ Some 1
        → (after.inodes ≡ remove_entry (is_at (nat_cmp t)) between.inodes) × (after.links ≡ remove_entry (is_at (nat_cmp t)) between.links))
        → ((links : ℕ) → is_dir (lookup (is_at (nat_cmp t)) between.inodes) ≡ false → lookup (is_at (nat_cmp t)) between.links ≡ Some links → 1 < links
        → (after.inodes ≡ between.inodes) × (after.links ≡ set_value (is_at (nat_cmp t)) between.links (links - 1)))
        → IsTreeOf M1 after
    tree-onto between after is same directory last more = by replaced.dir refl
      where
        sort : is_dir (lookup (is_at (nat_cmp t)) between.inodes) ≡ replaced.dir
        sort = ap (λ es. is_dir (lookup (is_at (nat_cmp t)) es)) is.inodes ∙ ap is_dir there_too

        gone : names_to S t ≡ 1
            → (after.inodes ≡ remove_entry (is_at (nat_cmp t)) between.inodes) × (after.links ≡ remove_entry (is_at (nat_cmp t)) between.links)
            → IsTreeOf M1 after
        gone one left = record {
          inodes =
              left.0 ∙ ap (remove_entry (is_at (nat_cmp t))) is.inodes
              ∙ sym (inodes-replaced S dir name number can.inode to_dir to_name lawful.parts can.led can.there can.directory can.other can.empty
              t replaced led_to there_too one);
          names = same ∙ is.names;
          links = subst (AreLinks M1) (sym left.1) (links-last between.links one is.counts is.in_order);
          in_order = subst InOrder (sym left.1) (sorted-remove nat_cmp (is_at (nat_cmp t)) between.links is.in_order);
        }

        held : replaced.dir ≡ false → 1 < names_to S t
            → (after.inodes ≡ between.inodes) × (after.links ≡ set_value (is_at (nat_cmp t)) between.links (names_to S t - 1)) → IsTreeOf M1 after
        held file many left = record {
          inodes =
              left.0 ∙ is.inodes
              ∙ sym (inodes-held_on S dir name number can.inode to_dir to_name lawful.parts can.led can.there can.directory can.other can.empty
              t replaced led_to there_too many);
          names = same ∙ is.names;
          links = subst (AreLinks M1) (sym left.1) (links-more between.links file many is.counts);
          in_order = subst InOrder (sym left.1) (order-recounted between.links t (names_to S t - 1) is.in_order);
        }

        shown : replaced.dir ≡ false → lookup (is_at (nat_cmp t)) between.links ≡ Some (names_to S t)
        shown file = is.counts t ∙ ap (λ (o : Option Inode). option_map (λ i. moved t i.dir) o) there_too ∙ ap (λ b. Some (moved t b)) file

        by : (b : Bool) → replaced.dir ≡ b → IsTreeOf M1 after
        by true deep =
            gone (one_name-replaced S dir name number can.inode to_dir to_name lawful.parts can.led can.there can.directory can.other can.empty
            t replaced led_to there_too deep) (directory (sort ∙ deep))
        by false file =
            ⊎_elim
            (λ (many : 1 < names_to S t). held file many (more (names_to S t) (sort ∙ file) (shown file) many))
            (λ (few : names_to S t ≤ 1).
            let sum = names_to-target S dir name number can.inode to_dir to_name lawful.parts can.led can.there can.directory can.other can.empty
            t replaced led_to there_too in
            let one : names_to S t ≡ 1 = omega (arith, sum, few) in
            gone one (last (sort ∙ file) (shown file ∙ ap Some one)))
            (cases_lt 1 (names_to S t))
