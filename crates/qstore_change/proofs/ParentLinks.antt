-- The kept link counts, and the tree, after directories come and go.
use Rattle.std.proofs.Common.{◌≡◌, ℕ, ◌+◌, ◌-◌, ◌≤◌, Bool, true, false, cond, List, Option, Some, None, refl, sym, ap, subst, ◌∙◌, arith}
use Rattle.std.specs.Ordering.{nat_cmp}
use Rattle.std.specs.Cmp.{eq_by_cmp_equiv, nat_cmp_total, unsigned_ties}
use Rattle.std.specs.BTreeMap.{insert_entry, is_at}
use Rattle.std.specs.List.Sorted.{IsStrictlySortedBy}
use Rattle.std.specs.Map.{keys_of, lookup, remove_entry, set_value}
use Rattle.std.proofs.lemmas.Map.{keys-set_value, lookup-remove_entry, lookup-set_value}
use Rattle.std.proofs.lemmas.Map.Keys.{IsDistinct-from_sorted}
use Rattle.qplain.specs.declared.owners.Owners.{Owners}
use Rattle.qplain.specs.declared.bounds.TheConstants.{MAX_LINKS}
use Rattle.qplain.specs.Names.{created, swept, without_name}
use Rattle.qplain.specs.State.{Inode, State, inode_at, is_dir, is_directory, name_key_cmp, named, new_directory}
use Rattle.qplain.specs.Use.{links_of, names_to}
use Rattle.qplain_laws.specs.Laws.{IsLawful}
use Rattle.qplain_laws.proofs.Bounding.{links-bounded}
use Rattle.qplain_laws.proofs.Linking.{inode_at-created, links_of-created-elsewhere, links_of-created-files, links_of-created-parent, links_of-new_directory}
use Rattle.qplain_laws.proofs.Orders.{sorted-insert, sorted-remove}
use Rattle.qplain_laws.proofs.Removing.{inode_at-last, inodes-last, links_of-rmdir-others, links_of-rmdir-parent, one_name}
use Rattle.qplain_laws.proofs.Settling.{absent-next}
use Rattle.qplain_laws.proofs.Tables.{lookup-insert_new, same-number}
use Rattle.qstore_tree.specs.Tree.{RoomyTree}
use Rattle.qstore_tree.specs.TreeOf.{AreLinks, IsTreeOf}
use Rattle.qstore_tree.proofs.Directories.{directory-there}
use Rattle.qstore_change.specs.Changes.{CanRmdir}
use Rattle.qstore_change.proofs.Links.{kept-some, links-there, links_at, none-kept}
use Rattle.qstore_change.proofs.Making.{InOrder}

-- the links that are kept of a directory are those it has, and few
pub parent-links : (S : State) (links : List (ℕ × ℕ)) (dir : ℕ) → AreLinks S links → IsLawful S → is_directory S dir ≡ true
    → (lookup (is_at (nat_cmp dir)) links ≡ Some (links_of S dir true)) × links_of S dir true ≤ MAX_LINKS
parent-links S links dir kept lawful stands =
    let parent = directory-there (inode_at S dir) stands in (
      links-there S links dir parent.inode kept parent.there ∙ ap (λ b. Some (links_of S dir b)) parent.directory,
      subst (λ b. links_of S dir b ≤ MAX_LINKS) parent.directory (links-bounded S dir parent.inode lawful parent.there),
    )

-- with another count kept for one number, that is found there, and elsewhere what was
pub lookup-recounted : (links : List (ℕ × ℕ)) (number old new q : ℕ) → lookup (is_at (nat_cmp number)) links ≡ Some old
    → lookup (is_at (nat_cmp q)) (set_value (is_at (nat_cmp number)) links new)
    ≡ cond (is_at (nat_cmp number) q) (Some new) (lookup (is_at (nat_cmp q)) links)
lookup-recounted links number old new q there =
    let laws = eq_by_cmp_equiv nat_cmp_total in
    lookup-set_value laws (is_at (nat_cmp number)) (λ x y e. laws.congr number x y e) q new links
    (kept-some (lookup (is_at (nat_cmp number)) links) old there)

module _ (S : State) (links : List (ℕ × ℕ)) (kept : AreLinks S links) (lawful : IsLawful S) (owners : Owners) (dir : ℕ) (name : List ℕ)
    (absent : named S dir name ≡ None) (stands : is_directory S dir ≡ true) where
  abbrev S1 : State
  S1 = created S (new_directory owners) dir name

  -- the links with one more of the parent
  abbrev counted : List (ℕ × ℕ)
  counted = set_value (is_at (nat_cmp dir)) links (links_of S dir true + 1)

  counted-at : (q : ℕ) → lookup (is_at (nat_cmp q)) counted ≡ cond (is_at (nat_cmp dir) q) (Some (links_of S dir true + 1)) (lookup (is_at (nat_cmp q)) links)
  counted-at q = lookup-recounted links dir (links_of S dir true) (links_of S dir true + 1) q (parent-links S links dir kept lawful stands).0

  none-next : lookup (is_at (nat_cmp S.next)) counted ≡ None
  none-next = counted-at S.next ∙ by (is_at (nat_cmp dir) S.next) refl
    where
      by : (b : Bool) → is_at (nat_cmp dir) S.next ≡ b → cond b (Some (links_of S dir true + 1)) (lookup (is_at (nat_cmp S.next)) links) ≡ None
      by true at =
          let gone : is_directory S dir ≡ false = ap (λ q. is_directory S q) (same-number dir S.next at) ∙ ap is_dir (absent-next S lawful) in
          cc
      by false other = none-kept S links S.next kept (absent-next S lawful)

  elsewhere : (q : ℕ) (o : Option Inode) → inode_at S q ≡ o → is_at (nat_cmp dir) q ≡ false → links_at S q o ≡ links_at S1 q o
  elsewhere q None there other = refl
  elsewhere q (Some inode) there other = ap Some (by inode.dir)
    where
      by : (b : Bool) → links_of S q b ≡ links_of S1 q b
      by true = sym (links_of-created-elsewhere S (new_directory owners) dir name lawful.parts absent q (unsigned_ties dir q ∙ other))
      by false = sym (links_of-created-files S (new_directory owners) dir name lawful.parts absent q inode there)

  old_links : (q : ℕ) (b : Bool) → is_at (nat_cmp dir) q ≡ b
      → cond b (Some (links_of S dir true + 1)) (lookup (is_at (nat_cmp q)) links) ≡ links_at S1 q (inode_at S q)
  old_links q true at =
      let parent = directory-there (inode_at S dir) stands in
      ap Some (sym (links_of-created-parent S (new_directory owners) dir name lawful.parts absent refl)
      ∙ ap (λ b. links_of S1 dir b) (sym parent.directory))
      ∙ ap (links_at S1 dir) (sym parent.there)
      ∙ ap (λ n. links_at S1 n (inode_at S n)) (same-number dir q at)
  old_links q false other = kept q ∙ elsewhere q (inode_at S q) refl other

  by_slot : (q : ℕ) (b : Bool) → is_at (nat_cmp q) S.next ≡ b
      → cond b (Some 2) (lookup (is_at (nat_cmp q)) counted) ≡ links_at S1 q (cond b (Some (new_directory owners)) (inode_at S q))
  by_slot q true at_next =
      ap Some (sym (links_of-new_directory S (new_directory owners) dir name lawful.parts absent stands)
      ∙ ap (λ n. links_of S1 n true) (sym (same-number q S.next at_next)))
  by_slot q false other = counted-at q ∙ old_links q (is_at (nat_cmp dir) q) refl

  -- a new directory has two links, its parent one more, and the others keep theirs
  pub links-directory : AreLinks S1 (insert_entry nat_cmp counted S.next 2)
  links-directory q =
      lookup-insert_new nat_cmp_total counted S.next 2 q none-next
      ∙ by_slot q (is_at (nat_cmp q) S.next) refl
      ∙ ap (links_at S1 q) (sym (inode_at-created S (new_directory owners) dir name q (absent-next S lawful)))

-- ---- the tree

-- the counts stay in order where one is another
pub order-recounted : (links : List (ℕ × ℕ)) (number new : ℕ) → InOrder links → InOrder (set_value (is_at (nat_cmp number)) links new)
order-recounted links number new in_order =
    subst (IsStrictlySortedBy nat_cmp) (sym (keys-set_value (is_at (nat_cmp number)) links new)) in_order

-- after a mkdir: the tree in between counts one link more of the parent
pub tree-directory : (S : State) (tree between after : RoomyTree) (owners : Owners) (dir next : ℕ) (name : List ℕ)
    → IsTreeOf S tree → S.next ≡ next → IsLawful S
    → named S dir name ≡ None → is_directory S dir ≡ true
    → between.inodes ≡ tree.inodes → between.names ≡ tree.names
    → ((links : ℕ) → lookup (is_at (nat_cmp dir)) tree.links ≡ Some links
    → between.links ≡ set_value (is_at (nat_cmp dir)) tree.links (links + 1))
    → after.inodes ≡ insert_entry nat_cmp between.inodes next (new_directory owners)
    → after.names ≡ insert_entry name_key_cmp between.names (dir, name) next → after.links ≡ insert_entry nat_cmp between.links next 2
    → IsTreeOf (created S (new_directory owners) dir name) after
tree-directory S tree between after owners dir next name is same lawful absent stands kept_inodes kept_names more inodes names links = record {
  inodes = inodes ∙ (λ i. insert_entry nat_cmp ((kept_inodes ∙ is.inodes) i) (sym same i) (new_directory owners));
  names = names ∙ (λ i. insert_entry name_key_cmp ((kept_names ∙ is.names) i) (dir, name) (sym same i));
  links = subst (AreLinks (created S (new_directory owners) dir name)) (sym moved)
      (links-directory S tree.links is.links lawful owners dir name absent stands);
  in_order = subst InOrder (sym moved)
      (sorted-insert nat_cmp_total counted S.next 2 (order-recounted tree.links dir (links_of S dir true + 1) is.in_order));
}
  where
    counted : List (ℕ × ℕ)
    counted = set_value (is_at (nat_cmp dir)) tree.links (links_of S dir true + 1)

    moved : after.links ≡ insert_entry nat_cmp counted S.next 2
    moved = links ∙ (λ i. insert_entry nat_cmp (more (links_of S dir true) (parent-links S tree.links dir is.links lawful stands).0 i) (sym same i) 2)

module _ (S : State) (links : List (ℕ × ℕ)) (kept : AreLinks S links) (lawful : IsLawful S) (dir : ℕ) (name : List ℕ) (number : ℕ)
    (can : CanRmdir S dir number name) (in_order : InOrder links) where
  abbrev T : State
  T = swept (without_name S dir name)

  -- the links with one less of the parent
  abbrev left : List (ℕ × ℕ)
  left = set_value (is_at (nat_cmp dir)) links (links_of S dir true - 1)

  only : names_to S number ≡ 1
  only = one_name S dir name number can.inode lawful.parts can.led can.there can.is_dir

  -- the inodes that are left
  pub inodes-removed : T.inodes ≡ remove_entry (is_at (nat_cmp number)) S.inodes
  inodes-removed = inodes-last S dir name number can.inode lawful.parts can.led can.there only

  apart-links : (q : ℕ) (o : Option Inode) → is_at (nat_cmp dir) q ≡ false → is_at (nat_cmp number) q ≡ false → links_at S q o ≡ links_at T q o
  apart-links q None apart other = refl
  apart-links q (Some inode) apart other =
      ap Some (sym (links_of-rmdir-others S dir name number can.inode can.led can.there can.is_dir q inode.dir
      (unsigned_ties dir q ∙ apart) (unsigned_ties number q ∙ other)))

  less : links_of S dir true - 1 ≡ links_of T dir true
  less = let sum = links_of-rmdir-parent S dir name number can.inode can.led can.there can.is_dir in omega (arith, sum)

  left_links : (q : ℕ) (b : Bool) → is_at (nat_cmp dir) q ≡ b → is_at (nat_cmp number) q ≡ false
      → cond b (Some (links_of S dir true - 1)) (lookup (is_at (nat_cmp q)) links) ≡ links_at T q (inode_at S q)
  left_links q true at other =
      let parent = directory-there (inode_at S dir) can.directory in
      ap Some (less ∙ ap (λ b. links_of T dir b) (sym parent.directory))
      ∙ ap (links_at T dir) (sym parent.there)
      ∙ ap (λ n. links_at T n (inode_at S n)) (same-number dir q at)
  left_links q false apart other = kept q ∙ apart-links q (inode_at S q) apart other

  by_number : (q : ℕ) (b : Bool) → is_at (nat_cmp number) q ≡ b
      → cond b None (lookup (is_at (nat_cmp q)) left) ≡ links_at T q (cond b None (inode_at S q))
  by_number q true at = refl
  by_number q false other =
      lookup-recounted links dir (links_of S dir true) (links_of S dir true - 1) q (parent-links S links dir kept lawful can.directory).0
      ∙ left_links q (is_at (nat_cmp dir) q) refl other

  -- the links of a directory go with it, its parent has one less, and the others keep theirs
  pub links-removed : AreLinks T (remove_entry (is_at (nat_cmp number)) left)
  links-removed q =
      let laws = eq_by_cmp_equiv nat_cmp_total in
      lookup-remove_entry laws (is_at (nat_cmp number)) (λ x y e. laws.congr number x y e) q left
      (IsDistinct-from_sorted nat_cmp (keys_of left) (order-recounted links dir (links_of S dir true - 1) in_order))
      ∙ by_number q (is_at (nat_cmp number) q) refl
      ∙ ap (links_at T q) (sym (inode_at-last S dir name number can.inode lawful.parts can.led can.there only q))

-- after a rmdir: the first tree in between counts one link less of the parent, and the second has not the directory
pub tree-removed : (S : State) (tree fewer without after : RoomyTree) (dir number : ℕ) (name : List ℕ) → IsTreeOf S tree → IsLawful S
    → CanRmdir S dir number name → fewer.inodes ≡ tree.inodes → fewer.names ≡ tree.names
    → ((links : ℕ) → lookup (is_at (nat_cmp dir)) tree.links ≡ Some links
    → fewer.links ≡ set_value (is_at (nat_cmp dir)) tree.links (links - 1))
    → without.inodes ≡ remove_entry (is_at (nat_cmp number)) fewer.inodes → without.names ≡ fewer.names
    → without.links ≡ remove_entry (is_at (nat_cmp number)) fewer.links
    → after.inodes ≡ without.inodes → after.names ≡ remove_entry (is_at (name_key_cmp (dir, name))) without.names → after.links ≡ without.links
    → IsTreeOf (swept (without_name S dir name)) after
tree-removed S tree fewer without after dir number name is lawful can inodes names less gone same links kept taken stay = record {
  inodes =
      kept ∙ gone ∙ ap (remove_entry (is_at (nat_cmp number))) (inodes ∙ is.inodes)
      ∙ sym (inodes-removed S tree.links is.links lawful dir name number can is.in_order);
  names = taken ∙ ap (remove_entry (is_at (name_key_cmp (dir, name)))) (same ∙ names ∙ is.names);
  links = subst (AreLinks (swept (without_name S dir name))) (sym moved) (links-removed S tree.links is.links lawful dir name number can is.in_order);
  in_order = subst InOrder (sym moved)
      (sorted-remove nat_cmp (is_at (nat_cmp number)) left (order-recounted tree.links dir (links_of S dir true - 1) is.in_order));
}
  where
    left : List (ℕ × ℕ)
    left = set_value (is_at (nat_cmp dir)) tree.links (links_of S dir true - 1)

    moved : after.links ≡ remove_entry (is_at (nat_cmp number)) left
    moved = stay ∙ links
        ∙ ap (remove_entry (is_at (nat_cmp number))) (less (links_of S dir true) (parent-links S tree.links dir is.links lawful can.directory).0)
