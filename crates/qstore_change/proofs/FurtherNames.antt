-- The kept link counts, and the tree, after a further name of a file.
use Rattle.std.proofs.Common.{◌≡◌, ℕ, ◌+◌, ◌^◌, ◌<◌, Bool, true, false, cond, List, Option, Some, None, refl, sym, ap, subst, ◌∙◌, arith}
use Rattle.std.specs.Ordering.{nat_cmp}
use Rattle.std.specs.Cmp.{eq_by_cmp_equiv, nat_cmp_total}
use Rattle.std.specs.BTreeMap.{insert_entry, is_at}
use Rattle.std.specs.List.Sorted.{IsStrictlySortedBy}
use Rattle.std.specs.Map.{lookup, set_value}
use Rattle.std.proofs.lemmas.Map.{keys-set_value, lookup-set_value}
use Rattle.qplain.specs.Names.{with_name}
use Rattle.qplain.specs.State.{Inode, State, inode_at, is_directory, name_key_cmp, named}
use Rattle.qplain.specs.Use.{links_of}
use Rattle.qplain_laws.specs.Laws.{IsLawful}
use Rattle.qplain_laws.proofs.Bounding.{links-bounded}
use Rattle.qplain_laws.proofs.Naming.{links_of-linked, links_of-linked-others}
use Rattle.qplain_laws.proofs.Tables.{same-number}
use Rattle.qstore_tree.specs.Tree.{RoomyTree}
use Rattle.qstore_tree.specs.TreeOf.{AreLinks, IsTreeOf}
use Rattle.qstore_change.specs.Changes.{CanLink}
use Rattle.qstore_change.proofs.Links.{kept-some, links-there, links_at, other-number}
use Rattle.qstore_change.proofs.Making.{InOrder}

module _ (S : State) (lawful : IsLawful S) (dir : ℕ) (name : List ℕ) (number : ℕ) (inode : Inode) (there : inode_at S number ≡ Some inode)
    (file : inode.dir ≡ false) (stands : is_directory S dir ≡ true) (absent : named S dir name ≡ None) where
  -- every other inode keeps its links
  others : (q : ℕ) (o : Option Inode) → is_at (nat_cmp number) q ≡ false → links_at S q o ≡ links_at (with_name S dir name number) q o
  others q None other = refl
  others q (Some i) other =
      ap Some (sym (links_of-linked-others S number inode dir name lawful.parts there file stands absent q i.dir (other-number number q i.dir other)))

  -- the file has one link more
  pub links-linked : (links : List (ℕ × ℕ)) → AreLinks S links
      → AreLinks (with_name S dir name number) (set_value (is_at (nat_cmp number)) links (links_of S number false + 1))
  links-linked links kept q =
      let laws = eq_by_cmp_equiv nat_cmp_total in
      lookup-set_value laws (is_at (nat_cmp number)) (λ x y e. laws.congr number x y e) q (links_of S number false + 1) links
      (kept-some (lookup (is_at (nat_cmp number)) links) (links_of S number inode.dir) (links-there S links number inode kept there))
      ∙ by (is_at (nat_cmp number) q) refl
    where
      by : (b : Bool) → is_at (nat_cmp number) q ≡ b
          → cond b (Some (links_of S number false + 1)) (lookup (is_at (nat_cmp q)) links) ≡ links_at (with_name S dir name number) q (inode_at S q)
      by true at =
          let same : number ≡ q = same-number number q at in
          ap Some (sym (links_of-linked S number inode dir name lawful.parts there file stands absent)
          ∙ ap (λ b. links_of (with_name S dir name number) number b) (sym file))
          ∙ ap (links_at (with_name S dir name number) number) (sym there) ∙ ap (λ n. links_at (with_name S dir name number) n (inode_at S n)) same
      by false other = kept q ∙ others q (inode_at S q) other

-- after a further name of a file
pub tree-linked : (S : State) (tree after : RoomyTree) (dir : ℕ) (name : List ℕ) (number : ℕ) → IsTreeOf S tree → IsLawful S
    → CanLink S tree.room dir name number → after.inodes ≡ tree.inodes
    → after.names ≡ insert_entry name_key_cmp tree.names (dir, name) number
    → ((links : ℕ) → lookup (is_at (nat_cmp number)) tree.links ≡ Some links → after.links ≡ set_value (is_at (nat_cmp number)) tree.links (links + 1))
    → IsTreeOf (with_name S dir name number) after
tree-linked S tree after dir name number is lawful can inodes names links = record {
  inodes = inodes ∙ is.inodes;
  names = names ∙ ap (λ es. insert_entry name_key_cmp es (dir, name) number) is.names;
  links = subst (AreLinks (with_name S dir name number)) (sym moved)
      (links-linked S lawful dir name number can.file.inode can.file.there can.file.is_file can.directory can.absent tree.links is.links);
  in_order = subst InOrder (sym moved)
      (subst (IsStrictlySortedBy nat_cmp) (sym (keys-set_value (is_at (nat_cmp number)) tree.links (links_of S number false + 1))) is.in_order);
}
  where
    moved : after.links ≡ set_value (is_at (nat_cmp number)) tree.links (links_of S number false + 1)
    moved =
        links (links_of S number false)
        (links-there S tree.links number can.file.inode is.links can.file.there ∙ ap (λ b. Some (links_of S number b)) can.file.is_file)

-- of an inode that is there one link more may be counted
pub may-count : (S : State) (tree : RoomyTree) (number : ℕ) (inode : Inode) → IsTreeOf S tree → IsLawful S → inode_at S number ≡ Some inode
    → (links : ℕ) × (lookup (is_at (nat_cmp number)) tree.links ≡ Some links) × links + 1 < 2 ^ 64
may-count S tree number inode is lawful there =
    let few = links-bounded S number inode lawful there in
    (links_of S number inode.dir, links-there S tree.links number inode is.links there, omega (arith, few))
