-- The tree after each change of inodes and names: it is that of the changed state.
use Rattle.std.proofs.Common.{◌≡◌, ℕ, ◌-◌, ◌<◌, ◌≤◌, ⊎_elim, false, List, Some, None, sym, ap, subst, ◌∙◌, arith}
use Rattle.std.specs.Ordering.{nat_cmp}
use Rattle.std.specs.Cmp.{nat_cmp_total}
use Rattle.std.specs.BTreeMap.{insert_entry, is_at}
use Rattle.std.specs.List.Sorted.{IsStrictlySortedBy}
use Rattle.std.specs.Map.{keys_of, lookup, remove_entry, set_value}
use Rattle.std.proofs.lemmas.Bool.{cases_lt}
use Rattle.std.proofs.lemmas.Map.{keys-set_value}
use Rattle.qplain.specs.declared.owners.Owners.{Owners}
use Rattle.qplain.specs.State.{Inode, State, inode_at, name_key_cmp, named, new_file}
use Rattle.qplain.specs.Use.{links_of}
use Rattle.qplain.specs.Names.{created, swept, without_name}
use Rattle.qplain.specs.Files.{with_inode}
use Rattle.qplain_laws.specs.Laws.{IsLawful}
use Rattle.qplain_laws.proofs.Orders.{sorted-insert, sorted-remove}
use Rattle.qplain_laws.proofs.Removing.{inodes-last, inodes-more}
use Rattle.qstore_tree.specs.Tree.{RoomyTree}
use Rattle.qstore_tree.specs.TreeOf.{AreLinks, IsTreeOf}
use Rattle.qstore_change.specs.Changes.{CanUnlink, altered, altered_at}
use Rattle.qstore_change.proofs.Links.{links-changed, links-created, links-last, links-more, links-there, some-links}

-- the numbers of links stand in order
abbrev pub InOrder : List (ℕ × ℕ) → Type 0
InOrder links = IsStrictlySortedBy nat_cmp (keys_of links)

-- after a create
pub tree-created : (S : State) (tree after : RoomyTree) (owners : Owners) (dir next : ℕ) (name : List ℕ) → IsTreeOf S tree → S.next ≡ next → IsLawful S
    → named S dir name ≡ None → after.inodes ≡ insert_entry nat_cmp tree.inodes next (new_file owners)
    → after.names ≡ insert_entry name_key_cmp tree.names (dir, name) next → after.links ≡ insert_entry nat_cmp tree.links next 1
    → IsTreeOf (created S (new_file owners) dir name) after
tree-created S tree after owners dir next name is same lawful absent inodes names links = record {
  inodes = inodes ∙ (λ i. insert_entry nat_cmp (is.inodes i) (sym same i) (new_file owners));
  names = names ∙ (λ i. insert_entry name_key_cmp (is.names i) (dir, name) (sym same i));
  links = subst (AreLinks (created S (new_file owners) dir name)) (sym moved) (links-created S tree.links is.links lawful owners dir name absent);
  in_order = subst InOrder (sym moved) (sorted-insert nat_cmp_total tree.links S.next 1 is.in_order);
}
  where
    moved : after.links ≡ insert_entry nat_cmp tree.links S.next 1
    moved = links ∙ ap (λ n. insert_entry nat_cmp tree.links n 1) (sym same)

-- after a change of one inode
pub tree-altered : (S : State) (tree after : RoomyTree) (number : ℕ) (inode : Inode) (change : Inode → Inode) → IsTreeOf S tree
    → inode_at S number ≡ Some inode → (change inode).dir ≡ inode.dir
    → ((i : Inode) → lookup (is_at (nat_cmp number)) tree.inodes ≡ Some i
    → after.inodes ≡ set_value (is_at (nat_cmp number)) tree.inodes (change i))
    → after.names ≡ tree.names → after.links ≡ tree.links → IsTreeOf (altered S number change) after
tree-altered S tree after number inode change is there same inodes names links =
    subst (λ (T : State). IsTreeOf T after) (sym (ap (altered_at S number change) there)) (record {
      inodes =
          inodes inode (ap (lookup (is_at (nat_cmp number))) is.inodes ∙ there)
          ∙ ap (λ es. set_value (is_at (nat_cmp number)) es (change inode)) is.inodes;
      names = names ∙ is.names;
      links = subst (AreLinks (with_inode S number (change inode))) (sym links)
          (links-changed S tree.links is.links number inode (change inode) there same);
      in_order = subst InOrder (sym links) is.in_order;
    })

-- after a name of a file has gone, and a link of it: the tree in between has one name less
pub tree-unlinked : (S : State) (tree after : RoomyTree) (dir number : ℕ) (name : List ℕ) → IsLawful S → CanUnlink S dir number name
    → tree.inodes ≡ S.inodes → tree.names ≡ (without_name S dir name).names → AreLinks S tree.links → InOrder tree.links
    → after.names ≡ tree.names
    → (lookup (is_at (nat_cmp number)) tree.links ≡ Some 1
    → (after.inodes ≡ remove_entry (is_at (nat_cmp number)) tree.inodes) × (after.links ≡ remove_entry (is_at (nat_cmp number)) tree.links))
    → ((links : ℕ) → lookup (is_at (nat_cmp number)) tree.links ≡ Some links → 1 < links
    → (after.inodes ≡ tree.inodes) × (after.links ≡ set_value (is_at (nat_cmp number)) tree.links (links - 1)))
    → IsTreeOf (swept (without_name S dir name)) after
tree-unlinked S tree after dir number name lawful can inodes names kept in_order same last more =
    ⊎_elim
    (λ (many : 1 < links_of S number false).
    let left = more (links_of S number false) shown many in
    record {
      inodes = left.0 ∙ inodes ∙ sym (inodes-more S dir name number inode lawful.parts can.led there many);
      names = same ∙ names;
      links = subst (AreLinks T) (sym left.1) (links-more S tree.links kept lawful dir name number inode can.led there file many);
      in_order = subst InOrder (sym left.1)
          (subst (IsStrictlySortedBy nat_cmp) (sym (keys-set_value (is_at (nat_cmp number)) tree.links (links_of S number false - 1))) in_order);
    })
    (λ (few : links_of S number false ≤ 1).
    let sum = some-links S tree.links kept lawful dir name number inode can.led there file in
    let one : links_of S number false ≡ 1 = omega (arith, sum, few) in
    let left = last (shown ∙ ap Some one) in
    record {
      inodes =
          left.0 ∙ ap (remove_entry (is_at (nat_cmp number))) inodes
          ∙ sym (inodes-last S dir name number inode lawful.parts can.led there one);
      names = same ∙ names;
      links = subst (AreLinks T) (sym left.1) (links-last S tree.links kept lawful dir name number inode can.led there file in_order one);
      in_order = subst InOrder (sym left.1) (sorted-remove nat_cmp (is_at (nat_cmp number)) tree.links in_order);
    })
    (cases_lt 1 (links_of S number false))
  where
    T : State
    T = swept (without_name S dir name)

    inode : Inode
    inode = can.file.inode

    there : inode_at S number ≡ Some inode
    there = can.file.there

    file : inode.dir ≡ false
    file = can.file.is_file

    shown : lookup (is_at (nat_cmp number)) tree.links ≡ Some (links_of S number false)
    shown = links-there S tree.links number inode kept there ∙ ap (λ b. Some (links_of S number b)) file
