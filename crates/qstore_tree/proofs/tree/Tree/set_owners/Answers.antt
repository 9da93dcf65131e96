use Rattle.std.proofs.Common.{◌≡◌, None, Some, ap, sym, ◌∙◌}
use Rattle.std.specs.HashMap.{spare}
use Rattle.qstore_tree.specs.declared.node.Node.{Node}
use Rattle.qstore_tree.specs.Tree.{tree_of}
use Rattle.std.specs.BTreeMap.{is_at}
use Rattle.std.specs.Map.{set_value}
use Rattle.std.specs.Ordering.{nat_cmp}
use Rattle.qplain.specs.State.{Inode}
use Rattle.qplain.specs.Owners.{with_owners}
use Rattle.qstore_tree.proofs.Changed.{HasNone, IsChanged, inode-absent, inode-changed, inodes-set, links-kept, names-kept, seen_of}
use Rattle.qstore_tree.proofs.tree.Tree.set_owners.Goals as goal
use Rattle.qstore_tree.proofs.tree.Tree.set_owners.Goals.{in-Some, in-None}

pub returns : goal.returns
returns c = elim c.match-get_mut.branch [
  | in-Some w ↦
      let new : Node = w.set_owners.new.self in
      let change : IsChanged c.args.self.now c.self.inside.nodes (c.get_mut.follows.lender new) c.args.number w.in-Some.node.now new =
      record { seen = c.self.view_is; found = w.in-Some.ensures.value; writes = c.get_mut.follows.holds new } in
      let owned : Inode → Inode = λ i. with_owners i c.args.owners in
      record {
        inodes = λ inode is.
            ap (λ a. (seen_of a).inodes) w.self-inside-is ∙ inodes-set change
            ∙ ap (set_value (is_at (nat_cmp c.args.number)) c.args.self.now.inodes) (w.set_owners.ensures.inode
            ∙ ap owned (inode-changed change inode is));
        names = ap (λ a. (seen_of a).names) w.self-inside-is ∙ names-kept change w.set_owners.ensures.names;
        links = ap (λ a. (seen_of a).links) w.self-inside-is ∙ links-kept change w.set_owners.ensures.links;
      }
  | in-None w ↦
      let same : seen_of c.match-get_mut.self-inside ≡ c.args.self.now =
      ap seen_of w.self-inside-is ∙ ap (λ m. tree_of m.entries (spare m)) c.get_mut.follows.holds-at-none ∙ c.self.view_is in
      let none : HasNone c.args.self.now c.self.inside.nodes c.args.number = record { seen = c.self.view_is; none = w.in-None.ensures.value } in
      record {
        inodes = λ inode is. let no : None ≡ Some inode = sym (inode-absent none) ∙ is in cc;
        names = ap (λ t. t.names) same;
        links = ap (λ t. t.links) same;
      }
]
