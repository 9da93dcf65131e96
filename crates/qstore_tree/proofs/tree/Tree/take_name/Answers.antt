use Rattle.std.proofs.Common.{◌≡◌, ap, subst, sym, ◌∙◌}
use Rattle.std.specs.BTreeMap.{is_at}
use Rattle.std.specs.Map.{lookup}
use Rattle.qplain.specs.State.{name_key_cmp}
use Rattle.qstore_tree.specs.Room.{KeepsRoom}
use Rattle.qstore_tree.proofs.TreeChanges.{gone_seen}
use Rattle.std.specs.HashMap.{spare}
use Rattle.qstore_tree.specs.declared.node.Node.{Node}
use Rattle.qstore_tree.specs.Tree.{tree_of}
use Rattle.qstore_tree.proofs.Changed.{HasNone, IsChanged, inodes-kept, links-kept, names-absent, names-lost, room-no_less, room-same, seen_of}
use Rattle.qstore_tree.proofs.tree.Tree.take_name.Goals as goal
use Rattle.qstore_tree.proofs.tree.Tree.take_name.Goals.{in-Some, in-None}

pub returns : goal.returns
returns c = elim c.match-get_mut.branch [
  | in-Some w ↦
      let new : Node = w.take_name.new.self in
      let change : IsChanged c.args.self.now c.self.inside.nodes (c.get_mut.follows.lender new) c.args.dir w.in-Some.node.now new =
      record { seen = c.self.view_is; found = w.in-Some.ensures.value; writes = c.get_mut.follows.holds new } in
      let lost = ap (λ a. (seen_of a).names) w.self-inside-is ∙ names-lost change c.args.name.now w.take_name.ensures.names in
      record {
        inodes = ap (λ a. (seen_of a).inodes) w.self-inside-is ∙ inodes-kept change w.take_name.ensures.inode;
        names = lost;
        gone = ap (lookup (is_at (name_key_cmp (c.args.dir, c.args.name.now)))) lost
            ∙ gone_seen c.self.inside.nodes.entries _ c.args.self.now c.self.view_is (c.args.dir, c.args.name.now);
        room = subst (λ a. KeepsRoom c.args.self.now.room (seen_of a).room) (sym w.self-inside-is)
            (room-no_less change w.take_name.ensures.room w.take_name.ensures.file);
        links = ap (λ a. (seen_of a).links) w.self-inside-is ∙ links-kept change w.take_name.ensures.links;
      }
  | in-None w ↦
      let same : seen_of c.match-get_mut.self-inside ≡ c.args.self.now =
      ap seen_of w.self-inside-is ∙ ap (λ m. tree_of m.entries (spare m)) c.get_mut.follows.holds-at-none ∙ c.self.view_is in
      let none : HasNone c.args.self.now c.self.inside.nodes c.args.dir = record { seen = c.self.view_is; none = w.in-None.ensures.value } in
      let lost = ap (λ t. t.names) same ∙ names-absent none c.args.name.now in
      record {
        inodes = ap (λ t. t.inodes) same;
        names = lost;
        gone = ap (lookup (is_at (name_key_cmp (c.args.dir, c.args.name.now)))) lost
            ∙ gone_seen c.self.inside.nodes.entries _ c.args.self.now c.self.view_is (c.args.dir, c.args.name.now);
        room = room-same c.args.self.now (seen_of c.match-get_mut.self-inside) same;
        links = ap (λ t. t.links) same;
      }
]
