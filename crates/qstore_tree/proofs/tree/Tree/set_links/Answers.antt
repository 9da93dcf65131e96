use Rattle.std.proofs.Common.{◌≡◌, ap, refl, ◌∙◌}
use Rattle.std.specs.HashMap.{spare}
use Rattle.qstore_tree.specs.declared.node.Node.{Node}
use Rattle.qstore_tree.specs.Tree.{tree_of}
use Rattle.qstore_tree.proofs.Changed.{HasNone, IsChanged, inodes-kept, links-absent, links-set, names-kept, room-kept, seen_of}
use Rattle.qstore_tree.proofs.tree.Tree.set_links.Goals as goal
use Rattle.qstore_tree.proofs.tree.Tree.set_links.Goals.{in-Some, in-None}

pub returns : goal.returns
returns c = elim c.match-get_mut.branch [
  | in-Some w ↦
      let new : Node = record w.in-Some.node.now { links = c.args.links } in
      let change : IsChanged c.args.self.now c.self.inside.nodes (c.get_mut.follows.lender new) c.args.number w.in-Some.node.now new =
      record { seen = c.self.view_is; found = w.in-Some.ensures.value; writes = c.get_mut.follows.holds new } in
      record {
        inodes = ap (λ a. (seen_of a).inodes) w.self-inside-is ∙ inodes-kept change refl;
        names = ap (λ a. (seen_of a).names) w.self-inside-is ∙ names-kept change refl;
        links = ap (λ a. (seen_of a).links) w.self-inside-is ∙ links-set change;
        room = ap (λ a. (seen_of a).room) w.self-inside-is ∙ room-kept change refl refl;
      }
  | in-None w ↦
      let same : seen_of c.match-get_mut.self-inside ≡ c.args.self.now =
      ap seen_of w.self-inside-is ∙ ap (λ m. tree_of m.entries (spare m)) c.get_mut.follows.holds-at-none ∙ c.self.view_is in
      let none : HasNone c.args.self.now c.self.inside.nodes c.args.number = record { seen = c.self.view_is; none = w.in-None.ensures.value } in
      record {
        inodes = ap (λ t. t.inodes) same;
        names = ap (λ t. t.names) same;
        links = ap (λ t. t.links) same ∙ links-absent none c.args.links;
        room = ap (λ t. t.room) same;
      }
]
